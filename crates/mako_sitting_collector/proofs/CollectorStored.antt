-- What stays of words where the collector stores into a ring, or lowers a flag.
use Rattle.std.proofs.Common.{◌≡◌, ◌≢◌, ℕ, ◌<◌, ◌⊎◌, inl, inr, List, length, set, sym, ap, subst, refl, ◌∙◌}
use Rattle.mako_words.specs.declared.phase_word.PhaseWord.{PhaseWord}
use Rattle.mako_words.specs.declared.phase_word.PhaseWord.TheVariants.{Idle, Trace, Evac, Stop}
use Rattle.mako_words.specs.Phases.{cycle_of}
use Rattle.mako_shape.specs.declared.numbers.Numbers.{Numbers}
use Rattle.mako_shape.specs.Places.{Place, phase, barrier, flags, work, notice, live, entry, index, total, Within}
use Rattle.mako_shape.specs.Places.{word_at}
use Rattle.mako_shape.proofs.PlaceLaws.{word_other}
use Rattle.mako_model.specs.declared.point.Point.{Point}
use Rattle.mako_model.specs.Legal.{Facts}
use Rattle.mako_model.proofs.Lists.{get_set_other}
use Rattle.mako_names.specs.Tables.{phase_of}
use Rattle.mako_names.proofs.Words.{phase_same}
use Rattle.mako_ring.specs.TraceFacets as trace
use Rattle.mako_layout.specs.Facets.{Choice}
use Rattle.mako_layout.specs.StepParts.{collector_seat}
use Rattle.mako_phases.specs.Lives.{LiveFacet}
use Rattle.mako_phases.specs.LiveSteps.{AgreeOnLives, OldMarksStay, Unseen}
use Rattle.mako_phases.specs.Snapshots.{before_snap}
use Rattle.mako_phases.proofs.Frames.{written}
use Rattle.mako_phases.proofs.LiveLaws.{past_stays}
use Rattle.mako_phases.proofs.Lives.{counts_kept}
use Rattle.mako_phases.proofs.MarkSteps.{marked_same}
use Rattle.mako_joint.specs.Joints.{JointScene, Joint}
use Rattle.mako_pause.specs.Collecting.{Collecting}
use Rattle.mako_mutating.specs.Beside.{Silent}
use Rattle.mako_tracing.specs.Laws.{BelongsAt}
use Rattle.mako_tracing.specs.ServerKeeps.{SlotsBelong}
use Rattle.mako_tracing.proofs.Belonging.{stores_leave_slots}
use Rattle.mako_writes.specs.Writes.{CollectorWrites, LeavesOthers}
use Rattle.mako_collecting.specs.Facets.{names_of, phase_facet, gate_facet}
use Rattle.mako_collecting.specs.Steps.{with_collector}
use Rattle.mako_sitting.specs.Seats.{LivesFit}
use Rattle.mako_sitting_collector.specs.CollectorLeaves.{CollectorLeaves, LeavesServers}

abbrev pub IsRoundPlace : Place → Type 0
IsRoundPlace (barrier m slot) = Unit {0}
IsRoundPlace (flags r) = Unit {0}
IsRoundPlace (work r slot) = Unit {0}
IsRoundPlace p = ⊥

-- a barrier slot is emptied alone
abbrev pub Empties : Place → ℕ → Type 0
Empties (barrier m slot) v = v ≡ 0
Empties p v = Unit {0}

-- one word is stored: a slot of a ring, or flags
pub record Stored (n : Numbers) (words us : List ℕ) : Type 0 where
  pub place : Place
  pub word : ℕ
  pub within : Within n place
  pub is : us ≡ set words (index n place) word
  pub kind : IsRoundPlace place
  pub writes : CollectorWrites place
  pub belongs : BelongsAt n place word
  pub empties : Empties place word

module _ (n : Numbers) (words us : List ℕ) (size : length words ≡ total n) (t : Stored n words us) where
  apart : (p : Place) → Within n p → p ≢ t.place → word_at n us p ≡ word_at n words p
  apart p within other =
      subst (λ (xs : List ℕ). word_at n xs p ≡ word_at n words p) (sym t.is)
      (word_other n words t.place p t.word t.within within other)

  pub stays : (p : Place) → Within n p → (IsRoundPlace p → ⊥) → word_at n us p ≡ word_at n words p
  stays p within other = apart p within (λ e. other (subst IsRoundPlace (sym e) t.kind))

  pub leaves_others : LeavesOthers n CollectorWrites words us
  leaves_others p within other = apart p within (λ e. other (subst CollectorWrites (sym e) t.writes))

  pub barriers_left : (m slot : ℕ) → m < n.mutators → slot < n.ring
      → (word_at n us (barrier m slot) ≡ word_at n words (barrier m slot)) ⊎ (word_at n us (barrier m slot) ≡ 0)
  barriers_left m slot low small =
      subst (λ (xs : List ℕ). (word_at n xs (barrier m slot) ≡ word_at n words (barrier m slot))
      ⊎ (word_at n xs (barrier m slot) ≡ 0)) (sym t.is)
      (elim (written n words t.place t.word size t.within (barrier m slot) (low, small)) [
        | inl e ↦ inr (e.1 ∙ subst (λ p. Empties p t.word) (sym e.0) t.empties)
        | inr e ↦ inl e.1
      ])

  pub same_phase : phase_of n us ≡ phase_of n words
  same_phase = phase_same n words us (stays phase tt (λ x. x))

  pub slots_left : SlotsBelong n words → SlotsBelong n us
  slots_left slots =
      subst (SlotsBelong n) (sym t.is) (stores_leave_slots n words t.place t.word size t.within slots t.belongs)

  -- ---- live counts

  agree : AgreeOnLives n words us
  agree x within = stays (live x) within (λ y. y)

  marks : (before : List Point) (cycle : ℕ) → OldMarksStay n before cycle words us
  marks before cycle x made = (
    λ m. marked_same n us words cycle x (sym (stays (entry x.entry) m.in_range (λ y. y))) m,
    λ m. marked_same n words us cycle x (stays (entry x.entry) m.in_range (λ y. y)) m,
  )

  fit : (w : Facts) (history : List Point) (lives : List LiveFacet) → length us ≡ total n → (p : PhaseWord)
      → LivesFit p n w words history lives → LivesFit p n w us history lives
  fit w history lives long (Idle cycle) past = past_stays n words us lives cycle past agree
  fit w history lives long (Trace cycle) counts =
      counts_kept n w (before_snap cycle history) cycle (record { words = words; facets = lives })
      (record { words = us; facets = lives }) counts
      (Unseen us (record { size = long; same = agree }) (marks (before_snap cycle history) cycle) refl)
  fit w history lives long (Evac cycle) past = past_stays n words us lives cycle past agree
  fit w history lives long (Stop cycle) past = past_stays n words us lives cycle past agree

  pub lives_left : (w : Facts) (history : List Point) (lives : List LiveFacet) → length us ≡ total n
      → LivesFit (phase_of n words) n w words history lives → LivesFit (phase_of n us) n w us history lives
  lives_left w history lives long f =
      subst (λ p. LivesFit p n w us history lives) (sym same_phase) (fit w history lives long (phase_of n words) f)

-- ---- what it leaves to the other seats

module _ (n : Numbers) (w : Facts) (s : JointScene) (j : Joint n w s) (us : List ℕ) (choice : Choice)
    (next : Collecting) (t : Stored n s.words us) where
  pub leaves_seats : CollectorLeaves n w s j (with_collector n s us choice next)
  leaves_seats = record {
    goes = λ m. Silent;
    trace = λ i beside.
        get_set_other s.facets.trace (collector_seat n) i (trace.collecting (names_of next)) beside;
    gates = λ i beside. get_set_other s.facets.gates (collector_seat n) i (gate_facet n next) beside;
    works = λ i beside. refl;
    phases = λ i beside. get_set_other s.facets.phases (collector_seat n) i (phase_facet n next) beside;
    held = refl;
    trying = refl;
    left = refl;
    servers = refl;
    words = leaves_others n s.words us j.names.hold.size t;
    barriers = barriers_left n s.words us j.names.hold.size t;
    cycle = inl (ap cycle_of (same_phase n s.words us j.names.hold.size t));
  }

  pub leaves_servers : LeavesServers n s (with_collector n s us choice next)
  leaves_servers = record {
    front = refl;
    phase = same_phase n s.words us j.names.hold.size t;
    through = refl;
    sent = refl;
    notices = λ r slot low small. stays n s.words us j.names.hold.size t (notice r slot) (low, small) (λ x. x);
  }
