-- What a step of the choice leaves: all words but homes, tops and leavings, and what the collector keeps of the rest.
use Rattle.std.proofs.Common.{◌≡◌, ◌≢◌, ℕ, ◌+◌, ◌*◌, ◌==◌, nat_lt, inl, ◌⊎◌, Option, Some, None, List, [], ◌∷◌, ◌++◌}
use Rattle.std.proofs.Common.{length, sym, ap, subst, refl, ◌∙◌}
use Rattle.mako_words.specs.declared.phase_word.PhaseWord.{PhaseWord}
use Rattle.mako_words.specs.declared.phase_word.PhaseWord.TheVariants.{Idle, Trace, Evac, Stop}
use Rattle.mako_words.specs.Phases.{cycle_of}
use Rattle.mako_shape.specs.declared.numbers.Numbers.{Numbers}
use Rattle.mako_shape.specs.Places.{Place, phase, barrier, work, ghost, notice, home, top, leaving, live, entry, index}
use Rattle.mako_shape.specs.Places.{total, Within, word_at}
use Rattle.mako_shape.proofs.PlaceLaws.{word_other}
use Rattle.mako_model.specs.declared.point.Point.{Point}
use Rattle.mako_model.specs.Legal.{Facts}
use Rattle.mako_model.proofs.Lists.{get_set_other}
use Rattle.mako_names.specs.Tables.{phase_of}
use Rattle.mako_names.proofs.Words.{phase_same}
use Rattle.mako_ring.specs.TraceFacets as trace
use Rattle.mako_layout.specs.Facets.{Choice}
use Rattle.mako_layout.specs.StepParts.{collector_seat}
use Rattle.mako_phases.specs.Lives.{LiveFacet}
use Rattle.mako_phases.specs.LiveSteps.{AgreeOnLives, OldMarksStay, Unseen}
use Rattle.mako_phases.specs.Snapshots.{before_snap}
use Rattle.mako_phases.proofs.LiveLaws.{past_stays}
use Rattle.mako_phases.proofs.Lives.{counts_kept}
use Rattle.mako_phases.proofs.MarkSteps.{marked_same}
use Rattle.mako_joint.specs.Joints.{JointScene, Joint}
use Rattle.mako_pause.specs.Collecting.{Collecting, Holdings, at, chosen_tablet, gifts_from, gift_of, servers_from}
use Rattle.mako_pause.specs.Collecting.{server_chosen, after_tablet, choice_fed, spare_for}
use Rattle.mako_pause.specs.declared.stage.ChoiceStage.{ChoiceStage}
use Rattle.mako_pause.specs.declared.stage.ChoiceStage.TheVariants.{LoadingLive, LoadingTop, LoadingHome}
use Rattle.mako_pause.specs.declared.stage.ChoiceStage.TheVariants.{StoringLeaving, StoringHome, StoringTop}
use Rattle.mako_pause.specs.declared.stage.ChoiceStage.TheVariants.{StoringEvac, Opening as Reopening}
use Rattle.mako_pause.specs.declared.stage.CollectStage.{CollectStage}
use Rattle.mako_pause.specs.declared.stage.CollectStage.TheVariants.{Idle, Choosing}
use Rattle.mako_mutating.specs.Beside.{Silent}
use Rattle.mako_tracing.specs.ServerKeeps.{SlotsBelong, IsNameFor}
use Rattle.mako_writes.specs.Writes.{CollectorWrites, LeavesOthers}
use Rattle.mako_collecting.specs.Facets.{names_of, phase_facet, gate_facet}
use Rattle.mako_collecting.specs.Laws.{Stands}
use Rattle.mako_collecting.specs.Steps.{with_collector, words_next}
use Rattle.mako_collecting.proofs.Idling.{either_way}
use Rattle.mako_collecting.proofs.Stays.{load_leaves}
use Rattle.mako_sitting.specs.Seats.{LivesFit}
use Rattle.mako_sitting_collector.specs.CollectorChoices.{IsOfChoice}
use Rattle.mako_sitting_collector.specs.CollectorLeaves.{CollectorLeaves, LeavesServers}

-- ---- words

-- a word of a tablet that the choice stores
abbrev pub IsChosenPlace : Place → Type 0
IsChosenPlace (home t) = Unit {0}
IsChosenPlace (top t) = Unit {0}
IsChosenPlace (leaving t) = Unit {0}
IsChosenPlace p = ⊥

-- all others are as they were
abbrev pub LeavesRest : Numbers → List ℕ → List ℕ → Type 0
LeavesRest n words us = (p : Place) → Within n p → (IsChosenPlace p → ⊥) → word_at n us p ≡ word_at n words p

stored_rest : (n : Numbers) (words : List ℕ) (p : Place) (v : ℕ) → Within n p → IsChosenPlace p → (us : List ℕ)
    → ((q : Place) → Within n q → q ≢ p → word_at n us q ≡ word_at n words q) → LeavesRest n words us
stored_rest n words p v inside is us others q within other =
    others q within (λ e. other (subst IsChosenPlace (sym e) is))

loaded_rest : (n : Numbers) (words us : List ℕ) → us ≡ words → LeavesRest n words us
loaded_rest n words us same q within other = ap (λ (xs : List ℕ). word_at n xs q) same

rest_at : (w : Facts) (s : JointScene) (places : ℕ → ℕ) (k : Holdings) (stage : ChoiceStage) → IsOfChoice stage
    → Stands k.shape w s places (at k (Choosing stage))
    → LeavesRest k.shape s.words (words_next (at k (Choosing stage)) s.words)
rest_at w s places k (LoadingLive r place) is x =
    loaded_rest k.shape s.words (words_next (at k (Choosing (LoadingLive r place))) s.words)
    (load_leaves s.words (index k.shape (live (r * k.shape.tablets + place))))
rest_at w s places k (LoadingTop r place number) is x =
    loaded_rest k.shape s.words (words_next (at k (Choosing (LoadingTop r place number))) s.words)
    (load_leaves s.words (index k.shape (top (r * k.shape.tablets + place))))
rest_at w s places k (LoadingHome i) is x =
    loaded_rest k.shape s.words (words_next (at k (Choosing (LoadingHome i))) s.words)
    (load_leaves s.words (index k.shape (home (chosen_tablet k i))))
rest_at w s places k (StoringLeaving i gift) is x =
    let inside = x.known.chosen i 0 x.keeps.stage.1.0 in
    stored_rest k.shape s.words (leaving (chosen_tablet k i)) (gift.former + 1) inside tt
    (words_next (at k (Choosing (StoringLeaving i gift))) s.words)
    (λ q within other. word_other k.shape s.words (leaving (chosen_tablet k i)) q (gift.former + 1) inside within other)
rest_at w s places k (StoringHome i gift) is x =
    let inside = x.known.chosen i 0 x.keeps.stage.1.0 in
    stored_rest k.shape s.words (home (chosen_tablet k i)) gift.region inside tt
    (words_next (at k (Choosing (StoringHome i gift))) s.words)
    (λ q within other. word_other k.shape s.words (home (chosen_tablet k i)) q gift.region inside within other)
rest_at w s places k (StoringTop i) is x =
    let inside = x.known.chosen i 0 x.keeps.stage.1 in
    stored_rest k.shape s.words (top (chosen_tablet k i)) 0 inside tt
    (words_next (at k (Choosing (StoringTop i))) s.words)
    (λ q within other. word_other k.shape s.words (top (chosen_tablet k i)) q 0 inside within other)
rest_at w s places k StoringEvac is x = absurd is
rest_at w s places k (Reopening m) is x = absurd is

pub choice_leaves_rest : (n : Numbers) (w : Facts) (s : JointScene) (places : ℕ → ℕ) (k : Holdings)
    (stage : ChoiceStage) → IsOfChoice stage → Stands n w s places (at k (Choosing stage))
    → LeavesRest n s.words (words_next (at k (Choosing stage)) s.words)
choice_leaves_rest n w s places k stage is stands =
    subst (λ m. Stands m w s places (at k (Choosing stage))
    → LeavesRest m s.words (words_next (at k (Choosing stage)) s.words)) stands.seat.shape
    (rest_at w s places k stage is) stands

module _ (n : Numbers) (words us : List ℕ) (rest : LeavesRest n words us) where
  pub rest_phase : phase_of n us ≡ phase_of n words
  rest_phase = phase_same n words us (rest phase tt (λ x. x))

  rest_others : LeavesOthers n CollectorWrites words us
  rest_others p within other = rest p within (writes p other)
    where
      writes : (q : Place) → (CollectorWrites q → ⊥) → IsChosenPlace q → ⊥
      writes (home t) o is = o tt
      writes (top t) o is = o tt
      writes (leaving t) o is = o tt
      writes p o is = absurd is

  pub rest_slots : SlotsBelong n words → SlotsBelong n us
  rest_slots slots = record {
    works = λ r l within. subst (λ x. (x ≡ 0) ⊎ IsNameFor n r x) (sym (rest (work r l) within (λ x. x)))
        (slots.works r l within);
    ghosts = λ a r l within. subst (λ x. (x ≡ 0) ⊎ IsNameFor n r x) (sym (rest (ghost a r l) within (λ x. x)))
        (slots.ghosts a r l within);
  }

  rest_agree : AgreeOnLives n words us
  rest_agree t within = rest (live t) within (λ x. x)

  rest_marks : (before : List Point) (cycle : ℕ) → OldMarksStay n before cycle words us
  rest_marks before cycle x made = (
    λ m. marked_same n us words cycle x (sym (rest (entry x.entry) m.in_range (λ y. y))) m,
    λ m. marked_same n words us cycle x (rest (entry x.entry) m.in_range (λ y. y)) m,
  )

  rest_fit : (w : Facts) (history : List Point) (lives : List LiveFacet) → length us ≡ total n → (p : PhaseWord)
      → LivesFit p n w words history lives → LivesFit p n w us history lives
  rest_fit w history lives long (Idle cycle) past = past_stays n words us lives cycle past rest_agree
  rest_fit w history lives long (Trace cycle) counts =
      counts_kept n w (before_snap cycle history) cycle (record { words = words; facets = lives })
      (record { words = us; facets = lives }) counts
      (Unseen us (record { size = long; same = rest_agree }) (rest_marks (before_snap cycle history) cycle) refl)
  rest_fit w history lives long (Evac cycle) past = past_stays n words us lives cycle past rest_agree
  rest_fit w history lives long (Stop cycle) past = past_stays n words us lives cycle past rest_agree

  pub rest_lives : (w : Facts) (history : List Point) (lives : List LiveFacet) → length us ≡ total n
      → LivesFit (phase_of n words) n w words history lives → LivesFit (phase_of n us) n w us history lives
  rest_lives w history lives long f =
      subst (λ p. LivesFit p n w us history lives) (sym rest_phase)
      (rest_fit w history lives long (phase_of n words) f)

-- ---- what it leaves to the other seats

module _ (n : Numbers) (w : Facts) (s : JointScene) (j : Joint n w s) (us : List ℕ) (choice : Choice)
    (next : Collecting) (rest : LeavesRest n s.words us) where
  pub rest_seats : CollectorLeaves n w s j (with_collector n s us choice next)
  rest_seats = record {
    goes = λ m. Silent;
    trace = λ i beside.
        get_set_other s.facets.trace (collector_seat n) i (trace.collecting (names_of next)) beside;
    gates = λ i beside. get_set_other s.facets.gates (collector_seat n) i (gate_facet n next) beside;
    works = λ i beside. refl;
    phases = λ i beside. get_set_other s.facets.phases (collector_seat n) i (phase_facet n next) beside;
    held = refl;
    trying = refl;
    left = refl;
    servers = refl;
    words = rest_others n s.words us rest;
    barriers = λ m slot low small. inl (rest (barrier m slot) (low, small) (λ x. x));
    cycle = inl (ap cycle_of (rest_phase n s.words us rest));
  }

  pub rest_servers : LeavesServers n s (with_collector n s us choice next)
  rest_servers = record {
    front = refl;
    phase = rest_phase n s.words us rest;
    through = refl;
    sent = refl;
    notices = λ r slot low small. rest (notice r slot) (low, small) (λ x. x);
  }

-- ---- what it keeps

abbrev pub IsChoosing : CollectStage → Type 0
IsChoosing (Choosing stage) = Unit {0}
IsChoosing stage = ⊥

-- it goes on choosing, and what it has of notices, cycles and freed names is as it was
pub record GoesOnChoosing (k : Holdings) (c : Collecting) : Type 0 where
  pub shape : c.kept.shape ≡ k.shape
  pub notices : c.kept.notice_at ≡ k.notice_at
  pub cycles : c.kept.cycles ≡ k.cycles
  pub freed : c.kept.freed ≡ k.freed
  pub chooses : IsChoosing c.stage

here : (k : Holdings) (stage : ChoiceStage) → GoesOnChoosing k (at k (Choosing stage))
here k stage = record { shape = refl; notices = refl; cycles = refl; freed = refl; chooses = tt }

moved : (k h : Holdings) (c : Collecting) → GoesOnChoosing k (at h (Choosing StoringEvac)) → GoesOnChoosing h c
    → GoesOnChoosing k c
moved k h c a b = record {
  shape = b.shape ∙ a.shape;
  notices = b.notices ∙ a.notices;
  cycles = b.cycles ∙ a.cycles;
  freed = b.freed ∙ a.freed;
  chooses = b.chooses;
}

gifts_go : (k : Holdings) (i : ℕ) → GoesOnChoosing k (gifts_from k i)
gifts_go k i =
    either_way (GoesOnChoosing k) (nat_lt i (length k.chosen)) (at k (Choosing (LoadingHome i)))
    (at k (Choosing StoringEvac)) (λ e. here k (LoadingHome i)) (λ e. here k StoringEvac)

gift_goes : (k : Holdings) (i former : ℕ) (o : Option ℕ) → GoesOnChoosing k (gift_of k i former o)
gift_goes k i former None = here k StoringEvac
gift_goes k i former (Some region) = here k (StoringLeaving i (record { former = former; region = region }))

servers_go : (k : Holdings) (r : ℕ) → GoesOnChoosing k (servers_from k r)
servers_go k r =
    either_way (GoesOnChoosing k) (r == k.shape.servers) (gifts_from k 0) (at k (Choosing (LoadingLive r 0)))
    (λ e. gifts_go k 0) (λ e. here k (LoadingLive r 0))

tablets_go : (k : Holdings) (r place : ℕ) → GoesOnChoosing k (after_tablet k r place)
tablets_go k r place =
    either_way (GoesOnChoosing k) (place + 1 == k.shape.tablets) (servers_from (server_chosen k r) (r + 1))
    (at k (Choosing (LoadingLive r (place + 1))))
    (λ e. moved k (server_chosen k r) (servers_from (server_chosen k r) (r + 1))
    (record { shape = refl; notices = refl; cycles = refl; freed = refl; chooses = tt })
    (servers_go (server_chosen k r) (r + 1))) (λ e. here k (LoadingLive r (place + 1)))

pub choice_goes : (k : Holdings) (stage : ChoiceStage) → IsOfChoice stage → (x : ℕ)
    → GoesOnChoosing k (choice_fed k stage x)
choice_goes k (LoadingLive r place) is x =
    record { shape = refl; notices = refl; cycles = refl; freed = refl; chooses = tt }
choice_goes k (LoadingTop r place number) is x =
    let h : Holdings = record k { used = k.used ++ record { top = x; live = number } ∷ [] } in
    moved k h (after_tablet h r place)
    (record { shape = refl; notices = refl; cycles = refl; freed = refl; chooses = tt }) (tablets_go h r place)
choice_goes k (LoadingHome i) is x = gift_goes k i x (spare_for k (chosen_tablet k i))
choice_goes k (StoringLeaving i gift) is x = here k (StoringHome i gift)
choice_goes k (StoringHome i gift) is x =
    record { shape = refl; notices = refl; cycles = refl; freed = refl; chooses = tt }
choice_goes k (StoringTop i) is x = gifts_go k (i + 1)
choice_goes k StoringEvac is x = absurd is
choice_goes k (Reopening m) is x = absurd is
