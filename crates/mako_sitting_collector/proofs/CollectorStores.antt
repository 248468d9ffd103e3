-- The collector's stores at gates and of the phase: what they leave, and what stands after them.
use Rattle.std.proofs.Common.{◌≡◌, ◌≢◌, ℕ, ◌*◌, ◌<◌, ◌⊎◌, inl, List, map, slice_get, slice_set, slice_index, Some, sym}
use Rattle.std.proofs.Common.{ap, subst, refl, ◌∙◌, arith}
use Rattle.mako_words.specs.declared.entry_word.EntryWord.{EntryWord}
use Rattle.mako_words.specs.declared.phase_word.PhaseWord.{PhaseWord}
use Rattle.mako_words.specs.declared.phase_word.PhaseWord.TheVariants.{Idle as IdlePhase, Trace, Evac, Stop}
use Rattle.mako_words.specs.Phases.{cycle_of}
use Rattle.mako_shape.specs.declared.numbers.Numbers.{Numbers}
use Rattle.mako_shape.specs.Places.{Place, phase, mutator_gate, barrier, notice, work, ghost, live, entry}
use Rattle.mako_step.specs.Acts.{finds}
use Rattle.mako_model.specs.declared.point.Point.{Point}
use Rattle.mako_model.specs.Legal.{Facts}
use Rattle.mako_model.proofs.Lists.{get_set_other}
use Rattle.mako_mutating.specs.Beside.{Silent}
use Rattle.mako_names.specs.Tables.{phase_of, entry_of}
use Rattle.mako_names.proofs.Words.{entry_same}
use Rattle.mako_layout.specs.StepParts.{collector_seat}
use Rattle.mako_phases.specs.Lives.{LiveFacet}
use Rattle.mako_phases.specs.LiveSteps.{AgreeOnLives, OldMarksStay, Unseen}
use Rattle.mako_phases.specs.Snapshots.{before_snap}
use Rattle.mako_phases.proofs.LiveLaws.{past_stays}
use Rattle.mako_phases.proofs.Lives.{counts_kept}
use Rattle.mako_ring.specs.TraceFacets as trace
use Rattle.mako_joint.specs.Joints.{JointScene, Joint}
use Rattle.mako_pause.specs.Collecting.{Collecting, Holdings, at, next_of, Fits}
use Rattle.mako_pause.specs.declared.stage.CollectStage.{CollectStage}
use Rattle.mako_seat.specs.declared.seat.Seat.{Seat}
use Rattle.mako_seat.specs.declared.seat.Seat.TheVariants.{Server, Collector}
use Rattle.mako_server.specs.Serving.{Serving}
use Rattle.mako_tracing.specs.ServerKeeps.{SlotsBelong, IsNameFor}
use Rattle.mako_collecting.specs.Facets.{names_of, phase_facet, gate_facet}
use Rattle.mako_collecting.specs.Laws.{Stands, IsUpToEvac}
use Rattle.mako_collecting.specs.Steps.{words_next, collector_next, stepped}
use Rattle.mako_collecting.proofs.EachKept.{seats_stay, steps_keep_their_own}
use Rattle.mako_collecting.proofs.Known.{steps_keep_known}
use Rattle.mako_writes.specs.Writes.{CollectorWrites, LeavesOthers}
use Rattle.mako_writes.proofs.Collectors.{collectors_write}
use Rattle.mako_sitting.specs.Seats.{RestSits, ServerSits, CollectorSits, LivesFit, live_facet, AllSit}
use Rattle.mako_sitting_collector.specs.CollectorLeaves.{CollectorLeaves}
use Rattle.mako_sitting_collector.proofs.CollectorLooks.{Leaves}
use Rattle.mako_sitting_collector.proofs.CollectorOthers.{servers_sit, servers_sit_past, all_sit}

-- the places of these stores
abbrev pub GateOrPhase : Place → Type 0
GateOrPhase (mutator_gate m) = Unit {0}
GateOrPhase phase = Unit {0}
GateOrPhase p = ⊥

-- marks stay where entries do
marks_stay : (n : Numbers) (words us : List ℕ) (before : List Point) (cycle : ℕ)
    → ((x : ℕ) → x < n.servers * n.tablets * n.entries → entry_of n us x ≡ entry_of n words x)
    → OldMarksStay n before cycle words us
marks_stay n words us before cycle same x old = (
  λ m. let e = same x.entry m.in_range in record {
    in_range = m.in_range;
    taken = ap (λ (q : EntryWord). q.taken) (sym e) ∙ m.taken;
    generation = ap (λ (q : EntryWord). q.generation) (sym e) ∙ m.generation;
    epoch = ap (λ (q : EntryWord). q.epoch) (sym e) ∙ m.epoch;
  },
  λ m. let e = same x.entry m.in_range in record {
    in_range = m.in_range;
    taken = ap (λ (q : EntryWord). q.taken) e ∙ m.taken;
    generation = ap (λ (q : EntryWord). q.generation) e ∙ m.generation;
    epoch = ap (λ (q : EntryWord). q.epoch) e ∙ m.epoch;
  },
)

module _ (n : Numbers) (w : Facts) (s : JointScene) (seats : List Seat) (i : ℕ) (k : Holdings) (stage : CollectStage)
    (up : IsUpToEvac stage) (all : AllSit n w s seats) (here : slice_get seats i ≡ Some (Collector (at k stage)))
    (fits : Fits (at k stage) (finds (next_of (at k stage)) s.words)) where
  abbrev next : Collecting
  next = collector_next (at k stage) s.words

  abbrev us : List ℕ
  us = words_next (at k stage) s.words

  abbrev after : JointScene
  after = stepped n s (at k stage)

  abbrev sits : CollectorSits n w s all.taker all.places i (at k stage)
  sits = all.each i (Collector (at k stage)) here

  pub stands : Stands n w s all.places (at k stage)
  stands = record { joint = all.joint; seat = sits.here; known = sits.known; keeps = sits.keeps }

  module _ (joint : Joint n w after) (rest : LeavesOthers n GateOrPhase s.words us)
      (cycle : cycle_of (phase_of n us) ≡ cycle_of (phase_of n s.words)) (leaves : Leaves n after k next) where
    own : CollectorSits n w after all.taker all.places i next
    own = record {
      number = sits.number;
      here = seats_stay n s (at k stage) next us s.facets.choice sits.here (leaves.shape ∙ sits.here.shape);
      known = steps_keep_known n w s all.places k stage up stands fits;
      keeps = steps_keep_their_own n w s all.places k stage up stands fits;
      takes = λ r. sits.takes r ∙ ap (λ xs. slice_index xs r) (sym leaves.notices);
      found = leaves.found;
      choice = leaves.choice;
      gathers = leaves.gathers;
      lists = ap (λ x. x.lists) leaves.cycles ∙ sits.lists;
      room = ap (λ x. x.names_room) leaves.cycles ∙ sits.room;
    }

    others : CollectorLeaves n w s all.joint after
    others = record {
      goes = λ m. Silent;
      trace = λ m beside.
          get_set_other s.facets.trace (collector_seat n) m (trace.collecting (names_of next)) beside;
      gates = λ m beside. get_set_other s.facets.gates (collector_seat n) m (gate_facet n next) beside;
      works = λ m beside. refl;
      phases = λ m beside. get_set_other s.facets.phases (collector_seat n) m (phase_facet n next) beside;
      held = refl;
      trying = refl;
      left = refl;
      servers = refl;
      words = subst (λ x. LeavesOthers x CollectorWrites s.words us) sits.here.shape
          (collectors_write (at k stage) s.words sits.known sits.keeps.stage);
      barriers = λ m slot low small. inl (rest (barrier m slot) (low, small) (λ x. x));
      cycle = inl cycle;
    }

    slots : SlotsBelong n us
    slots = record {
      works = λ r at within.
          subst (λ x. (x ≡ 0) ⊎ IsNameFor n r x) (sym (rest (work r at) within (λ x. x)))
          (all.slots.works r at within);
      ghosts = λ a r at within.
          subst (λ x. (x ≡ 0) ⊎ IsNameFor n r x) (sym (rest (ghost a r at) within (λ x. x)))
          (all.slots.ghosts a r at within);
    }

    agree : AgreeOnLives n s.words us
    agree t within = rest (live t) within (λ x. x)

    beside : (j : ℕ) (v : Serving) → ServerSits n w s (all.taker v.tracer.server) j v → j ≢ collector_seat n
    beside j v x e = let number = x.number in let low = x.in_range in absurd (omega arith)

    -- where the phase stays
    same_lives : (p : PhaseWord) (lives : List LiveFacet) → LivesFit p n w s.words s.front.history lives
        → LivesFit p n w us s.front.history lives
    same_lives (IdlePhase c) lives past = past_stays n s.words us lives c past agree
    same_lives (Trace c) lives counts =
        counts_kept n w (before_snap c s.front.history) c (record { words = s.words; facets = lives })
        (record { words = us; facets = lives }) counts
        (Unseen us (record { size = joint.names.hold.size; same = agree })
        (marks_stay n s.words us (before_snap c s.front.history) c
        (λ x within. entry_same n s.words us x (rest (entry x) within (λ x. x)))) refl)
    same_lives (Evac c) lives past = past_stays n s.words us lives c past agree
    same_lives (Stop c) lives past = past_stays n s.words us lives c past agree

    pub gate_keeps : phase_of n us ≡ phase_of n s.words → AllSit n w after (slice_set seats i (Collector next))
    gate_keeps same =
        all_sit n w s seats i (at k stage) next after all here others joint all.taker
        (λ j v is. let x = all.each j (Server v) is in
        servers_sit n w s all.joint after others joint
        (record {
          front = refl;
          phase = same;
          through = refl;
          sent = refl;
          notices = λ server slot low small. rest (notice server slot) (low, small) (λ x. x);
        })
        (all.taker v.tracer.server) j v (beside j v x) x) own slots all.few
        (subst (λ p. LivesFit p n w us s.front.history (map live_facet seats)) (sym same)
        (same_lives (phase_of n s.words) (map live_facet seats) all.lives))

    -- where another is stored, by what servers at rest keep in it, and live counts
    pub phase_keeps : ((taker : ℕ) (v : Serving) → RestSits n s taker v → v.tracer.server < n.servers
        → RestSits n after taker v)
        → LivesFit (phase_of n us) n w us s.front.history (map live_facet seats)
        → AllSit n w after (slice_set seats i (Collector next))
    phase_keeps rests lives =
        all_sit n w s seats i (at k stage) next after all here others joint all.taker
        (λ j v is. let x = all.each j (Server v) is in
        servers_sit_past n w s all.joint after others joint refl refl refl
        (λ server slot low small. rest (notice server slot) (low, small) (λ x. x)) (all.taker v.tracer.server) j v
        (beside j v x) (λ r. rests (all.taker v.tracer.server) v r x.in_range) x) own slots all.few lives
