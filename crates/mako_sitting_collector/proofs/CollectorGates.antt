-- The collector's stores at gates, and the store of Stop, keep all seats.
use Rattle.std.proofs.Common.{◌≡◌, ℕ, ◌+◌, ◌<◌, ◌==◌, List, [], ◌∷◌, map, set, slice_get, slice_set, Some, sym, ap}
use Rattle.std.proofs.Common.{subst, refl, ◌∙◌}
use Rattle.mako_words.specs.declared.gate_word.TheConstants.GateWord.{SHUT}
use Rattle.mako_words.specs.declared.name.Name.{Name}
use Rattle.mako_words.specs.declared.phase_word.PhaseWord.TheVariants.{Idle as IdlePhase, Stop}
use Rattle.mako_words.specs.Phases.{cycle_of, phase_word}
use Rattle.mako_words.specs.Words.{all_but}
use Rattle.mako_shape.specs.declared.numbers.Numbers.{Numbers}
use Rattle.mako_shape.specs.Places.{Place, phase, mutator_gate, notice, live, index, Within}
use Rattle.mako_step.specs.Acts.{finds, does, words_stepped}
use Rattle.mako_step.specs.declared.act.Op.{Op}
use Rattle.mako_step.specs.declared.act.Op.TheVariants.{Or, And, Store}
use Rattle.mako_model.specs.Legal.{Facts}
use Rattle.mako_names.specs.Tables.{phase_of}
use Rattle.mako_names.proofs.Words.{phase_same, phase_stored}
use Rattle.mako_layout.specs.Facets.{Gift, Choice, rests_with}
use Rattle.mako_phases.proofs.LiveLaws.{past_stays}
use Rattle.mako_joint.specs.Joints.{JointScene, Joint}
use Rattle.mako_pause.specs.Collecting.{Holdings, at, next_of, stage_next, Fits, forward, forward_from, pause_fed}
use Rattle.mako_pause.specs.Collecting.{choice_fed}
use Rattle.mako_pause.specs.declared.stage.Pause.{Pause}
use Rattle.mako_pause.specs.declared.stage.Pause.TheVariants.{Snapshot, Choice as ForChoice}
use Rattle.mako_pause.specs.declared.stage.IdleStage.TheVariants.{StoringStop}
use Rattle.mako_pause.specs.declared.stage.PauseStage.TheVariants.{Shutting, Draining, LoadingRoot, StoringTrace}
use Rattle.mako_pause.specs.declared.stage.PauseStage.TheVariants.{Opening}
use Rattle.mako_pause.specs.declared.stage.BarrierStage.TheVariants.{Loading}
use Rattle.mako_pause.specs.declared.stage.ChoiceStage.TheVariants.{LoadingLive, LoadingTop, LoadingHome}
use Rattle.mako_pause.specs.declared.stage.ChoiceStage.TheVariants.{StoringLeaving, StoringHome, StoringTop}
use Rattle.mako_pause.specs.declared.stage.ChoiceStage.TheVariants.{StoringEvac, Opening as Reopening}
use Rattle.mako_pause.specs.declared.stage.NoticeStage.TheVariants.{Looking as NoticeLook}
use Rattle.mako_pause.specs.declared.stage.CollectStage.{CollectStage}
use Rattle.mako_pause.specs.declared.stage.CollectStage.TheVariants.{Idle, Pausing, Forwarding, Barriers, Emptying}
use Rattle.mako_pause.specs.declared.stage.CollectStage.TheVariants.{Polling, Choosing, Noticing, Ended}
use Rattle.mako_seat.specs.declared.seat.Seat.{Seat}
use Rattle.mako_seat.specs.declared.seat.Seat.TheVariants.{Collector}
use Rattle.mako_server.specs.Serving.{Serving}
use Rattle.mako_clearing.proofs.Rings.{sending_stays}
use Rattle.mako_collecting.specs.Findings.{StageFound}
use Rattle.mako_collecting.specs.Laws.{IsUpToEvac}
use Rattle.mako_collecting.specs.Roles.{ChoiceOf}
use Rattle.mako_collecting.specs.Steps.{with_collector, words_next, collector_next, stepped}
use Rattle.mako_collecting.proofs.EachStage.{idle_steps_keep, pause_steps_keep, choice_steps_keep}
use Rattle.mako_collecting.proofs.Idling.{either_way, phase_now, small_now}
use Rattle.mako_writes.specs.Writes.{LeavesOthers}
use Rattle.mako_writes.proofs.Touching.{at_place}
use Rattle.mako_sitting.specs.Seats.{GoneOver, HeardIn, RestSits, ChoiceSits, SparesAre, GathersAt, CollectorSits}
use Rattle.mako_sitting.specs.Seats.{LivesFit, live_facet, AllSit}
use Rattle.mako_sitting_collector.specs.CollectorGates.{IsGateStore, GatesKeepAll, StopsKeepAll}
use Rattle.mako_sitting_collector.proofs.CollectorLooks.{Leaves}
use Rattle.mako_sitting_collector.proofs.CollectorStores.{GateOrPhase, stands, gate_keeps, phase_keeps}

-- ---- what a store leaves of what the collector keeps

module _ (n : Numbers) (z : JointScene) (k : Holdings) where
  abbrev Rested : Type 0
  Rested = (spare : List ℕ) × (z.facets.choice ≡ rests_with spare) × SparesAre n k spare

  abbrev Fresh : Type 0
  Fresh = (k.freed ≡ []) × (z.facets.names.collector ≡ record { server = 0; names = [] })

  -- all of it
  still : (stage : CollectStage) → StageFound n z.words k stage → ChoiceSits n z k stage
      → GathersAt n k stage z.facets.names.collector → Leaves n z k (at k stage)
  still stage found choice gathers = record {
    shape = refl;
    notices = refl;
    cycles = refl;
    found = found;
    choice = choice;
    gathers = gathers;
  }

  shut_left : (pause : Pause) (m x : ℕ) → Rested → GathersAt n k (Pausing (Shutting pause m)) z.facets.names.collector
      → Leaves n z k (pause_fed k (Shutting pause m) x)
  shut_left Snapshot m x c g =
      either_way (Leaves n z k) (m + 1 == k.shape.mutators) (at k (Pausing (Draining Snapshot 0)))
      (at k (Pausing (Shutting Snapshot (m + 1)))) (λ e. still (Pausing (Draining Snapshot 0)) tt c g)
      (λ e. still (Pausing (Shutting Snapshot (m + 1))) tt c g)
  shut_left ForChoice m x c g =
      either_way (Leaves n z k) (m + 1 == k.shape.mutators) (at k (Pausing (Draining ForChoice 0)))
      (at k (Pausing (Shutting ForChoice (m + 1)))) (λ e. still (Pausing (Draining ForChoice 0)) tt c g)
      (λ e. still (Pausing (Shutting ForChoice (m + 1))) tt c g)

  forward_left : (xs : List Name) → Rested → Fresh → Leaves n z k (forward_from k xs)
  forward_left [] c g = still (Barriers (Loading 0)) tt c g
  forward_left (x ∷ xs) c g = record {
    shape = refl;
    notices = refl;
    cycles = refl;
    found = tt;
    choice = c;
    gathers = g;
  }

  open_left : (m x : ℕ) → Rested → Fresh → Leaves n z k (pause_fed k (Opening m) x)
  open_left m x c g =
      either_way (Leaves n z k) (m + 1 == k.shape.mutators) (forward k) (at k (Pausing (Opening (m + 1))))
      (λ e. forward_left k.pending c g) (λ e. still (Pausing (Opening (m + 1))) tt c g)

  -- where the gates are opened after the store of Evac, the choice is made
  reopen_left : (words : List ℕ) (m x : ℕ) (given : List Gift) (spare : List ℕ)
      → ChoiceOf n words z.facets.choice k (Choosing (Reopening m)) given spare → Fresh
      → Leaves n z k (choice_fed k (Reopening m) x)
  reopen_left words m x given spare c g =
      either_way (Leaves n z k) (m + 1 == k.shape.mutators) (at k (Noticing (NoticeLook 0)))
      (at k (Choosing (Reopening (m + 1))))
      (λ e. still (Noticing (NoticeLook 0)) tt (
        given,
        spare,
        record { begun = c.begun; spares = c.spares; done = c.done; gift = tt },
      ) (g.1 ∙ ap (λ xs. record { server = 0; names = xs }) (sym g.0)))
      (λ e. still (Choosing (Reopening (m + 1))) tt (
        given,
        spare,
        record { begun = c.begun; spares = c.spares; done = c.done; gift = tt },
      ) g)

-- ---- at gates

abbrev GateWrites : Place → Type 0
GateWrites (mutator_gate m) = Unit {0}
GateWrites p = ⊥

-- the act is at one place alone
leaves_rest : (W : Place → Type 0) (n : Numbers) (k : Holdings) (words : List ℕ) (stage : CollectStage) (p : Place)
    (op : Op) → k.shape ≡ n → Within k.shape p → W p → stage_next k stage ≡ does (index k.shape p) op
    → LeavesOthers n W words (words_next (at k stage) words)
leaves_rest W n k words stage p op shape within may is =
    subst (λ x. LeavesOthers x W words (words_next (at k stage) words)) shape
    (subst (λ t. LeavesOthers k.shape W words (words_stepped t words)) (sym is)
    ((at_place k.shape W p op within may).rest words))

module _ (n : Numbers) (w : Facts) (s : JointScene) (seats : List Seat) (i : ℕ) (k : Holdings)
    (all : AllSit n w s seats) where
  abbrev Here : CollectStage → Type 0
  Here stage = slice_get seats i ≡ Some (Collector (at k stage))

  abbrev Keeps : CollectStage → Type 0
  Keeps stage =
      AllSit n w (stepped n s (at k stage)) (slice_set seats i (Collector (collector_next (at k stage) s.words)))

  abbrev word : CollectStage → ℕ
  word stage = finds (next_of (at k stage)) s.words

  at_gate : (stage : CollectStage) (up : IsUpToEvac stage) (m : ℕ) (op : Op) → m < k.shape.mutators
      → stage_next k stage ≡ does (index k.shape (mutator_gate m)) op → Here stage → Fits (at k stage) (word stage)
      → Joint n w (stepped n s (at k stage))
      → Leaves n (stepped n s (at k stage)) k (collector_next (at k stage) s.words) → Keeps stage
  at_gate stage up m op low is here fits joint leaves =
      let sits : CollectorSits n w s all.taker all.places i (at k stage) = all.each i (Collector (at k stage)) here in
      let same : phase_of n (words_next (at k stage) s.words) ≡ phase_of n s.words =
      phase_same n s.words (words_next (at k stage) s.words)
      (leaves_rest GateWrites n k s.words stage (mutator_gate m) op sits.here.shape low tt is phase tt (λ x. x)) in
      gate_keeps n w s seats i k stage up all here fits joint
      (leaves_rest GateOrPhase n k s.words stage (mutator_gate m) op sits.here.shape low tt is) (ap cycle_of same)
      leaves same

  shut : (pause : Pause) (m : ℕ) → Here (Pausing (Shutting pause m)) → Keeps (Pausing (Shutting pause m))
  shut pause m here =
      let stage : CollectStage = Pausing (Shutting pause m) in
      let sits : CollectorSits n w s all.taker all.places i (at k stage) = all.each i (Collector (at k stage)) here in
      at_gate stage tt m (Or SHUT) sits.keeps.stage.1 refl here tt
      (pause_steps_keep n w s all.places k (Shutting pause m) (stands n w s seats i k stage tt all here tt) tt)
      (shut_left n (stepped n s (at k stage)) k pause m (word stage) sits.choice sits.gathers)

  open_ : (m : ℕ) → Here (Pausing (Opening m)) → Keeps (Pausing (Opening m))
  open_ m here =
      let stage : CollectStage = Pausing (Opening m) in
      let sits : CollectorSits n w s all.taker all.places i (at k stage) = all.each i (Collector (at k stage)) here in
      at_gate stage tt m (And (all_but SHUT)) sits.keeps.stage.1 refl here tt
      (pause_steps_keep n w s all.places k (Opening m) (stands n w s seats i k stage tt all here tt) tt)
      (open_left n (stepped n s (at k stage)) k m (word stage) sits.choice sits.gathers)

  reopen : (m : ℕ) → Here (Choosing (Reopening m)) → Keeps (Choosing (Reopening m))
  reopen m here =
      let stage : CollectStage = Choosing (Reopening m) in
      let sits : CollectorSits n w s all.taker all.places i (at k stage) = all.each i (Collector (at k stage)) here in
      let c = sits.choice in
      at_gate stage tt m (And (all_but SHUT)) sits.keeps.stage.1 refl here tt
      (subst (λ (x : Choice). Joint n w
      (with_collector n s (words_next (at k stage) s.words) x (collector_next (at k stage) s.words))) (sym c.2.begun)
      (choice_steps_keep n w s all.places k (Reopening m) (stands n w s seats i k stage tt all here tt) c.0 c.1
      c.2.begun tt))
      (reopen_left n (stepped n s (at k stage)) k s.words m (word stage) c.0 c.1 c.2 sits.gathers)

  gate_store : (stage : CollectStage) → IsGateStore stage → Here stage → Keeps stage
  gate_store (Idle stage) is here = absurd is
  gate_store (Pausing (Shutting pause m)) is here = shut pause m here
  gate_store (Pausing (Draining pause m)) is here = absurd is
  gate_store (Pausing (LoadingRoot m q)) is here = absurd is
  gate_store (Pausing StoringTrace) is here = absurd is
  gate_store (Pausing (Opening m)) is here = open_ m here
  gate_store (Forwarding stage) is here = absurd is
  gate_store (Barriers stage) is here = absurd is
  gate_store (Emptying r) is here = absurd is
  gate_store Polling is here = absurd is
  gate_store (Choosing (LoadingLive r place)) is here = absurd is
  gate_store (Choosing (LoadingTop r place words)) is here = absurd is
  gate_store (Choosing (LoadingHome t)) is here = absurd is
  gate_store (Choosing (StoringLeaving t gift)) is here = absurd is
  gate_store (Choosing (StoringHome t gift)) is here = absurd is
  gate_store (Choosing (StoringTop t)) is here = absurd is
  gate_store (Choosing StoringEvac) is here = absurd is
  gate_store (Choosing (Reopening m)) is here = reopen m here
  gate_store (Noticing stage) is here = absurd is
  gate_store Ended is here = absurd is

  -- ---- the store of Stop

  module _ (here : Here (Idle StoringStop)) where
    abbrev stage : CollectStage
    stage = Idle StoringStop

    abbrev sits : CollectorSits n w s all.taker all.places i (at k stage)
    sits = all.each i (Collector (at k stage)) here

    abbrev us : List ℕ
    us = words_next (at k stage) s.words

    joint : Joint n w (stepped n s (at k stage))
    joint = idle_steps_keep n w s all.places k StoringStop (stands n w s seats i k stage tt all here tt)

    rest : LeavesOthers n GateOrPhase s.words us
    rest =
        leaves_rest GateOrPhase n k s.words stage phase (Store (phase_word (Stop k.cycle))) sits.here.shape tt tt refl

    idle_now : phase_of n s.words ≡ IdlePhase k.cycle
    idle_now = phase_now n w s all.joint (at k stage) sits.here

    stopped : phase_of n us ≡ Stop k.cycle
    stopped =
        subst (λ (x : Numbers). phase_of n (set s.words (index x phase) (phase_word (Stop k.cycle))) ≡ Stop k.cycle)
        (sym sits.here.shape)
        (phase_stored n s.words (Stop k.cycle) all.joint.names.hold.size
        (small_now n w s all.joint (at k stage) sits.here))

    same_cycle : cycle_of (phase_of n us) ≡ cycle_of (phase_of n s.words)
    same_cycle = ap cycle_of stopped ∙ sym (ap cycle_of idle_now)

    -- nothing is asked of a server at rest any more
    rest_stopped : (taker : ℕ) (v : Serving) → RestSits n s taker v → v.tracer.server < n.servers
        → RestSits n (stepped n s (at k stage)) taker v
    rest_stopped taker v r low = record {
      through = r.through;
      through_is = r.through_is;
      gone_over = subst (λ p. GoneOver n p v.ended r.through) (sym stopped) tt;
      sent = r.sent;
      done = r.done;
      sent_is = r.sent_is;
      sending = sending_stays n s.words us v.tracer.server taker v.notice_at r.sent [] r.done
          (λ slot small. rest (notice v.tracer.server slot) (low, small) (λ x. x)) r.sending;
      ended = λ told. r.ended told ∙ sym same_cycle;
      heard = subst (λ p. HeardIn p r.sent r.done) (sym stopped) tt;
    }

    stop : Keeps (Idle StoringStop)
    stop =
        phase_keeps n w s seats i k stage tt all here tt joint rest same_cycle
        (still n (stepped n s (at k stage)) k Ended tt sits.choice sits.gathers) rest_stopped
        (subst (λ p. LivesFit p n w us s.front.history (map live_facet seats)) (sym stopped)
        (past_stays n s.words us (map live_facet seats) k.cycle
        (subst (λ p. LivesFit p n w s.words s.front.history (map live_facet seats)) idle_now all.lives)
        (λ t within. rest (live t) within (λ x. x))))

pub gates_keep_all : GatesKeepAll
gates_keep_all n w s seats i k stage is all here = gate_store n w s seats i k all stage is here

pub stops_keep_all : StopsKeepAll
stops_keep_all n w s seats i k all here = stop n w s seats i k all here
