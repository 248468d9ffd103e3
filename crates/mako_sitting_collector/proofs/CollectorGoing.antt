-- The collector can make its next step.
use Rattle.std.proofs.Common.{◌≡◌, ℕ, ◌+◌, ◌*◌, ◌%◌, ◌<◌, ◌≤◌, ◌⊎◌, inl, inr, ⊎_elim, List, length, slice_get}
use Rattle.std.proofs.Common.{slice_index, sum_by, Some, refl, sym, ap, subst, ◌∙◌, arith}
use Rattle.mako_words.specs.Flags.{IsPackedFlags}
use Rattle.mako_words.specs.Gates.{IsPackedGate}
use Rattle.mako_words.specs.Lives.{IsPackedLive, live_at}
use Rattle.mako_words.specs.Names.{IsPackedName, name_at, name_word, FitsName}
use Rattle.mako_words.specs.Phases.{cycle_of}
use Rattle.mako_words.specs.declared.name.Name.{Name}
use Rattle.mako_words.specs.declared.phase_word.PhaseWord.{PhaseWord}
use Rattle.mako_words.specs.declared.phase_word.PhaseWord.TheVariants.{Idle as IdlePhase, Trace, Evac, Stop}
use Rattle.mako_words.proofs.FlagWords.{flag_forms}
use Rattle.mako_words.proofs.GateWords.{gate_forms}
use Rattle.mako_words.proofs.LiveWords.{live_forms}
use Rattle.mako_words.proofs.ValueWords.{name_at-name_word}
use Rattle.mako_shape.specs.declared.numbers.Numbers.{Numbers}
use Rattle.mako_shape.specs.Places.{Place, phase, demand, finished, mutator_gate, root, barrier, flags, work, home, top}
use Rattle.mako_shape.specs.Places.{leaving, live, index, Within, word_at}
use Rattle.mako_shape.proofs.BelongingLaws.{parts_belong}
use Rattle.mako_shape.proofs.PlaceLaws.{index_below}
use Rattle.mako_gate.proofs.Found.{below}
use Rattle.mako_gate.proofs.Lists.{sum_seated}
use Rattle.mako_step.specs.Machines.{CanStep}
use Rattle.mako_model.specs.Legal.{Facts}
use Rattle.mako_model.specs.declared.point.Point.{Point}
use Rattle.mako_names.specs.Tables.{phase_of}
use Rattle.mako_names.specs.Uses.{IsGood}
use Rattle.mako_names.proofs.Good.{good_is_taken}
use Rattle.mako_layout.specs.Facets.{Choice, debt_of}
use Rattle.mako_layout.specs.Evacuations.{home_read}
use Rattle.mako_layout.specs.Layouts.{regions_of}
use Rattle.mako_phases.specs.Lives.{LiveFacet}
use Rattle.mako_phases.proofs.Parts.{bound_cycle, cycles_fit, phase_found}
use Rattle.mako_ring.specs.Tracing.{owner, IsNamed}
use Rattle.mako_ring.proofs.Found.{owner_in_range}
use Rattle.mako_ring.proofs.Turns.{place_below}
use Rattle.mako_poll.specs.Polls as polls
use Rattle.mako_poll.specs.Polls.{PollView}
use Rattle.mako_poll.specs.declared.poller.PollStage.{PollStage}
use Rattle.mako_poll.specs.declared.poller.PollStage.TheVariants.{Asking, Reading, Ended as Polled}
use Rattle.mako_joint.specs.Joints.{JointScene}
use Rattle.mako_mutator.specs.declared.progress.Task.{Task}
use Rattle.mako_mutator.specs.declared.progress.Task.TheVariants.{Attempting, Awaiting, Finishing, Ended as TaskEnded}
use Rattle.mako_pause.specs.Collecting.{Holdings, at, next_of, Fits, window_of, head_slot, chosen_tablet}
use Rattle.mako_pause.specs.Keeping.{StageIsKnown, AreLoaded}
use Rattle.mako_pause.specs.declared.stage.IdleStage.{IdleStage}
use Rattle.mako_pause.specs.declared.stage.IdleStage.TheVariants.{LoadingDemand, LookingFinished, StoringStop}
use Rattle.mako_pause.specs.declared.stage.PauseStage.{PauseStage}
use Rattle.mako_pause.specs.declared.stage.PauseStage.TheVariants.{Shutting, Draining, LoadingRoot, StoringTrace}
use Rattle.mako_pause.specs.declared.stage.PauseStage.TheVariants.{Opening}
use Rattle.mako_pause.specs.declared.stage.ForwardStage.{ForwardStage}
use Rattle.mako_pause.specs.declared.stage.ForwardStage.TheVariants.{Looking, Storing}
use Rattle.mako_pause.specs.declared.stage.BarrierStage.{BarrierStage}
use Rattle.mako_pause.specs.declared.stage.BarrierStage.TheVariants.{Loading, Clearing}
use Rattle.mako_pause.specs.declared.stage.ChoiceStage.{ChoiceStage}
use Rattle.mako_pause.specs.declared.stage.ChoiceStage.TheVariants.{LoadingLive, LoadingTop, LoadingHome}
use Rattle.mako_pause.specs.declared.stage.ChoiceStage.TheVariants.{StoringLeaving, StoringHome, StoringTop}
use Rattle.mako_pause.specs.declared.stage.ChoiceStage.TheVariants.{StoringEvac, Opening as Reopening}
use Rattle.mako_pause.specs.declared.stage.NoticeStage.{NoticeStage}
use Rattle.mako_pause.specs.declared.stage.NoticeStage.TheVariants.{Looking as NoticeLook, Clearing as NoticeClear}
use Rattle.mako_pause.specs.declared.stage.NoticeStage.TheVariants.{StoringIdle}
use Rattle.mako_pause.specs.declared.stage.CollectStage.{CollectStage}
use Rattle.mako_pause.specs.declared.stage.CollectStage.TheVariants.{Idle, Pausing, Forwarding, Barriers, Emptying}
use Rattle.mako_pause.specs.declared.stage.CollectStage.TheVariants.{Polling, Choosing, Noticing, Ended}
use Rattle.mako_seat.specs.declared.seat.Seat.{Seat}
use Rattle.mako_seat.specs.declared.seat.Seat.TheVariants.{Mutator, Server, Collector}
use Rattle.mako_state.specs.Facets.{task_ended, ended_of}
use Rattle.mako_sitting.specs.Seats.{LivesFit, CollectorSits, AllSit}
use Rattle.mako_sitting_collector.proofs.CollectorHears.{hearing_keeps_all}
use Rattle.mako_sitting_collector.proofs.CollectorGoingWords.{root_fits, pending_few, top_fits}
use Rattle.mako_sitting_collector.specs.CollectorGoing.{HoldsAName, GoingNeeds, CollectorsCanGo}

-- ---- what stands in words

task_one : (t : Task) → task_ended t ≤ 1
task_one (Attempting c) = omega arith
task_one (Awaiting c) = omega arith
task_one Finishing = omega arith
task_one TaskEnded = omega arith

ended_one : (v : Seat) → ended_of v ≤ 1
ended_one (Mutator d) = task_one d.progress.task
ended_one (Server v) = omega arith
ended_one (Collector c) = omega arith

module _ (n : Numbers) (w : Facts) (s : JointScene) (seats : List Seat) (all : AllSit n w s seats) where
  -- the finished word counts mutators alone
  ended_low : (i : ℕ) (v : Seat) → slice_get seats i ≡ Some v → 1 ≤ ended_of v → i < n.mutators
  ended_low i (Mutator d) here one = (all.each i (Mutator d) here).keeps.in_range
  ended_low i (Server v) here one = absurd (omega arith)
  ended_low i (Collector c) here one = absurd (omega arith)

  pub finished_few : word_at n s.words finished ≤ n.mutators
  finished_few =
      let most : sum_by ended_of seats ≤ n.mutators = sum_seated ended_of seats n.mutators ended_one ended_low in
      let is = all.ends in
      omega arith

  pub gate_packed : (m : ℕ) → m < n.mutators → IsPackedGate (word_at n s.words (mutator_gate m))
  gate_packed m low =
      let g = all.joint.layout.gates in
      let word = word_at n s.words (mutator_gate m) in
      (gate_forms word).1 (below n.mutators word _ _ _ _ g.many (g.owns m low))

  pub flags_packed : (r : ℕ) → r < n.servers → IsPackedFlags (word_at n s.words (flags r))
  flags_packed r low = (flag_forms (word_at n s.words (flags r))).1 (all.joint.polls.flags r low).packed

  -- live words are of no cycle to come
  lives_past : (p : PhaseWord) (before : List Point) (lives : List LiveFacet) → LivesFit p n w s.words before lives
      → (t : ℕ) → Within n (live t) → (live_at (word_at n s.words (live t))).cycle ≤ cycle_of p
  lives_past (IdlePhase cycle) before lives fit t within = fit.past t within
  lives_past (Trace cycle) before lives fit t within = fit.past t within
  lives_past (Evac cycle) before lives fit t within = fit.past t within
  lives_past (Stop cycle) before lives fit t within = fit.past t within

  cycle_few : cycle_of (phase_of n s.words) ≤ n.cycles
  unfolding phase_of
  cycle_few =
      let o = all.joint.order in
      let bound = bound_cycle n o.part o.words_stand.bound in
      let same = ap cycle_of (phase_found n s.words o.part o.pending o.shape o.words_stand) in
      omega arith

  pub live_packed : (t : ℕ) → Within n (live t) → IsPackedLive (word_at n s.words (live t))
  live_packed t within =
      let few = cycles_fit n all.joint.order.shape in
      let most = cycle_few in
      let past = lives_past (phase_of n s.words) _ _ all.lives t within in
      (live_forms (word_at n s.words (live t))).1 (omega arith)

  -- a name in a barrier slot is of an entry that there is
  module _ (m slot : ℕ) (within : Within n (barrier m slot)) where
    held_fits : HoldsAName (word_at n s.words (barrier m slot))
        → IsPackedName (word_at n s.words (barrier m slot)) × IsNamed n (name_at (word_at n s.words (barrier m slot)))
    held_fits h =
        let word = word_at n s.words (barrier m slot) in
        let same : name_at word ≡ h.name = ap name_at h.word_is ∙ name_at-name_word h.name h.fits in
        let good : IsGood w s.front.history h.name =
        all.joint.names.hold.uses.slots (barrier m slot) h.name within tt h.fits h.word_is in (
          record { fits = subst FitsName (sym same) h.fits; same = ap name_word same ∙ sym h.word_is },
          subst (λ (y : Name). IsNamed n y) (sym same)
              (good_is_taken n s.words w s.front h.name.entry h.name.generation all.joint.script.facts
              all.joint.names.hold.answers.lawful all.joint.names.hold.table good).within,
        )

    pub barrier_fits : ((word_at n s.words (barrier m slot) ≡ 0) ⊎ HoldsAName (word_at n s.words (barrier m slot)))
        → (word_at n s.words (barrier m slot) ≡ 0)
        ⊎ (IsPackedName (word_at n s.words (barrier m slot)) × IsNamed n (name_at (word_at n s.words (barrier m slot))))
    barrier_fits held = ⊎_elim (λ e. inl e) (λ h. inr (held_fits h)) held

-- ---- by stage

module _ (w : Facts) (s : JointScene) (seats : List Seat) (i : ℕ) (k : Holdings) (all : AllSit k.shape w s seats) where
  abbrev Can : CollectStage → Type 0
  Can stage = CanStep (next_of (at k stage)) s.words (Fits (at k stage))

  abbrev Here : CollectStage → Type 0
  Here stage = slice_get seats i ≡ Some (Collector (at k stage))

  sits : (stage : CollectStage) → Here stage → CollectorSits k.shape w s all.taker all.places i (at k stage)
  sits stage here = all.each i (Collector (at k stage)) here

  known : (stage : CollectStage) → Here stage → StageIsKnown k stage
  known stage here = (sits stage here).keeps.stage

  pub at_place : (p : Place) → Within k.shape p → index k.shape p < length s.words
  at_place p within =
      let low = index_below k.shape p within in
      let size = all.joint.names.hold.size in
      omega arith

  ring_some : 0 < k.shape.ring
  ring_some = let each = all.joint.script.shape.in_range.each in omega (arith, each)

  idle_can : (stage : IdleStage) → Here (Idle stage) → Can (Idle stage)
  idle_can LoadingDemand here = (at_place demand tt, tt, all.joint.order.words_stand.asked)
  idle_can LookingFinished here = (at_place finished tt, tt, finished_few k.shape w s seats all)
  idle_can StoringStop here = (at_place phase tt, tt, tt)

  pause_can : (stage : PauseStage) → Here (Pausing stage) → GoingNeeds k.shape s.words k (Pausing stage)
      → Can (Pausing stage)
  pause_can (Shutting pause m) here needs =
      (at_place (mutator_gate m) (known (Pausing (Shutting pause m)) here).1, tt, tt)
  pause_can (Draining pause m) here needs =
      let low = (known (Pausing (Draining pause m)) here).1 in
      (at_place (mutator_gate m) low, tt, gate_packed k.shape w s seats all m low)
  pause_can (LoadingRoot m q) here needs =
      let stage : CollectStage = Pausing (LoadingRoot m q) in
      let low = (known stage here).1.0 in
      let small = (known stage here).1.1 in
      let found = root_fits k.shape w s seats all i (at k stage) here tt m q low small in
      let few = pending_few k.shape w s seats all i (at k stage) here k.cycle m q refl low small in
      (at_place (root m q) (low, small), tt, (found.0, found.1, few))
  pause_can StoringTrace here needs = (at_place phase tt, tt, tt)
  pause_can (Opening m) here needs = (at_place (mutator_gate m) (known (Pausing (Opening m)) here).1, tt, tt)

  head_within : (x : Name) → IsNamed k.shape x → Within k.shape (head_slot k x)
  head_within x named =
      (owner_in_range k.shape x named, place_below k.shape.ring (window_of k (owner k.shape x)).head ring_some)

  forward_can : (stage : ForwardStage) → Here (Forwarding stage) → Can (Forwarding stage)
  forward_can (Looking x) here =
      (at_place (head_slot k x) (head_within x (known (Forwarding (Looking x)) here).1.0), tt, tt)
  forward_can (Storing x) here =
      (at_place (head_slot k x) (head_within x (known (Forwarding (Storing x)) here).1.0.0), tt, tt)

  barrier_within : (stage : CollectStage) → Here stage → (m : ℕ) → m < k.shape.mutators
      → Within k.shape (barrier m (slice_index k.barrier_at m))
  barrier_within stage here m low =
      let kept = (sits stage here).known in
      let count = kept.barriers_count in
      (low, kept.barriers m 0 (omega arith))

  barrier_can : (stage : BarrierStage) → Here (Barriers stage) → GoingNeeds k.shape s.words k (Barriers stage)
      → Can (Barriers stage)
  barrier_can (Loading m) here needs =
      let within = barrier_within (Barriers (Loading m)) here m (known (Barriers (Loading m)) here).1 in (
        at_place (barrier m (slice_index k.barrier_at m)) within,
        tt,
        barrier_fits k.shape w s seats all m (slice_index k.barrier_at m) within needs,
      )
  barrier_can (Clearing m x) here needs =
      let within = barrier_within (Barriers (Clearing m x)) here m (known (Barriers (Clearing m x)) here).1.0 in
      (at_place (barrier m (slice_index k.barrier_at m)) within, tt, tt)

  empty_can : (r : ℕ) → Here (Emptying r) → Can (Emptying r)
  empty_can r here =
      let low = (known (Emptying r) here).1.0 in (
        at_place (work r ((window_of k r).tail % k.shape.ring))
            (low, place_below k.shape.ring (window_of k r).tail ring_some),
        tt,
        tt,
      )

  poll_at : (stage : PollStage) → polls.IsKnown k.shape stage
      → CanStep (polls.stage_next k.shape stage) s.words (polls.StageFits stage)
  poll_at (Asking r) low = (at_place (flags r) low, tt, flags_packed k.shape w s seats all r low)
  poll_at (Reading r) low = (at_place (flags r) low, tt, flags_packed k.shape w s seats all r low)
  poll_at (Polled answer) low = tt

  poll_can : Here Polling → Can Polling
  poll_can here =
      let kept = (sits Polling here).known in
      subst (λ (m : Numbers). CanStep (polls.stage_next m k.poll.stage) s.words (polls.StageFits k.poll.stage))
      (sym kept.poll_shape) (poll_at k.poll.stage kept.poll)

  tablet_within : (stage : ChoiceStage) → Here (Choosing stage) → (j : ℕ) → j < length k.chosen
      → chosen_tablet k j < k.shape.servers * k.shape.tablets
  tablet_within stage here j low = (sits (Choosing stage) here).known.chosen j 0 low

  loaded_within : (r place : ℕ) → AreLoaded k r place → r * k.shape.tablets + place < k.shape.servers * k.shape.tablets
  loaded_within r place is = parts_belong.tablet_in_range k.shape r place is.server is.place

  -- where nothing is owed the home of a tablet is a region
  home_fits : (j : ℕ) → Here (Choosing (LoadingHome j)) → j < length k.chosen
      → word_at k.shape s.words (home (chosen_tablet k j)) < k.shape.servers * (k.shape.tablets + k.shape.spare)
  home_fits j here low =
      let choice = (sits (Choosing (LoadingHome j)) here).choice in
      let t = chosen_tablet k j in
      subst (λ (c : Choice). home_read (debt_of c) t (word_at k.shape s.words (home t)) < regions_of k.shape)
      choice.2.begun (all.joint.layout.copy.home_in t (tablet_within (LoadingHome j) here j low))

  choice_can : (stage : ChoiceStage) → Here (Choosing stage) → GoingNeeds k.shape s.words k (Choosing stage)
      → Can (Choosing stage)
  choice_can (LoadingLive r place) here needs =
      let t = r * k.shape.tablets + place in
      let low = loaded_within r place (known (Choosing (LoadingLive r place)) here).1 in
      (at_place (live t) low, tt, live_packed k.shape w s seats all t low)
  choice_can (LoadingTop r place number) here needs =
      let stage : CollectStage = Choosing (LoadingTop r place number) in
      let t = r * k.shape.tablets + place in
      let low = loaded_within r place (known stage here).1 in
      let choice = (sits stage here).choice in (
        at_place (top t) low,
        tt,
        top_fits k.shape w s seats all i (at k stage) here tt choice.0 choice.1 choice.2.begun t low,
      )
  choice_can (LoadingHome j) here needs =
      let low = (known (Choosing (LoadingHome j)) here).1 in
      (at_place (home (chosen_tablet k j)) (tablet_within (LoadingHome j) here j low), tt, home_fits j here low)
  choice_can (StoringLeaving j gift) here needs =
      let low = (known (Choosing (StoringLeaving j gift)) here).1.0 in
      (at_place (leaving (chosen_tablet k j)) (tablet_within (StoringLeaving j gift) here j low), tt, tt)
  choice_can (StoringHome j gift) here needs =
      let low = (known (Choosing (StoringHome j gift)) here).1.0 in
      (at_place (home (chosen_tablet k j)) (tablet_within (StoringHome j gift) here j low), tt, tt)
  choice_can (StoringTop j) here needs =
      let low = (known (Choosing (StoringTop j)) here).1 in
      (at_place (top (chosen_tablet k j)) (tablet_within (StoringTop j) here j low), tt, tt)
  choice_can StoringEvac here needs = (at_place phase tt, tt, tt)
  choice_can (Reopening m) here needs = (at_place (mutator_gate m) (known (Choosing (Reopening m)) here).1, tt, tt)

  notice_can : (stage : NoticeStage) → Here (Noticing stage) → GoingNeeds k.shape s.words k (Noticing stage)
      → Can (Noticing stage)
  notice_can (NoticeLook r) here needs = (hearing_keeps_all k.shape w s seats i k (NoticeLook r) tt all here tt).can
  notice_can (NoticeClear r told) here needs =
      (hearing_keeps_all k.shape w s seats i k (NoticeClear r told) tt all here needs).can
  notice_can StoringIdle here needs = (at_place phase tt, tt, tt)

  pub stage_can : (stage : CollectStage) → Here stage → GoingNeeds k.shape s.words k stage → Can stage
  stage_can (Idle stage) here needs = idle_can stage here
  stage_can (Pausing stage) here needs = pause_can stage here needs
  stage_can (Forwarding stage) here needs = forward_can stage here
  stage_can (Barriers stage) here needs = barrier_can stage here needs
  stage_can (Emptying r) here needs = empty_can r here
  stage_can Polling here needs = poll_can here
  stage_can (Choosing stage) here needs = choice_can stage here needs
  stage_can (Noticing stage) here needs = notice_can stage here needs
  stage_can Ended here needs = tt

pub collectors_can_go : CollectorsCanGo
collectors_can_go n w s seats i k stage all here =
    let sits : CollectorSits n w s all.taker all.places i (at k stage) = all.each i (Collector (at k stage)) here in
    by n sits.here.shape all
  where
    by : (m : Numbers) → k.shape ≡ m → AllSit m w s seats → GoingNeeds m s.words k stage
        → CanStep (next_of (at k stage)) s.words (Fits (at k stage))
    by m same =
        subst (λ (m : Numbers). AllSit m w s seats → GoingNeeds m s.words k stage
        → CanStep (next_of (at k stage)) s.words (Fits (at k stage))) same
        (λ all needs. stage_can w s seats i k all stage here needs)
