-- The stages of a collect, and of the wait of a new that found no room.
use Rattle.std.proofs.Common.{◌≡◌, ℕ, ◌+◌, ◌≤◌, ◌==◌, nat_le, true, false, if◌then◌else◌, List, [], ◌∷◌, ◌++◌, max, set}
use Rattle.std.proofs.Common.{slice_get, sym, ap, subst, refl, ◌∙◌, arith}
use Rattle.mako_words.specs.Phases.{phase_at, cycle_of}
use Rattle.mako_words.specs.declared.phase_word.PhaseWord.{PhaseWord}
use Rattle.mako_words.specs.declared.phase_word.PhaseWord.TheVariants.{Idle, Trace, Evac, Stop}
use Rattle.mako_shape.specs.Places.{phase, demand, index, word_at}
use Rattle.mako_step.proofs.Cases.{by_eq, by_le}
use Rattle.mako_model.specs.declared.attempt.Attempt.TheVariants.{Answer, Pause as Paused}
use Rattle.mako_model.specs.declared.attempt.Pause.TheVariants.{Cycle as NotYet}
use Rattle.mako_model.specs.declared.call.Call.{Call}
use Rattle.mako_model.specs.declared.call.Call.TheVariants as call
use Rattle.mako_model.specs.declared.reply.Reply.{Reply}
use Rattle.mako_model.specs.declared.reply.Reply.TheVariants as reply
use Rattle.mako_model.specs.declared.point.Point.TheVariants.{Did}
use Rattle.mako_model.specs.Fronts.{Seen, with_point}
use Rattle.mako_call.specs.declared.call_stage.CallStage.{CallStage}
use Rattle.mako_call.specs.declared.call_stage.CallStage.TheVariants.{Asking, Ended}
use Rattle.mako_call.specs.declared.asking.AskStage.{AskStage}
use Rattle.mako_call.specs.declared.asking.AskStage.TheVariants.{LoadingPhase as AskPhase, RaisingDemand}
use Rattle.mako_call.specs.declared.asking.AskStage.TheVariants.{Awaiting as AskAwaiting}
use Rattle.mako_mutator.specs.declared.progress.Task.TheVariants.{Awaiting}
use Rattle.mako_call.specs.Agreeing.{asked_of}
use Rattle.mako_call.specs.Asking.{finished_cycles}
use Rattle.mako_call.specs.Calls.{first_stage}
use Rattle.mako_mutator.specs.Drivers as drivers
use Rattle.mako_mutator.specs.Drivers.{Driving}
use Rattle.mako_names.specs.Steps.{IsToldFinished, AttemptStep, Waited, FindsNoneLeft}
use Rattle.mako_names.specs.Tables.{phase_of}
use Rattle.mako_names.specs.Trying as trying
use Rattle.mako_names.specs.Trying.{Trying}
use Rattle.mako_phases.specs.Facets.{outside, asking}
use Rattle.mako_joint.specs.Joints.{Joint}
use Rattle.mako_mutating.specs.Mutators.{IsSeen, View, view_of, with_view}
use Rattle.mako_making.proofs.Placed.{AllHold, NextKeeps}
use Rattle.mako_making.proofs.Asking.{out_with, only_looks, learns, asks_next, demands, spends, collects}
use Rattle.mako_making.proofs.Trials.{Trial, k, driver, waiter, fed_to, waited_to, Goal, WaitGoal, load_goal, load_wait}
use Rattle.mako_making.proofs.Trials.{left, left_past, left_same, left_next, start_trying, nothing_yet, begins_last}
use Rattle.mako_making.proofs.Trials.{follows}

-- the number of finished cycles tells that a cycle is finished
told_finished : (p : PhaseWord) (cycle : ℕ) → 1 ≤ cycle → cycle ≤ finished_cycles p → IsToldFinished p cycle
told_finished (Idle c) cycle some low = omega arith
told_finished (Trace c) cycle some low = omega arith
told_finished (Evac c) cycle some low = omega arith
told_finished (Stop c) cycle some low = omega arith

module _ (x : Trial) where
  -- the cycle of the phase word
  abbrev now : ℕ
  now = cycle_of (phase_at (word_at x.n x.s.words phase))

  now_is : now ≡ cycle_of (phase_of x.n x.s.words)
  unfolding phase_of
  now_is = refl

  told_now : (cycle : ℕ) → 1 ≤ cycle → cycle ≤ finished_cycles (phase_at (word_at x.n x.s.words phase))
      → IsToldFinished (phase_of x.n x.s.words) cycle
  unfolding phase_of
  told_now cycle some low = told_finished (phase_at (word_at x.n x.s.words phase)) cycle some low

  -- the scene after a step that tells nothing
  abbrev After : View → Type 0
  After g = Joint x.n x.w (with_view x.s x.m x.s.words x.s.front g)

  -- the words once the demand is raised to this cycle
  abbrev raised : ℕ → List ℕ
  raised cycle = set x.s.words (index x.n demand) (max (word_at x.n x.s.words demand) cycle)

  -- ---- a collect
  module _ (is : x.call ≡ call.Collect) where
    -- a reply to it
    module _ (s : AskStage) (r : Reply) (t : Trying) (known : drivers.IsKnown (driver x (Asking s)))
        (here : IsSeen x.s x.m (out_with outside t (left x))) where
      collected_here : IsSeen x.s x.m (out_with outside t (call.Collect ∷ left_past x r))
      collected_here = subst (λ l. IsSeen x.s x.m (out_with outside t l))
          (left_next x (Asking s) known refl r ∙ ap (λ c. c ∷ left_past x r) is) here

      abbrev front : Call → Seen
      front c = with_point x.s.front (Did x.m c r)

      told : Joint x.n x.w (with_view x.s x.m x.s.words (front call.Collect)
          (out_with outside trying.Nothing (left_past x r)))
          → Goal x (Asking s) (Ended (Answer r)) x.s.words
      told held =
          let o = slice_get x.calls (x.done + 1) in
          follows x (x.done + 1) false false (x.replies ++ r ∷ []) o r x.s.words (front x.call)
          (subst (λ c. Joint x.n x.w (with_view x.s x.m x.s.words (front c)
          (out_with outside (start_trying false o) (left_past x r)))) (sym is)
          (subst (λ u. Joint x.n x.w (with_view x.s x.m x.s.words (front call.Collect)
          (out_with outside u (left_past x r)))) (sym (nothing_yet o)) held))

    pub phase_asked : drivers.IsKnown (driver x (Asking AskPhase))
        → IsSeen x.s x.m (view_of (driver x (Asking AskPhase)))
        → NextKeeps x.n x.w x.s x.m (driver x (Asking AskPhase))
    phase_asked known here =
        load_goal x (Asking AskPhase)
        (if now == x.n.cycles then Ended (Answer reply.Spent) else Asking (RaisingDemand (now + 1))) (index x.n phase)
        (by_eq
        (λ b. Goal x (Asking AskPhase)
        (if b then Ended (Answer reply.Spent) else Asking (RaisingDemand (now + 1))) x.s.words) now x.n.cycles
        (λ all. told AskPhase reply.Spent trying.Nothing known here
        (spends x.n x.w x.s x.joint x.m x.low (left_past x reply.Spent) trying.Nothing
        (collected_here AskPhase reply.Spent trying.Nothing known here) (sym now_is ∙ all)))
        (λ more. record {
          joint = subst (λ l. After (out_with (asking (now + 1)) (trying.Asked (now + 1)) l)) (left_same x)
              (asks_next x.n x.w x.s x.joint x.m x.low (left x) trying.Nothing now here refl more);
          keeps = tt;
        }))

    pub demand_raised : (cycle : ℕ) → IsSeen x.s x.m (view_of (driver x (Asking (RaisingDemand cycle))))
        → NextKeeps x.n x.w x.s x.m (driver x (Asking (RaisingDemand cycle)))
    demand_raised cycle here = record {
      joint = subst (λ l. Joint x.n x.w (with_view x.s x.m (raised cycle) x.s.front
          (out_with outside (trying.Asked cycle) l)))
          (left_same x)
          (demands x.n x.w x.s x.joint x.m x.low (left x) cycle (trying.Asked cycle) here);
      keeps = tt;
    }

    -- a pause of the look at this word, after which it makes this attempt again
    abbrev paused : ℕ → ℕ → CallStage
    paused cycle v = Ended (Paused (NotYet cycle v))

    abbrev next : ℕ → ℕ → CallStage → Driving
    next cycle v s = record (fed_to x (Asking (AskAwaiting cycle)) (paused cycle v)) {
      progress = record (fed_to x (Asking (AskAwaiting cycle)) (paused cycle v)).progress {
        task = (driver x s).progress.task;
      };
    }

    pub cycle_awaited : (cycle : ℕ) → drivers.IsKnown (driver x (Asking (AskAwaiting cycle))) → 1 ≤ cycle
        → IsSeen x.s x.m (view_of (driver x (Asking (AskAwaiting cycle))))
        → NextKeeps x.n x.w x.s x.m (driver x (Asking (AskAwaiting cycle)))
    cycle_awaited cycle known some here =
        let v = word_at x.n x.s.words phase in
        let s = Asking (AskAwaiting cycle) in
        let yes_ = Ended (Answer (reply.Cycle cycle)) in
        let no_ = Ended (Paused (NotYet cycle v)) in
        load_goal x s (if nat_le cycle (finished_cycles (phase_at v)) then yes_ else no_) (index x.n phase)
        (by_le (λ b. Goal x s (if b then yes_ else no_) x.s.words) cycle (finished_cycles (phase_at v))
        (λ low. told (AskAwaiting cycle) (reply.Cycle cycle) (trying.Asked cycle) known here
        (collects x.n x.w x.s x.joint x.m x.low (left_past x (reply.Cycle cycle)) cycle
        (collected_here (AskAwaiting cycle) (reply.Cycle cycle) (trying.Asked cycle) known here) some
        (told_now cycle some low)))
        (λ not_yet. again v))
      where
        again : (v : ℕ) → Goal x (Asking (AskAwaiting cycle)) (Ended (Paused (NotYet cycle v))) x.s.words
        again v =
            let stage_is : first_stage x.call (asked_of x.call (Paused (NotYet cycle v)))
            ≡ Asking (AskAwaiting cycle) =
            ap (λ c. first_stage c (asked_of c (Paused (NotYet cycle v)))) is in
            subst (λ z. AllHold x.n x.w (with_view x.s x.m x.s.words x.s.front (view_of (next cycle v z)))
            (next cycle v z))
            (sym stage_is)
            (record {
              joint = subst (λ l. After (out_with outside (trying.Asked cycle) l)) (left_same x)
                  (only_looks x.n x.w x.s x.joint x.m x.low (out_with outside (trying.Asked cycle) (left x)) here
                  outside (trying.Asked cycle) (left x) refl tt);
              keeps = tt;
            })

  -- ---- the wait of a new that found no room
  -- past it the last attempt begins
  last_begins : (s : AskStage) (r : Reply) (t : Trying) → IsSeen x.s x.m (out_with outside t (left x))
      → ((fields : ℕ) → AttemptStep x.n x.w
      (record { words = x.s.words; front = x.s.front; facets = x.s.facets.names }) x.m t (trying.Last fields 0 0))
      → WaitGoal x (Asking s) (Ended (Answer r)) x.s.words
  last_begins s r t here step =
      let o = slice_get x.calls x.done in
      follows x x.done true true (x.replies ++ []) o r x.s.words x.s.front
      (subst (λ l. After (out_with outside (start_trying true o) l)) (left_same x)
      (learns x.n x.w x.s x.joint x.m x.low (left x) t (start_trying true o) here
      (begins_last x.n x.w (record { words = x.s.words; front = x.s.front; facets = x.s.facets.names }) x.m t o step)))

  pub wait_asked : IsSeen x.s x.m (view_of (waiter x (Asking AskPhase)))
      → NextKeeps x.n x.w x.s x.m (waiter x (Asking AskPhase))
  wait_asked here =
      load_wait x (Asking AskPhase)
      (if now == x.n.cycles then Ended (Answer reply.Spent) else Asking (RaisingDemand (now + 1))) (index x.n phase)
      (by_eq
      (λ b. WaitGoal x (Asking AskPhase)
      (if b then Ended (Answer reply.Spent) else Asking (RaisingDemand (now + 1))) x.s.words) now x.n.cycles
      (λ all. last_begins AskPhase reply.Spent trying.Nothing here
      (λ fields. FindsNoneLeft trying.Nothing fields (sym now_is ∙ all ∙ sym x.joint.script.facts.cycles)))
      (λ more. record {
        joint = subst (λ l. After (out_with (asking (now + 1)) (trying.Asked (now + 1)) l)) (left_same x)
            (asks_next x.n x.w x.s x.joint x.m x.low (left x) trying.Nothing now here refl more);
        keeps = tt;
      }))

  pub wait_raised : (cycle : ℕ) → IsSeen x.s x.m (view_of (waiter x (Asking (RaisingDemand cycle))))
      → NextKeeps x.n x.w x.s x.m (waiter x (Asking (RaisingDemand cycle)))
  wait_raised cycle here = record {
    joint = subst (λ l. Joint x.n x.w (with_view x.s x.m (raised cycle) x.s.front
        (out_with outside (trying.Asked cycle) l)))
        (left_same x)
        (demands x.n x.w x.s x.joint x.m x.low (left x) cycle (trying.Asked cycle) here);
    keeps = tt;
  }

  -- a pause of the look at this word, after which it looks again
  abbrev not_yet : ℕ → ℕ → CallStage
  not_yet cycle v = Ended (Paused (NotYet cycle v))

  abbrev waits_on : ℕ → ℕ → CallStage → Driving
  waits_on cycle v s = record (waited_to x (Asking (AskAwaiting cycle)) (not_yet cycle v)) {
    progress = record (waited_to x (Asking (AskAwaiting cycle)) (not_yet cycle v)).progress {
      task = Awaiting (record {
        caller = k x;
        call = call.Collect;
        last = false;
        slot = x.slot;
        stage = s;
      });
    };
  }

  wait_again : x.call ≡ call.Collect → (cycle v : ℕ)
      → IsSeen x.s x.m (view_of (waiter x (Asking (AskAwaiting cycle))))
      → WaitGoal x (Asking (AskAwaiting cycle)) (not_yet cycle v) x.s.words
  wait_again is cycle v here =
      let stage_is : first_stage call.Collect (asked_of x.call (Paused (NotYet cycle v)))
      ≡ Asking (AskAwaiting cycle) =
      ap (λ c. first_stage call.Collect (asked_of c (Paused (NotYet cycle v)))) is in
      subst (λ z. AllHold x.n x.w (with_view x.s x.m x.s.words x.s.front (view_of (waits_on cycle v z)))
      (waits_on cycle v z)) (sym stage_is)
      (record {
        joint = subst (λ l. After (out_with outside (trying.Asked cycle) l)) (left_same x)
            (only_looks x.n x.w x.s x.joint x.m x.low (out_with outside (trying.Asked cycle) (left x)) here
            outside (trying.Asked cycle) (left x) refl tt);
        keeps = tt;
      })

  pub wait_awaited : x.call ≡ call.Collect → (cycle : ℕ) → 1 ≤ cycle
      → IsSeen x.s x.m (view_of (waiter x (Asking (AskAwaiting cycle))))
      → NextKeeps x.n x.w x.s x.m (waiter x (Asking (AskAwaiting cycle)))
  wait_awaited is cycle some here =
      let v = word_at x.n x.s.words phase in
      let s = Asking (AskAwaiting cycle) in
      let yes_ = Ended (Answer (reply.Cycle cycle)) in
      load_wait x s (if nat_le cycle (finished_cycles (phase_at v)) then yes_ else not_yet cycle v) (index x.n phase)
      (by_le (λ b. WaitGoal x s (if b then yes_ else not_yet cycle v) x.s.words) cycle (finished_cycles (phase_at v))
      (λ low. last_begins (AskAwaiting cycle) (reply.Cycle cycle) (trying.Asked cycle) here
      (λ fields. Waited cycle fields (told_now cycle some low)))
      (λ later. wait_again is cycle v here))
