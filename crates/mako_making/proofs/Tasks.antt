-- A mutator at its seat, as an attempt of a scene; and the steps of one that asks for a cycle, awaits one, or is past
-- its calls.
use Rattle.std.proofs.Common.{◌≡◌, ℕ, false, None, List, [], ◌++◌, length, drop, sym, ap, subst, refl, ◌∙◌, append-nil}
use Rattle.mako_shape.specs.declared.numbers.Numbers.{Numbers}
use Rattle.mako_shape.specs.Places.{finished, index, word_at}
use Rattle.mako_step.specs.Acts.{after_op, words_after}
use Rattle.mako_step.specs.declared.act.Op.TheVariants.{Add}
use Rattle.mako_model.specs.declared.attempt.Attempt.TheVariants.{Answer, Full, Pause as Paused}
use Rattle.mako_model.specs.declared.call.Call.{Call}
use Rattle.mako_model.specs.declared.call.Call.TheVariants as call
use Rattle.mako_model.specs.Legal.{Facts}
use Rattle.mako_call.specs.declared.caller.Caller.{Caller}
use Rattle.mako_call.specs.declared.call_stage.CallStage.{CallStage}
use Rattle.mako_call.specs.declared.call_stage.CallStage.TheVariants.{Arriving, Rooting, Entering, Moving, Getting}
use Rattle.mako_call.specs.declared.call_stage.CallStage.TheVariants.{Putting, Allocating, Asking, Leaving, Ended}
use Rattle.mako_call.specs.declared.asking.AskStage.{AskStage}
use Rattle.mako_call.specs.declared.asking.AskStage.TheVariants.{LoadingPhase as AskPhase, RaisingDemand}
use Rattle.mako_call.specs.declared.asking.AskStage.TheVariants.{Awaiting as AskAwaiting}
use Rattle.mako_mutator.specs.declared.progress.Task.{Task}
use Rattle.mako_mutator.specs.declared.progress.Task.TheVariants.{Attempting, Awaiting, Finishing, Ended as TaskEnded}
use Rattle.mako_call.specs.declared.leaving.LeaveStage.{LeaveStage}
use Rattle.mako_call.specs.declared.leaving.LeaveStage.TheVariants.{Refused, TurnedAway, FromTablet, FromOwn}
use Rattle.mako_call.specs.Agreeing.{IsCollect, LeaveStageOf, StageOf}
use Rattle.mako_call.specs.Calls.{Calling, outcome_in}
use Rattle.mako_mutator.specs.Drivers.{Driving, TaskIsKnown, IsAttempt, IsWait}
use Rattle.mako_names.specs.Trying as trying
use Rattle.mako_phases.specs.Facets.{outside}
use Rattle.mako_joint.specs.Joints.{JointScene, Joint}
use Rattle.mako_mutating.specs.Mutators.{with_view}
use Rattle.mako_making.specs.Makings.{IsAt}
use Rattle.mako_making.proofs.Placed.{StepsHold, NextKeeps}
use Rattle.mako_making.specs.Stages.{AttemptsCollect, AwaitsCycle, IsPastCalls, IsAsking}
use Rattle.mako_making.proofs.Asking.{out_with, finishes}
use Rattle.mako_making.proofs.AskStages.{phase_asked, demand_raised, cycle_awaited, wait_asked, wait_raised}
use Rattle.mako_making.proofs.AskStages.{wait_awaited}
use Rattle.mako_making.proofs.Trials.{Trial, attempt, driver, waiter}

pub is_collect : (c : Call) → IsCollect c → c ≡ call.Collect
is_collect call.Collect e = refl
is_collect (call.New root fields) e = absurd e
is_collect (call.Num root number) e = absurd e
is_collect (call.CopyRoot to from) e = absurd e
is_collect (call.DropRoot root) e = absurd e
is_collect (call.Get to from field) e = absurd e
is_collect (call.Put to field from) e = absurd e
is_collect (call.Show root) e = absurd e

module _ (n : Numbers) (w : Facts) (s : JointScene) (m : ℕ) (d : Driving) (j : Joint n w s) (is : IsAt n s m d) where
  caller_is : d.caller ≡ record { shape = n; mutator = m }
  caller_is i = record { shape = is.shape i; mutator = is.number i }

  abbrev pub trial : Calling → Trial
  trial c = record {
    n = n;
    w = w;
    s = s;
    joint = j;
    m = m;
    low = is.low;
    calls = d.calls;
    replies = d.replies;
    done = d.progress.done;
    within = d.progress.within;
    call = c.call;
    last = c.last;
    slot = c.slot;
  }

  -- past its calls, the attempt does not matter
  abbrev pub ending : Trial
  ending = record {
    n = n;
    w = w;
    s = s;
    joint = j;
    m = m;
    low = is.low;
    calls = d.calls;
    replies = d.replies;
    done = d.progress.done;
    within = d.progress.within;
    call = call.Collect;
    last = false;
    slot = 0;
  }

  abbrev with_task : Caller → Task → Driving
  with_task caller task = record {
    caller = caller;
    calls = d.calls;
    replies = d.replies;
    progress = record { done = d.progress.done; within = d.progress.within; task = task };
  }

  calling_is : (c : Calling) → c.caller ≡ d.caller → c ≡ attempt (trial c) c.stage
  calling_is c same =
      let e : c.caller ≡ record { shape = n; mutator = m } = same ∙ caller_is in
      λ i. record { caller = e i; call = c.call; last = c.last; slot = c.slot; stage = c.stage }

  -- what holds of the driver of the scene's attempt holds of the mutator
  pub of_attempt : (c : Calling) → d.progress.task ≡ Attempting c → (P : Driving → Type 0)
      → (IsAt n s m (driver (trial c) c.stage) → P (driver (trial c) c.stage)) → P d
  of_attempt c e P all =
      let known : IsAttempt d.caller d.calls d.progress.done c =
      subst (TaskIsKnown d.caller d.calls d.progress.done) e is.known.progress.task in
      let task : d.progress.task ≡ Attempting (attempt (trial c) c.stage) =
      e ∙ ap Attempting (calling_is c known.same) in
      let same : d ≡ driver (trial c) c.stage = λ i. with_task (caller_is i) (task i) in
      subst P (sym same) (all (subst (IsAt n s m) same is))

  pub of_wait : (c : Calling) → d.progress.task ≡ Awaiting c → (P : Driving → Type 0)
      → (IsAt n s m (waiter (trial c) c.stage) → P (waiter (trial c) c.stage)) → P d
  of_wait c e P all =
      let known : IsWait d.caller d.calls d.progress.done c =
      subst (TaskIsKnown d.caller d.calls d.progress.done) e is.known.progress.task in
      let task : d.progress.task ≡ Awaiting (attempt (trial c) c.stage) = e ∙ ap Awaiting (calling_is c known.same) in
      let same : d ≡ waiter (trial c) c.stage = λ i. with_task (caller_is i) (task i) in
      subst P (sym same) (all (subst (IsAt n s m) same is))

  pub of_task : (t : Task) → d.progress.task ≡ t → (P : Driving → Type 0)
      → (IsAt n s m (with_task (record { shape = n; mutator = m }) t)
      → P (with_task (record { shape = n; mutator = m }) t)) → P d
  of_task t e P all =
      let same : d ≡ with_task (record { shape = n; mutator = m }) t = λ i. with_task (caller_is i) (e i) in
      subst P (sym same) (all (subst (IsAt n s m) same is))

-- ---- a collect

asking_kept : (x : Trial) (s : AskStage) → IsAt x.n x.s x.m (driver x (Asking s))
    → NextKeeps x.n x.w x.s x.m (driver x (Asking s))
asking_kept x AskPhase is =
    phase_asked x (is_collect x.call is.known.progress.task.known.agrees) is.known is.here
asking_kept x (RaisingDemand cycle) is =
    demand_raised x (is_collect x.call is.known.progress.task.known.agrees) cycle is.here
asking_kept x (AskAwaiting cycle) is =
    cycle_awaited x (is_collect x.call is.known.progress.task.known.agrees) cycle is.known
    is.known.progress.task.known.stage.0 is.here

pub collect_kept : StepsHold AttemptsCollect
collect_kept n w s m d j is these = by d.progress.task refl these
  where
    at : (x : Trial) (st : CallStage) → IsAsking st → IsAt x.n x.s x.m (driver x st)
        → NextKeeps x.n x.w x.s x.m (driver x st)
    at x (Asking a) asks is = asking_kept x a is
    at x Arriving asks is = absurd asks
    at x (Rooting a) asks is = absurd asks
    at x (Entering e a) asks is = absurd asks
    at x (Moving e a) asks is = absurd asks
    at x (Getting l get a) asks is = absurd asks
    at x (Putting l put a) asks is = absurd asks
    at x (Allocating a) asks is = absurd asks
    at x (Leaving a) asks is = absurd asks
    at x (Ended o) asks is = absurd asks

    by : (t : Task) → d.progress.task ≡ t → AttemptsCollect t → NextKeeps n w s m d
    by (Attempting c) e asks =
        of_attempt n w s m d j is c e (NextKeeps n w s m) (at (trial n w s m d j is c) c.stage asks)
    by (Awaiting c) e asks = absurd asks
    by Finishing e asks = absurd asks
    by TaskEnded e asks = absurd asks

-- ---- a wait

pub record Asks (s : CallStage) : Type 0 where
  pub stage : AskStage
  pub is : s ≡ Asking stage

none_leaves : (s : LeaveStage) → LeaveStageOf call.Collect s → ⊥
none_leaves (Refused word) agrees = agrees
none_leaves (TurnedAway tablet word) agrees = agrees
none_leaves (FromTablet tablet (Answer r)) agrees = agrees
none_leaves (FromTablet tablet Full) agrees = agrees
none_leaves (FromTablet tablet (Paused r)) agrees = agrees
none_leaves (FromOwn (Answer r)) agrees = agrees
none_leaves (FromOwn Full) agrees = agrees
none_leaves (FromOwn (Paused r)) agrees = agrees

-- a collect that goes on is at one of its stages
pub only_asks : (n : Numbers) (s : CallStage) → StageOf n call.Collect s → outcome_in s ≡ None → Asks s
only_asks n (Asking a) agrees open_ = record { stage = a; is = refl }
only_asks n Arriving agrees open_ = absurd agrees
only_asks n (Rooting a) agrees open_ = absurd agrees
only_asks n (Entering e a) agrees open_ = absurd agrees
only_asks n (Moving e a) agrees open_ = absurd agrees
only_asks n (Getting l get a) agrees open_ = absurd agrees
only_asks n (Putting l put a) agrees open_ = absurd agrees
only_asks n (Allocating a) agrees open_ = absurd agrees
only_asks n (Leaving a) agrees open_ = absurd (none_leaves a agrees)
only_asks n (Ended o) agrees open_ = absurd (let b : ⊥ = cc in b)

waiting_kept : (x : Trial) (s : AskStage) → IsAt x.n x.s x.m (waiter x (Asking s))
    → NextKeeps x.n x.w x.s x.m (waiter x (Asking s))
waiting_kept x AskPhase is = wait_asked x is.here
waiting_kept x (RaisingDemand cycle) is = wait_raised x cycle is.here
waiting_kept x (AskAwaiting cycle) is =
    wait_awaited x is.known.progress.task.collects cycle is.known.progress.task.known.stage.0 is.here

pub wait_kept : StepsHold AwaitsCycle
wait_kept n w s m d j is these = by d.progress.task refl these
  where
    at : (x : Trial) (st : CallStage) → IsAt x.n x.s x.m (waiter x st) → NextKeeps x.n x.w x.s x.m (waiter x st)
    at x st is =
        let wait = is.known.progress.task in
        let a = only_asks x.n st (subst (λ c. StageOf x.n c st) wait.collects wait.known.agrees) wait.open_ in
        subst (λ z. NextKeeps x.n x.w x.s x.m (waiter x z)) (sym a.is)
        (waiting_kept x a.stage (subst (λ z. IsAt x.n x.s x.m (waiter x z)) a.is is))

    by : (t : Task) → d.progress.task ≡ t → AwaitsCycle t → NextKeeps n w s m d
    by (Awaiting c) e waits = of_wait n w s m d j is c e (NextKeeps n w s m) (at (trial n w s m d j is c) c.stage)
    by (Attempting c) e waits = absurd waits
    by Finishing e waits = absurd waits
    by TaskEnded e waits = absurd waits

-- ---- past the last call

-- the words once it has counted itself finished
abbrev counted_once : Numbers → JointScene → List ℕ
counted_once n s = words_after (record { word = index n finished; op = Add 1 }) s.words

pub end_kept : StepsHold IsPastCalls
end_kept n w s m d j is these = by d.progress.task refl these
  where
    same : drop (length d.replies) d.calls ≡ drop (length (d.replies ++ [])) d.calls
    same = ap (λ rs. drop (length rs) d.calls) (sym (append-nil d.replies))

    by : (t : Task) → d.progress.task ≡ t → IsPastCalls t → NextKeeps n w s m d
    by Finishing e past = of_task n w s m d j is Finishing e (NextKeeps n w s m) (λ at. record {
      joint = subst (λ l. Joint n w (with_view s m (counted_once n s) s.front (out_with outside trying.Nothing l))) same
          (finishes n w s j m is.low (drop (length d.replies) d.calls) trying.Nothing
          (after_op (Add 1) (word_at n s.words finished)) at.here);
      keeps = tt;
    })
    by TaskEnded e past = absurd past
    by (Attempting c) e past = absurd past
    by (Awaiting c) e past = absurd past
