-- What a step of an attempt, made at once, makes of a driver.
use Rattle.std.proofs.Common.{◌≡◌, ℕ, Bool, ◌+◌, ◌<◌, ◌^◌, ◌++◌, List, Option, Some, None, refl, ap, subst, sym, ◌∙◌, arith}
use Rattle.std.proofs.lemmas.Option.{slice_get_within}
use Rattle.mako_step.specs.Acts.{finds}
use Rattle.mako_step.specs.Machines.{IsAct}
use Rattle.mako_model.specs.declared.call.Call.{Call}
use Rattle.mako_model.specs.declared.reply.Reply.{Reply}
use Rattle.mako_model.specs.declared.attempt.Attempt.{Attempt}
use Rattle.mako_model.specs.declared.attempt.Attempt.TheVariants.{Answer, Full, Pause as Paused}
use Rattle.mako_call.specs.declared.caller.Caller.{Caller}
use Rattle.mako_call.specs.Calls as calling
use Rattle.mako_call.specs.Calls.{Calling, decided, newly, event_by, outcome_in}
use Rattle.mako_mutator.specs.declared.progress.Task.{Task}
use Rattle.mako_mutator.specs.declared.progress.Task.TheVariants.{Attempting, Awaiting, Finishing, Ended}
use Rattle.mako_mutator.specs.declared.progress.Progress.{Progress}
use Rattle.mako_mutator.specs.Drivers.{Driving, AttemptActs, told_if, told_reply, task_next, task_event, task_fed}
use Rattle.mako_mutator.specs.Drivers.{attempt_on, after_attempt, progress_fed, event_of, fed, IsKnown, TaskIsKnown}

-- an attempt that has an act gives its task one
pub acts_of : (k : Caller) (t : Task) → AttemptActs t → IsAct (task_next k t)
acts_of k (Attempting m) acts = acts
acts_of k (Awaiting m) acts = absurd acts
acts_of k Finishing acts = absurd acts
acts_of k Ended acts = absurd acts

tells_as : (a b : Option Reply) (m : Calling) → decided m.stage ≡ b
    → told_if (newly a b) m ≡ event_by m.caller.mutator m.call a b
tells_as None None m is = refl
tells_as None (Some reply) m is = ap (event_by m.caller.mutator m.call None) is
tells_as (Some earlier) b m is = refl

-- what is told of the attempt after its step is what the step tells
told_of : (m after : Calling) (w : ℕ) (tells : Bool) → after ≡ calling.fed m w
    → tells ≡ calling.tells m.stage after.stage → told_if tells after ≡ calling.event_of m w
told_of m after w tells same told =
    ap (λ (b : Bool). told_if b after) told
    ∙ (tells_as (decided m.stage) (decided after.stage) after refl
    ∙ ap (λ (q : Calling). event_by q.caller.mutator q.call (decided m.stage) (decided q.stage)) same)

pub told_at : (k : Caller) (t : Task) (m after : Calling) (words : List ℕ) (tells : Bool) → t ≡ Attempting m
    → after ≡ calling.fed m (finds (calling.next_of m) words) → tells ≡ calling.tells m.stage after.stage
    → told_if tells after ≡ task_event t (finds (task_next k t) words)
told_at k t m after words tells is same told =
    subst (λ (q : Task). told_if tells after ≡ task_event q (finds (task_next k q) words)) (sym is)
    (told_of m after (finds (calling.next_of m) words) tells same told)

-- what follows an attempt looks only at the calls that are through
attempt_by_done : (k : Caller) (calls : List Call) (p : Progress) (t : Task) (m : Calling) (o : Option Attempt)
    → attempt_on k calls (record { done = p.done; within = p.within; task = t }) m o ≡ attempt_on k calls p m o
attempt_by_done k calls p t m None = refl
attempt_by_done k calls p t m (Some (Answer reply)) = refl
attempt_by_done k calls p t m (Some Full) = refl
attempt_by_done k calls p t m (Some (Paused pause)) = refl

pub progress_at : (k : Caller) (calls : List Call) (p q : Progress) (m after : Calling) (words : List ℕ)
    → p.task ≡ Attempting m → after ≡ calling.fed m (finds (calling.next_of m) words)
    → q ≡ after_attempt k calls (record { done = p.done; within = p.within; task = Attempting after }) after
    → q ≡ progress_fed k calls p (finds (task_next k p.task) words)
progress_at k calls p q m after words is same goes =
    let after_is : q ≡ after_attempt k calls p after =
    goes ∙ attempt_by_done k calls p (Attempting after) after (outcome_in after.stage) in
    subst (λ (t : Task). q ≡ task_fed k calls p t (finds (task_next k t) words)) (sym is)
    (after_is ∙ ap (after_attempt k calls p) same)

-- an attempt is of a call of the program
pub attempt_within : (d : Driving) (m : Calling) → IsKnown d → d.progress.task ≡ Attempting m
    → d.progress.done + 1 < 2 ^ 32
attempt_within d m known is =
    let attempt = subst (TaskIsKnown d.caller d.calls d.progress.done) is known.progress.task in
    let inside = slice_get_within d.calls d.progress.done m.call attempt.call in
    let few = known.progress.few in omega (arith, inside, few)

-- what the code puts together is the driver after the step
pub fed_together : (d : Driving) (w : ℕ) (replies : List Reply) (p : Progress)
    → replies ≡ d.replies ++ told_reply (event_of d w) → p ≡ progress_fed d.caller d.calls d.progress w
    → record { caller = d.caller; calls = d.calls; replies = replies; progress = p } ≡ fed d w
fed_together d w replies p replies_are p_is =
    ap (λ (rs : List Reply). record { caller = d.caller; calls = d.calls; replies = rs; progress = p }) replies_are
    ∙ ap (λ (q : Progress). record {
      caller = d.caller;
      calls = d.calls;
      replies = d.replies ++ told_reply (event_of d w);
      progress = q;
    }) p_is
