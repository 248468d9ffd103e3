-- A mutator's whole program, as a machine.
use Rattle.std.specs.Prelude.{◌≡◌, ℕ, Bool, true, false, ◌+◌, ◌<◌, ◌≤◌, ◌++◌, List, [], ◌∷◌, Option, Some, None}
use Rattle.std.specs.Prelude.{is_some, length, slice_get}
use Rattle.mako_shape.specs.declared.numbers.Numbers.{Numbers}
use Rattle.mako_shape.specs.Places.{index, finished}
use Rattle.mako_step.specs.Acts.{does}
use Rattle.mako_step.specs.Machines.{IsAct}
use Rattle.mako_step.specs.declared.act.Op.TheVariants.{Add}
use Rattle.mako_step.specs.declared.step.Step.{Step}
use Rattle.mako_step.specs.declared.step.Step.TheVariants.{Ended as NoStep}
use Rattle.mako_model.specs.declared.call.Call.{Call}
use Rattle.mako_model.specs.declared.call.Call.TheVariants.{Collect}
use Rattle.mako_model.specs.declared.reply.Reply.{Reply}
use Rattle.mako_model.specs.declared.point.Point.{Point}
use Rattle.mako_model.specs.declared.point.Point.TheVariants.{Did, Snap}
use Rattle.mako_model.specs.declared.event.Event.{Event}
use Rattle.mako_model.specs.declared.event.Event.TheVariants.{Nothing, Answered, Snapped, Finished}
use Rattle.mako_model.specs.declared.attempt.Attempt.{Attempt}
use Rattle.mako_model.specs.declared.attempt.Attempt.TheVariants.{Answer, Full, Pause as Paused}
use Rattle.mako_call.specs.declared.caller.Caller.{Caller}
use Rattle.mako_call.specs.declared.call_machine.Keep.{Keep}
use Rattle.mako_mutator.specs.declared.progress.Task.{Task}
use Rattle.mako_mutator.specs.declared.progress.Task.TheVariants.{Attempting, Awaiting, Finishing, Ended}
use Rattle.mako_mutator.specs.declared.progress.Progress.{Progress}
use Rattle.mako_mutator.specs.declared.place.Place.{Place}
use Rattle.mako_mutator.specs.declared.place.Place.TheVariants.{Before, Within, Ended as PlaceEnded}
use Rattle.mako_call.specs.Callers.{IsCaller, CallFits}
use Rattle.mako_call.specs.Calls as calling
use Rattle.mako_call.specs.Calls.{Calling, outcome_in, kept, decided}

-- whose program it is, its calls, the replies so far, and how far it has come
pub record Driving : Type 0 where
  pub caller : Caller
  pub calls : List Call
  pub replies : List Reply
  pub progress : Progress

-- an attempt of the call, or the end where there is none
abbrev pub task_for : Caller → Option Call → Bool → Keep → Task
task_for k None last keep = Finishing
task_for k (Some call) last keep = Attempting (calling.opening k call last keep.asked keep.barrier_at)

-- it waits for a cycle as a collect does
abbrev pub awaiting : Caller → Keep → Task
awaiting k keep = Awaiting (calling.opening k Collect false keep.asked keep.barrier_at)

-- before the first call, with nothing asked and no name in the barrier ring
abbrev pub begun : Caller → List Call → Progress
begun k calls = record {
  done = 0;
  within = false;
  task = task_for k (slice_get calls 0) false (record { asked = None; barrier_at = 0 });
}

abbrev pub opening : Caller → List Call → Driving
opening k calls = record { caller = k; calls = calls; replies = []; progress = begun k calls }

abbrev pub task_next : Caller → Task → Step
task_next k (Attempting m) = calling.next_of m
task_next k (Awaiting m) = calling.next_of m
task_next k Finishing = does (index k.shape finished) (Add 1)
task_next k Ended = NoStep

abbrev pub next_of : Driving → Step
next_of d = task_next d.caller d.progress.task

-- within the next call, at this task
abbrev pub within : Progress → Task → Progress
within p task = record { done = p.done; within = true; task = task }

-- before the call behind the next one
abbrev pub moved_on : Caller → List Call → Progress → Keep → Progress
moved_on k calls p keep = record {
  done = p.done + 1;
  within = false;
  task = task_for k (slice_get calls (p.done + 1)) false keep;
}

-- after an answer it goes on to the next call; after a finding of no room it waits for a cycle; after a pause it
-- attempts again
abbrev pub attempted : Caller → List Call → Progress → Calling → Attempt → Progress
attempted k calls p m (Answer reply) = moved_on k calls p (kept m (Answer reply))
attempted k calls p m Full = within p (awaiting k (kept m Full))
attempted k calls p m (Paused pause) = within p (task_for k (Some m.call) m.last (kept m (Paused pause)))

-- once the cycle has finished, or none is left, it makes the last attempt of the call that found no room; else it looks
-- again
abbrev pub awaited : Caller → List Call → Progress → Calling → Attempt → Progress
awaited k calls p m (Answer reply) = within p (task_for k (slice_get calls p.done) true (kept m (Answer reply)))
awaited k calls p m Full = within p (awaiting k (kept m Full))
awaited k calls p m (Paused pause) = within p (awaiting k (kept m (Paused pause)))

-- it goes on with the attempt until that has come to something
abbrev pub attempt_on : Caller → List Call → Progress → Calling → Option Attempt → Progress
attempt_on k calls p m None = within p (Attempting m)
attempt_on k calls p m (Some outcome) = attempted k calls p m outcome

abbrev pub after_attempt : Caller → List Call → Progress → Calling → Progress
after_attempt k calls p m = attempt_on k calls p m (outcome_in m.stage)

abbrev pub wait_on : Caller → List Call → Progress → Calling → Option Attempt → Progress
wait_on k calls p m None = within p (Awaiting m)
wait_on k calls p m (Some outcome) = awaited k calls p m outcome

abbrev pub after_wait : Caller → List Call → Progress → Calling → Progress
after_wait k calls p m = wait_on k calls p m (outcome_in m.stage)

abbrev pub task_fed : Caller → List Call → Progress → Task → ℕ → Progress
task_fed k calls p (Attempting m) w = after_attempt k calls p (calling.fed m w)
task_fed k calls p (Awaiting m) w = after_wait k calls p (calling.fed m w)
task_fed k calls p Finishing w = record { done = p.done; within = p.within; task = Ended }
task_fed k calls p Ended w = record { done = p.done; within = p.within; task = Ended }

abbrev pub progress_fed : Caller → List Call → Progress → ℕ → Progress
progress_fed k calls p w = task_fed k calls p p.task w

-- what is answered while it waits for a cycle is no point of the history
abbrev pub task_event : Task → ℕ → Event
task_event (Attempting m) w = calling.event_of m w
task_event (Awaiting m) w = Nothing
task_event Finishing w = Nothing
task_event Ended w = Nothing

abbrev pub event_of : Driving → ℕ → Event
event_of d w = task_event d.progress.task w

-- the reply of a call that a step decided
abbrev pub point_reply : Point → List Reply
point_reply (Did m call reply) = reply ∷ []
point_reply (Snap cycle) = []

abbrev pub told_reply : Event → List Reply
told_reply Nothing = []
told_reply (Answered point) = point_reply point
told_reply (Snapped cycle) = []
told_reply (Finished cycle) = []

abbrev pub fed : Driving → ℕ → Driving
fed d w = record {
  caller = d.caller;
  calls = d.calls;
  replies = d.replies ++ told_reply (event_of d w);
  progress = progress_fed d.caller d.calls d.progress w;
}

abbrev pub TaskFits : Task → ℕ → Type 0
TaskFits (Attempting m) w = calling.Fits m w
TaskFits (Awaiting m) w = calling.Fits m w
TaskFits Finishing w = Unit {0}
TaskFits Ended w = Unit {0}

abbrev pub Fits : Driving → ℕ → Type 0
Fits d w = TaskFits d.progress.task w

-- the step with which an attempt comes to something is the last of its job
abbrev pub task_renewed : Task → ℕ → Bool
task_renewed (Attempting m) w = is_some (outcome_in (calling.fed m w).stage)
task_renewed (Awaiting m) w = is_some (outcome_in (calling.fed m w).stage)
task_renewed Finishing w = false
task_renewed Ended w = false

abbrev pub is_renewed : Driving → ℕ → Bool
is_renewed d w = task_renewed d.progress.task w

-- the most steps of the present attempt
abbrev pub task_rank : Task → ℕ
task_rank (Attempting m) = calling.rank m
task_rank (Awaiting m) = calling.rank m
task_rank Finishing = 1
task_rank Ended = 0

abbrev pub rank : Driving → ℕ
rank d = task_rank d.progress.task

-- before a call or within it, or at the end
abbrev pub place_by : ℕ → Bool → Task → Place
place_by done true (Attempting m) = Within done
place_by done true (Awaiting m) = Within done
place_by done true Finishing = Within done
place_by done false (Attempting m) = Before done
place_by done false (Awaiting m) = Before done
place_by done false Finishing = Before done
place_by done b Ended = PlaceEnded

abbrev pub place_at : Progress → Place
place_at p = place_by p.done p.within p.task

-- an attempt that has an act to make
abbrev pub AttemptActs : Task → Type 0
AttemptActs (Attempting m) = IsAct (calling.next_of m)
AttemptActs (Awaiting m) = ⊥
AttemptActs Finishing = ⊥
AttemptActs Ended = ⊥

-- what a step of an attempt tells that has decided its call, or has not
abbrev pub told_if : Bool → Calling → Event
told_if true m = calling.event_by m.caller.mutator m.call None (decided m.stage)
told_if false m = Nothing

-- the calls are ones that the mutator can make
abbrev pub AreFitting : Numbers → List Call → Type 0
AreFitting n calls = (i : ℕ) (call : Call) → slice_get calls i ≡ Some call → CallFits n call

-- the attempt is one of this mutator
abbrev pub IsOf : Caller → Task → Type 0
IsOf k (Attempting m) = m.caller ≡ k
IsOf k (Awaiting m) = m.caller ≡ k
IsOf k Finishing = Unit {0}
IsOf k Ended = Unit {0}

-- the attempt is of a call that can be made
abbrev pub MakesFitting : Numbers → Task → Type 0
MakesFitting n (Attempting m) = CallFits n m.call
MakesFitting n (Awaiting m) = Unit {0}
MakesFitting n Finishing = Unit {0}
MakesFitting n Ended = Unit {0}

-- the calls that are decided beyond those that are through
abbrev pub ahead : Option Reply → ℕ
ahead None = 0
ahead (Some reply) = 1

-- an attempt of the next call, which goes on
pub record IsAttempt (k : Caller) (calls : List Call) (done : ℕ) (m : Calling) : Type 0 where
  pub known : calling.IsKnown m
  pub same : m.caller ≡ k
  pub call : slice_get calls done ≡ Some m.call
  pub open_ : outcome_in m.stage ≡ None

-- a wait before the last attempt of the next call, which goes on
pub record IsWait (k : Caller) (calls : List Call) (done : ℕ) (m : Calling) : Type 0 where
  pub known : calling.IsKnown m
  pub same : m.caller ≡ k
  pub collects : m.call ≡ Collect
  pub below : done < length calls
  pub open_ : outcome_in m.stage ≡ None

-- the task is one of the next call
abbrev pub TaskIsKnown : Caller → List Call → ℕ → Task → Type 0
TaskIsKnown k calls done (Attempting m) = IsAttempt k calls done m
TaskIsKnown k calls done (Awaiting m) = IsWait k calls done m
TaskIsKnown k calls done Finishing = done ≡ length calls
TaskIsKnown k calls done Ended = done ≡ length calls

-- the task is one of the next call, of so many that their number fits
pub record ProgressIsKnown (k : Caller) (calls : List Call) (p : Progress) : Type 0 where
  pub few : length calls ≤ 1048576
  pub task : TaskIsKnown k calls p.done p.task

-- how many replies stand beyond those of the calls that are through
abbrev pub replied : Task → ℕ
replied (Attempting m) = ahead (decided m.stage)
replied (Awaiting m) = 0
replied Finishing = 0
replied Ended = 0

pub record IsKnown (d : Driving) : Type 0 where
  pub caller : IsCaller d.caller
  pub calls : AreFitting d.caller.shape d.calls
  pub progress : ProgressIsKnown d.caller d.calls d.progress
  pub replies : length d.replies ≡ d.progress.done + replied d.progress.task
