-- Which stages of a mutator keep all groups, group by group of stages.
use Rattle.std.specs.Prelude.{ℕ, ◌≡◌, ◌⊎◌, List}
use Rattle.mako_words.specs.Phases.{cycle_of}
use Rattle.mako_shape.specs.declared.numbers.Numbers.{Numbers}
use Rattle.mako_step.specs.Machines.{IsAct}
use Rattle.mako_model.specs.declared.attempt.Attempt.{Attempt}
use Rattle.mako_model.specs.declared.attempt.Attempt.TheVariants.{Full}
use Rattle.mako_model.specs.Legal.{Facts}
use Rattle.mako_call.specs.declared.call_stage.CallStage.{CallStage}
use Rattle.mako_call.specs.declared.call_stage.CallStage.TheVariants.{Allocating, Asking, Leaving}
use Rattle.mako_call.specs.declared.leaving.LeaveStage.TheVariants.{FromOwn}
use Rattle.mako_mutator.specs.declared.progress.Task.{Task}
use Rattle.mako_mutator.specs.declared.progress.Task.TheVariants.{Attempting, Awaiting, Finishing}
use Rattle.mako_mutator.specs.Drivers as drivers
use Rattle.mako_mutator.specs.Drivers.{Driving}
use Rattle.mako_names.specs.Tables.{phase_of}
use Rattle.mako_phases.specs.Facets.{IsInPause}
use Rattle.mako_joint.specs.Joints.{JointScene, Joint}
use Rattle.mako_mutating.specs.Mutators.{IsSeen, view_of}
use Rattle.mako_making.specs.Makings.{IsMaking, MakingKeeps, TaskSearches}

-- the next step of a mutator at one of these tasks keeps all groups, and what the mutator keeps of itself
abbrev pub StepsKeepAll : (Task → Type 0) → Type 0
StepsKeepAll AreThese = (n : Numbers) (w : Facts) (s : JointScene) (m : ℕ) (d : Driving) → Joint n w s
    → IsMaking n w s m d → AreThese d.progress.task → MakingKeeps n w s m d

-- ---- collects and waits

abbrev pub IsAsking : CallStage → Type 0
IsAsking (Asking s) = Unit {0}
IsAsking s = ⊥

abbrev pub AttemptsCollect : Task → Type 0
AttemptsCollect (Attempting c) = IsAsking c.stage
AttemptsCollect task = ⊥

-- a wait for a cycle, before the last attempt of a call that found no room
abbrev pub AwaitsCycle : Task → Type 0
AwaitsCycle (Awaiting c) = Unit {0}
AwaitsCycle task = ⊥

-- past its last call it counts itself finished
abbrev pub IsPastCalls : Task → Type 0
IsPastCalls Finishing = Unit {0}
IsPastCalls task = ⊥

-- ---- a new

abbrev pub IsAllocating : CallStage → Type 0
IsAllocating (Allocating s) = Unit {0}
IsAllocating s = ⊥

abbrev pub AttemptsObject : Task → Type 0
AttemptsObject (Attempting c) = IsAllocating c.stage
AttemptsObject task = ⊥

-- ---- the end of an attempt that found no room

abbrev pub IsFilled : Attempt → Type 0
IsFilled Full = Unit {0}
IsFilled outcome = ⊥

abbrev pub LeavesFilled : CallStage → Type 0
LeavesFilled (Leaving (FromOwn outcome)) = IsFilled outcome
LeavesFilled s = ⊥

abbrev pub AttemptsFilled : Task → Type 0
AttemptsFilled (Attempting c) = LeavesFilled c.stage
AttemptsFilled task = ⊥

-- ---- the steps of others

-- What a search keeps, it keeps over a step of another seat that leaves the cycle of the phase, or is made in a pause:
-- there nobody searches.
abbrev pub SearchesStay : Type 0
SearchesStay = (n : Numbers) (w : Facts) (s : JointScene) (m : ℕ) (d : Driving) (j : Joint n w s)
    → IsSeen s m (view_of d) → TaskSearches n s.words d.progress.task → (words : List ℕ)
    → (cycle_of (phase_of n words) ≡ cycle_of (phase_of n s.words)) ⊎ IsInPause j.order.part
    → TaskSearches n words d.progress.task

-- every stage but those of a new
abbrev pub IsElsewhere : CallStage → Type 0
IsElsewhere (Allocating s) = ⊥
IsElsewhere s = Unit {0}

abbrev pub TaskIsElsewhere : Task → Type 0
TaskIsElsewhere (Attempting c) = IsElsewhere c.stage
TaskIsElsewhere task = Unit {0}

-- no step at another stage leads into a search
abbrev pub NoneBeginsASearch : Type 0
NoneBeginsASearch = (n : Numbers) (words : List ℕ) (d : Driving) (found : ℕ) → drivers.IsKnown d
    → drivers.Fits d found → IsAct (drivers.next_of d) → TaskIsElsewhere d.progress.task
    → TaskSearches n words (drivers.fed d found).progress.task
