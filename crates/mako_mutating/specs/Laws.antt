-- What is true of a mutator's steps: each keeps all groups, and what the mutator keeps of itself.
use Rattle.std.specs.Prelude.{ℕ, ◌≡◌}
use Rattle.mako_shape.specs.declared.numbers.Numbers.{Numbers}
use Rattle.mako_step.specs.Machines.{CanStep}
use Rattle.mako_model.specs.declared.attempt.Attempt.{Attempt}
use Rattle.mako_model.specs.declared.attempt.Attempt.TheVariants.{Answer, Full, Pause as Paused}
use Rattle.mako_model.specs.Legal.{Facts}
use Rattle.mako_call.specs.declared.object.Errand.{Errand}
use Rattle.mako_call.specs.declared.object.Get.{Get as GetArgs}
use Rattle.mako_call.specs.declared.object.Put.{Put as PutArgs}
use Rattle.mako_call.specs.declared.object.Located.{Located}
use Rattle.mako_call.specs.declared.call_stage.CallStage.{CallStage}
use Rattle.mako_call.specs.declared.call_stage.CallStage.TheVariants.{Arriving, Rooting, Entering, Moving, Getting}
use Rattle.mako_call.specs.declared.call_stage.CallStage.TheVariants.{Putting, Allocating, Asking, Leaving, Ended}
use Rattle.mako_call.specs.declared.rooting.RootStage.{RootStage}
use Rattle.mako_call.specs.declared.entering.EnterStage.{EnterStage}
use Rattle.mako_call.specs.declared.moving.MoveStage.{MoveStage}
use Rattle.mako_call.specs.declared.getting.GetStage.{GetStage}
use Rattle.mako_call.specs.declared.putting.PutStage.{PutStage}
use Rattle.mako_call.specs.declared.leaving.LeaveStage.{LeaveStage}
use Rattle.mako_call.specs.declared.leaving.LeaveStage.TheVariants.{Refused, TurnedAway, FromTablet, FromOwn}
use Rattle.mako_mutator.specs.declared.progress.Task.TheVariants.{Finishing}
use Rattle.mako_mutator.specs.Drivers as drivers
use Rattle.mako_mutator.specs.Drivers.{Driving}
use Rattle.mako_joint.specs.Joints.{JointScene, Joint}
use Rattle.mako_mutating.specs.Mutators.{view_of, IsSeen, MutatorKeeps, IsAttempting, StepKeeps}

-- at the own gate
abbrev pub ArrivalsKeep : Type 0
ArrivalsKeep = (n : Numbers) (w : Facts) (s : JointScene) → Joint n w s → (m : ℕ) (d : Driving)
    → IsAttempting n w s m d Arriving → StepKeeps n w s m d

-- at the own roots
abbrev pub RootsKeep : Type 0
RootsKeep = (n : Numbers) (w : Facts) (s : JointScene) → Joint n w s → (m : ℕ) (d : Driving) (stage : RootStage)
    → IsAttempting n w s m d (Rooting stage) → StepKeeps n w s m d

-- at the gate of the object's tablet, its entry and the tablet's home
abbrev pub EntersKeep : Type 0
EntersKeep = (n : Numbers) (w : Facts) (s : JointScene) → Joint n w s
    → (m : ℕ) (d : Driving) (e : Errand) (stage : EnterStage)
    → IsAttempting n w s m d (Entering e stage) → StepKeeps n w s m d

-- at the object's record, for a get
abbrev pub GetsKeep : Type 0
GetsKeep = (n : Numbers) (w : Facts) (s : JointScene) → Joint n w s
    → (m : ℕ) (d : Driving) (at : Located) (get : GetArgs) (stage : GetStage)
    → IsAttempting n w s m d (Getting at get stage) → StepKeeps n w s m d

-- and for a put, with its barrier
abbrev pub PutsKeep : Type 0
PutsKeep = (n : Numbers) (w : Facts) (s : JointScene) → Joint n w s
    → (m : ℕ) (d : Driving) (at : Located) (put : PutArgs) (stage : PutStage)
    → IsAttempting n w s m d (Putting at put stage) → StepKeeps n w s m d

-- An attempt leaves its gates with an answer or a pause. One that has found no room waits, or is answered, where it
-- leaves its own gate.
abbrev pub HasNotFilled : Attempt → Type 0
HasNotFilled (Answer reply) = Unit {0}
HasNotFilled Full = ⊥
HasNotFilled (Paused pause) = Unit {0}

abbrev pub LeavesPlainly : LeaveStage → Type 0
LeavesPlainly (Refused word) = Unit {0}
LeavesPlainly (TurnedAway tablet word) = Unit {0}
LeavesPlainly (FromTablet tablet outcome) = Unit {0}
LeavesPlainly (FromOwn outcome) = HasNotFilled outcome

abbrev pub LeavesKeep : Type 0
LeavesKeep = (n : Numbers) (w : Facts) (s : JointScene) → Joint n w s
    → (m : ℕ) (d : Driving) (stage : LeaveStage) → LeavesPlainly stage
    → IsAttempting n w s m d (Leaving stage) → StepKeeps n w s m d

-- where the mutator moves the object's record: the turn, the entry under it, and the copy
abbrev pub MovesKeep : Type 0
MovesKeep = (n : Numbers) (w : Facts) (s : JointScene) → Joint n w s
    → (m : ℕ) (d : Driving) (e : Errand) (stage : MoveStage)
    → IsAttempting n w s m d (Moving e stage) → StepKeeps n w s m d

-- ---- all of them

-- the stages of calls, but for those of a new that makes its object or finds no room, and of a collect
abbrev pub IsOfACall : CallStage → Type 0
IsOfACall (Allocating stage) = ⊥
IsOfACall (Asking stage) = ⊥
IsOfACall (Ended outcome) = ⊥
IsOfACall (Leaving stage) = LeavesPlainly stage
IsOfACall stage = Unit {0}

-- at each of these stages, in every phase, the step of a mutator keeps all groups
abbrev pub AttemptsKeep : Type 0
AttemptsKeep = (n : Numbers) (w : Facts) (s : JointScene) → Joint n w s
    → (m : ℕ) (d : Driving) (stage : CallStage) → IsOfACall stage
    → IsAttempting n w s m d stage → StepKeeps n w s m d

-- and its act is of a word that there is, stays within its bounds, and finds what the machine can go on with
abbrev pub AttemptsCanGo : Type 0
AttemptsCanGo = (n : Numbers) (w : Facts) (s : JointScene) → Joint n w s
    → (m : ℕ) (d : Driving) (stage : CallStage) → IsOfACall stage
    → IsAttempting n w s m d stage → CanStep (drivers.next_of d) s.words (drivers.Fits d)

-- ---- the end

-- and so does the step with which a mutator at the end of its program counts itself
abbrev pub FinishesKeep : Type 0
FinishesKeep = (n : Numbers) (w : Facts) (s : JointScene) → Joint n w s → (m : ℕ) (d : Driving)
    → IsSeen s m (view_of d) → MutatorKeeps n w s.words s.front m d → d.progress.task ≡ Finishing
    → StepKeeps n w s m d
