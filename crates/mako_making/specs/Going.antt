-- What the next act of a mutator asks of the words where it makes an object, asks or waits for a cycle, finds no room,
-- or
-- is past its calls: it is of a word that there is, within its bounds, and finds what the machine can go on with.
use Rattle.std.specs.Prelude.{ℕ, ◌≤◌}
use Rattle.mako_shape.specs.declared.numbers.Numbers.{Numbers}
use Rattle.mako_shape.specs.Places.{finished, word_at}
use Rattle.mako_step.specs.Machines.{CanStep}
use Rattle.mako_model.specs.Legal.{Facts}
use Rattle.mako_call.specs.declared.call_stage.CallStage.{CallStage}
use Rattle.mako_call.specs.declared.call_stage.CallStage.TheVariants.{Allocating, Asking, Leaving}
use Rattle.mako_mutator.specs.declared.progress.Task.{Task}
use Rattle.mako_mutator.specs.declared.progress.Task.TheVariants.{Attempting, Awaiting, Finishing, Ended as TaskEnded}
use Rattle.mako_mutator.specs.Drivers as drivers
use Rattle.mako_mutator.specs.Drivers.{Driving}
use Rattle.mako_joint.specs.Joints.{JointScene, Joint}
use Rattle.mako_mutating.specs.Mutators.{IsSeen, view_of, MutatorKeeps}
use Rattle.mako_making.specs.Makings.{TaskSearches}
use Rattle.mako_making.specs.Stages.{LeavesFilled}

abbrev pub IsAtRoom : CallStage → Type 0
IsAtRoom (Allocating s) = Unit {0}
IsAtRoom (Asking s) = Unit {0}
IsAtRoom (Leaving s) = LeavesFilled (Leaving s)
IsAtRoom s = ⊥

abbrev pub IsBesideObjects : Task → Type 0
IsBesideObjects (Attempting c) = IsAtRoom c.stage
IsBesideObjects (Awaiting c) = Unit {0}
IsBesideObjects Finishing = Unit {0}
IsBesideObjects TaskEnded = Unit {0}

-- as long as no more mutators are counted finished than there are
abbrev pub MakingsCanGo : Type 0
MakingsCanGo = (n : Numbers) (w : Facts) (s : JointScene) (m : ℕ) (d : Driving) → Joint n w s
    → IsSeen s m (view_of d) → MutatorKeeps n w s.words s.front m d → TaskSearches n s.words d.progress.task
    → word_at n s.words finished ≤ n.mutators → IsBesideObjects d.progress.task
    → CanStep (drivers.next_of d) s.words (drivers.Fits d)
