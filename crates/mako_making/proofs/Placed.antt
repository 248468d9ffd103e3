-- What a step of a mutator keeps, beside what each mutator keeps of itself.
use Rattle.std.proofs.Common.{ℕ}
use Rattle.mako_shape.specs.declared.numbers.Numbers.{Numbers}
use Rattle.mako_model.specs.Legal.{Facts}
use Rattle.mako_mutator.specs.declared.progress.Task.{Task}
use Rattle.mako_mutator.specs.Drivers as drivers
use Rattle.mako_mutator.specs.Drivers.{Driving}
use Rattle.mako_joint.specs.Joints.{JointScene, Joint}
use Rattle.mako_making.specs.Makings.{IsAt, TaskSearches}
use Rattle.mako_mutating.specs.Mutators.{found_by, stepped}

-- all groups hold in the scene after a step, and a search keeps what it keeps
pub record AllHold (n : Numbers) (w : Facts) (after : JointScene) (d : Driving) : Type 0 where
  pub joint : Joint n w after
  pub keeps : TaskSearches n after.words d.progress.task

-- so it is after the machine's next step
abbrev pub NextKeeps : Numbers → Facts → JointScene → ℕ → Driving → Type 0
NextKeeps n w s m d = AllHold n w (stepped s m d) (drivers.fed d (found_by s d))

-- the next step of a mutator at one of these tasks
abbrev pub StepsHold : (Task → Type 0) → Type 0
StepsHold AreThese = (n : Numbers) (w : Facts) (s : JointScene) (m : ℕ) (d : Driving) → Joint n w s
    → IsAt n s m d → AreThese d.progress.task → NextKeeps n w s m d
