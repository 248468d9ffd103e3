-- The steps of mutators among all seats.
use Rattle.std.specs.Prelude.{ℕ, ◌≡◌, List, slice_get, slice_set, Some, if◌then◌else◌, ◌==◌}
use Rattle.mako_shape.specs.declared.numbers.Numbers.{Numbers}
use Rattle.mako_step.specs.Machines.{IsAct, CanStep}
use Rattle.mako_model.specs.Legal.{Facts}
use Rattle.mako_joint.specs.Joints.{JointScene}
use Rattle.mako_mutator.specs.declared.progress.Task.{Task}
use Rattle.mako_mutator.specs.declared.progress.Task.TheVariants.{Attempting, Awaiting, Finishing, Ended as TaskEnded}
use Rattle.mako_mutator.specs.Drivers as drivers
use Rattle.mako_mutator.specs.Drivers.{Driving}
use Rattle.mako_seat.specs.declared.seat.Seat.{Seat}
use Rattle.mako_seat.specs.declared.seat.Seat.TheVariants.{Mutator}
use Rattle.mako_mutating.specs.Mutators.{found_by, stepped}
use Rattle.mako_sitting.specs.Seats.{AllSit}

-- ---- after a step

abbrev pub mutator_next : JointScene → Driving → Driving
mutator_next s d = drivers.fed d (found_by s d)

-- the barrier slot of its attempt, or the last one where there is none
abbrev pub task_place : ℕ → Task → ℕ
task_place last (Attempting c) = c.slot
task_place last (Awaiting c) = c.slot
task_place last Finishing = last
task_place last TaskEnded = last

-- the places of all mutators in their barrier rings, with that of this one after its step
abbrev pub places_after : (ℕ → ℕ) → JointScene → ℕ → Driving → ℕ → ℕ
places_after places s m d i =
    if i == m then task_place (places m) (mutator_next s d).progress.task else places i

-- ---- what is true of them

-- the act of a mutator is of a word that there is, within its bounds, and finds what the machine can go on with
abbrev pub MutatorsCanGo : Type 0
MutatorsCanGo = (n : Numbers) (w : Facts) (s : JointScene) (seats : List Seat) (m : ℕ) (d : Driving)
    → AllSit n w s seats → slice_get seats m ≡ Some (Mutator d)
    → CanStep (drivers.next_of d) s.words (drivers.Fits d)

-- its step keeps all seats
abbrev pub MutatorsKeepAll : Type 0
MutatorsKeepAll = (n : Numbers) (w : Facts) (s : JointScene) (seats : List Seat) (m : ℕ) (d : Driving)
    → AllSit n w s seats → slice_get seats m ≡ Some (Mutator d) → IsAct (drivers.next_of d)
    → AllSit n w (stepped s m d) (slice_set seats m (Mutator (mutator_next s d)))
