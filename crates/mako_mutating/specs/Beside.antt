-- What a step of another seat leaves to a mutator, and the opening.
use Rattle.std.specs.Prelude.{ℕ, ◌≡◌, ◌≢◌, ◌<◌, ◌≤◌, ◌⊎◌, List, [], ◌∷◌, ◌++◌, length, slice_get, Some}
use Rattle.mako_shape.specs.declared.numbers.Numbers.{Numbers}
use Rattle.mako_shape.specs.Places.{root, barrier, word_at}
use Rattle.mako_model.specs.declared.call.Call.{Call}
use Rattle.mako_model.specs.declared.reply.Reply.{Reply}
use Rattle.mako_model.specs.declared.point.Point.{Point}
use Rattle.mako_model.specs.declared.point.Point.TheVariants.{Did, Snap}
use Rattle.mako_model.specs.Fronts.{Seen}
use Rattle.mako_model.specs.Lawful.{IsLawful}
use Rattle.mako_model.specs.Legal.{Facts, state_of}
use Rattle.mako_mutator.specs.Drivers as drivers
use Rattle.mako_mutator.specs.Drivers.{Driving, AreFitting}
use Rattle.mako_call.specs.declared.call_stage.CallStage.{CallStage}
use Rattle.mako_joint.specs.Joints.{JointScene, Joint}
use Rattle.mako_joint.specs.Openings.{IsJointOpening}
use Rattle.mako_mutating.specs.Laws.{IsOfACall}
use Rattle.mako_mutating.specs.Mutators.{MutatorKeeps, IsAttempting, stepped}

-- its root words are as they were, and so are its barrier slots, or they are emptied
pub record LeavesToMutator (n : Numbers) (words after : List ℕ) (m : ℕ) : Type 0 where
  pub roots : (q : ℕ) → q < n.roots → word_at n after (root m q) ≡ word_at n words (root m q)
  pub barriers : (slot : ℕ) → slot < n.ring
      → (word_at n after (barrier m slot) ≡ word_at n words (barrier m slot))
      ⊎ (word_at n after (barrier m slot) ≡ 0)

-- the history goes on without it: nothing is told, another mutator's call is answered, or a snapshot is taken
pub data GoesOnBeside (w : Facts) (m : ℕ) (history : List Point) : List Point → Type 0 where
  Silent : GoesOnBeside w m history history
  Told : (i : ℕ) (c : Call) (r : Reply) → m ≢ i → IsLawful (state_of w history) (Did i c r)
      → GoesOnBeside w m history (history ++ Did i c r ∷ [])
  Snapped : (cycle : ℕ) → IsLawful (state_of w history) (Snap cycle)
      → GoesOnBeside w m history (history ++ Snap cycle ∷ [])

-- through such a step of another seat a mutator keeps what it keeps of itself
abbrev pub OthersLeave : Type 0
OthersLeave = (n : Numbers) (w : Facts) (words us : List ℕ) (front after : Seen) (m : ℕ) (d : Driving)
    → MutatorKeeps n w words front m d → LeavesToMutator n words us m → GoesOnBeside w m front.history after.history
    → MutatorKeeps n w us after m d

-- and a mutator's own step is such a one to every other mutator
pub record StepLeaves (n : Numbers) (w : Facts) (s : JointScene) (m : ℕ) (d : Driving) (other : ℕ) : Type 0 where
  pub words : LeavesToMutator n s.words (stepped s m d).words other
  pub history : GoesOnBeside w other s.front.history (stepped s m d).front.history

abbrev pub StepsLeaveOthers : Type 0
StepsLeaveOthers = (n : Numbers) (w : Facts) (s : JointScene) → Joint n w s
    → (m : ℕ) (d : Driving) (stage : CallStage) → IsOfACall stage → IsAttempting n w s m d stage
    → (other : ℕ) → other ≢ m → other < n.mutators → StepLeaves n w s m d other

-- ---- the opening

-- at the opening of all groups a mutator before its program keeps what it has to
abbrev pub OpeningsKeep : Type 0
OpeningsKeep = (n : Numbers) (w : Facts) (s : JointScene) → IsJointOpening n w s → (m : ℕ) (calls : List Call)
    → m < n.mutators → slice_get w.programs m ≡ Some calls → AreFitting n calls → length calls ≤ 1048576
    → MutatorKeeps n w s.words s.front m (drivers.opening (record { shape = n; mutator = m }) calls)
