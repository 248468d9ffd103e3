-- The collector can make its next step: its act is of a word that there is, and finds what the machine can go on with.
use Rattle.std.specs.Prelude.{ℕ, ◌≡◌, ◌<◌, ◌⊎◌, List, length, slice_get, slice_index, slice_set, Some}
use Rattle.mako_words.specs.declared.name.Name.{Name}
use Rattle.mako_words.specs.Names.{FitsName, name_word}
use Rattle.mako_shape.specs.declared.numbers.Numbers.{Numbers}
use Rattle.mako_shape.specs.Places.{barrier, index, total, Within, word_at}
use Rattle.mako_step.specs.Machines.{CanStep}
use Rattle.mako_model.specs.Legal.{Facts}
use Rattle.mako_joint.specs.Joints.{JointScene}
use Rattle.mako_pause.specs.Collecting.{Holdings, at, next_of, Fits}
use Rattle.mako_pause.specs.declared.stage.BarrierStage.TheVariants.{Loading}
use Rattle.mako_pause.specs.declared.stage.CollectStage.{CollectStage}
use Rattle.mako_pause.specs.declared.stage.CollectStage.TheVariants.{Barriers, Noticing}
use Rattle.mako_seat.specs.declared.seat.Seat.{Seat}
use Rattle.mako_seat.specs.declared.seat.Seat.TheVariants.{Collector}
use Rattle.mako_clearing.specs.Hearing.{NoticeKnows}
use Rattle.mako_sitting.specs.Seats.{AllSit}

-- the word of a barrier slot is 0, or that of a name that fits its bits
pub record HoldsAName (word : ℕ) : Type 0 where
  pub name : Name
  pub fits : FitsName name
  pub word_is : word ≡ name_word name

-- What is asked beside the groups and the seats: that the barrier slot that is looked at has a name or nothing, and
-- that the notice that was found still stands in its slot.
abbrev pub GoingNeeds : Numbers → List ℕ → Holdings → CollectStage → Type 0
GoingNeeds n words k (Barriers (Loading m)) =
    (word_at n words (barrier m (slice_index k.barrier_at m)) ≡ 0)
    ⊎ HoldsAName (word_at n words (barrier m (slice_index k.barrier_at m)))
GoingNeeds n words k (Noticing stage) = NoticeKnows n words k stage
GoingNeeds n words k stage = Unit {0}

-- so it can go on
abbrev pub CollectorsCanGo : Type 0
CollectorsCanGo = (n : Numbers) (w : Facts) (s : JointScene) (seats : List Seat) (i : ℕ) (k : Holdings)
    (stage : CollectStage) → AllSit n w s seats → slice_get seats i ≡ Some (Collector (at k stage))
    → GoingNeeds n s.words k stage → CanStep (next_of (at k stage)) s.words (Fits (at k stage))

-- ---- barrier slots

-- each barrier slot has a name or nothing
abbrev pub BarriersHold : Numbers → List ℕ → Type 0
BarriersHold n words = (m slot : ℕ) → Within n (barrier m slot)
    → (word_at n words (barrier m slot) ≡ 0) ⊎ HoldsAName (word_at n words (barrier m slot))

-- then the look at a barrier slot asks for nothing
abbrev pub LooksFindNames : Type 0
LooksFindNames = (n : Numbers) (w : Facts) (s : JointScene) (seats : List Seat) (i : ℕ) (k : Holdings) (m : ℕ)
    → AllSit n w s seats → slice_get seats i ≡ Some (Collector (at k (Barriers (Loading m))))
    → BarriersHold n s.words → GoingNeeds n s.words k (Barriers (Loading m))

-- so it stays where barrier slots are as they were, or are emptied: as each step of the collector and of servers leaves
-- them
abbrev pub EmptyingLeavesNames : Type 0
EmptyingLeavesNames = (n : Numbers) (words us : List ℕ)
    → ((m slot : ℕ) → m < n.mutators → slot < n.ring
    → (word_at n us (barrier m slot) ≡ word_at n words (barrier m slot)) ⊎ (word_at n us (barrier m slot) ≡ 0))
    → BarriersHold n words → BarriersHold n us

-- and where a name is stored into one
abbrev pub PutsLeaveNames : Type 0
PutsLeaveNames = (n : Numbers) (words : List ℕ) (m slot : ℕ) (name : Name) → length words ≡ total n
    → Within n (barrier m slot) → FitsName name → BarriersHold n words
    → BarriersHold n (slice_set words (index n (barrier m slot)) (name_word name))
