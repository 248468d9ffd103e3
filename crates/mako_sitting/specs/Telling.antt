-- What the seats of a state tell, as statements: of the front and of replies, of freed names, and of records and marks.
use Rattle.std.specs.Prelude.{◌≡◌, ◌≢◌, ℕ, ◌+◌, ◌<◌, ◌≤◌, ◌⊎◌, ◌↔◌, Bool, List, slice_get, Some}
use Rattle.mako_words.specs.declared.name.Name.{Name}
use Rattle.mako_words.specs.declared.phase_word.PhaseWord.TheVariants.{Trace, Evac}
use Rattle.mako_shape.specs.declared.numbers.Numbers.{Numbers}
use Rattle.mako_shape.specs.Belongings.{tablet_of_entry}
use Rattle.mako_gate.specs.Changes.{tablets_of}
use Rattle.mako_gate.specs.Standings.{GateFacet, admitted, drained_by, writes}
use Rattle.mako_model.specs.Answering.{Answers, AnswersToEnd}
use Rattle.mako_model.specs.Dead.{AreFreed}
use Rattle.mako_model.specs.Fronts.{replies_to}
use Rattle.mako_model.specs.Legal.{Facts, state_of}
use Rattle.mako_mutator.specs.Drivers.{Driving}
use Rattle.mako_mutator.specs.declared.progress.Task.TheVariants.{Ended}
use Rattle.mako_names.specs.Freeing.{EpochsStand}
use Rattle.mako_names.specs.Tables.{phase_of}
use Rattle.mako_names.specs.Uses.{IsGood}
use Rattle.mako_ring.specs.Shades.{IsMarked, IsComplete}
use Rattle.mako_layout.specs.Beside.{entry_of, IsWriting}
use Rattle.mako_layout.specs.Conclusions.{address_of}
use Rattle.mako_layout.specs.Evacuations.{IsTaken, IsRecordOf, Seat as LayoutSeat, slot_at}
use Rattle.mako_layout.specs.Facets.{Work}
use Rattle.mako_layout.specs.Layouts.{entries_of}
use Rattle.mako_joint.specs.Joints.{JointScene, layout_in}
use Rattle.mako_seat.specs.declared.seat.Seat.{Seat}
use Rattle.mako_seat.specs.declared.seat.Seat.TheVariants.{Mutator}
use Rattle.mako_sitting.specs.Seats.{AllSit}

-- ---- the front

-- the front answers the script
abbrev pub SittingAnswer : Type 0
SittingAnswer =
    (n : Numbers) (w : Facts) (s : JointScene) (seats : List Seat) → AllSit n w s seats → Answers w s.front

-- to its end, once each mutator is at the end of its program
abbrev pub SittingAnswerToEnd : Type 0
SittingAnswerToEnd = (n : Numbers) (w : Facts) (s : JointScene) (seats : List Seat) → AllSit n w s seats
    → ((m : ℕ) (d : Driving) → slice_get seats m ≡ Some (Mutator d) → d.progress.task ≡ Ended)
    → AnswersToEnd w s.front

-- a mutator has the replies that the history gives it
abbrev pub SittingReplies : Type 0
SittingReplies = (n : Numbers) (w : Facts) (s : JointScene) (seats : List Seat) (m : ℕ) (d : Driving)
    → AllSit n w s seats → slice_get seats m ≡ Some (Mutator d) → d.replies ≡ replies_to m s.front.history

-- each finished cycle freed the names that died in it, and no others
abbrev pub SittingFreed : Type 0
SittingFreed = (n : Numbers) (w : Facts) (s : JointScene) (seats : List Seat) (i : ℕ) (names : List Name)
    → AllSit n w s seats → slice_get s.front.finished i ≡ Some names → AreFreed w s.front.history (i + 1) names

-- ---- records

-- each taken entry has its record, whose words are the fields of the heap's object
abbrev pub SittingRecords : Type 0
SittingRecords = (n : Numbers) (w : Facts) (s : JointScene) (seats : List Seat) (x : ℕ) → AllSit n w s seats
    → x < entries_of n → IsTaken n (layout_in n w s) x
    → IsRecordOf n (layout_in n w s).words (state_of w s.front.history) x (slot_at n (layout_in n w s) x)

-- records of two entries share no word
abbrev pub SittingApart : Type 0
SittingApart = (n : Numbers) (w : Facts) (s : JointScene) (seats : List Seat) (x y : ℕ) → AllSit n w s seats
    → x < entries_of n → y < entries_of n → x ≢ y → IsTaken n (layout_in n w s) x → IsTaken n (layout_in n w s) y
    → (address_of (layout_in n w s) x + (slot_at n (layout_in n w s) x).size ≤ address_of (layout_in n w s) y)
    ⊎ (address_of (layout_in n w s) y + (slot_at n (layout_in n w s) y).size ≤ address_of (layout_in n w s) x)

-- while a server copies records of a tablet, nobody is admitted there
abbrev pub SittingAlone : Type 0
SittingAlone = (n : Numbers) (w : Facts) (s : JointScene) (seats : List Seat) (t i j : ℕ) (f g : GateFacet)
    → AllSit n w s seats → t < tablets_of n → slice_get s.facets.gates i ≡ Some f → slice_get s.facets.gates j ≡ Some g
    → 1 ≤ drained_by t f.watch → admitted t g.standing ≡ 0

-- who writes records of a tablet holds its turn, or has drained its gate
abbrev pub SittingMayWrite : Type 0
SittingMayWrite = (n : Numbers) (w : Facts) (s : JointScene) (seats : List Seat) (i : ℕ) (g : GateFacet) (v : Work)
    → AllSit n w s seats → LayoutSeat (layout_in n w s) i g v → IsWriting v
    → 1 ≤ writes (tablet_of_entry n (entry_of v)) g

-- and two seats that write records of one tablet are one
abbrev pub SittingOneWriter : Type 0
SittingOneWriter = (n : Numbers) (w : Facts) (s : JointScene) (seats : List Seat) (i j : ℕ) (f g : GateFacet)
    (u v : Work)
    → AllSit n w s seats → LayoutSeat (layout_in n w s) i f u → LayoutSeat (layout_in n w s) j g v
    → IsWriting u → IsWriting v → entry_of u < entries_of n
    → tablet_of_entry n (entry_of u) ≡ tablet_of_entry n (entry_of v) → i ≡ j

-- ---- marks

-- while a cycle is traced and nothing is left to trace, the marked names are exactly the good ones
abbrev pub SittingMarks : Type 0
SittingMarks = (n : Numbers) (w : Facts) (s : JointScene) (seats : List Seat) (cycle : ℕ) (inside : ℕ → Bool)
    → AllSit n w s seats → phase_of n s.words ≡ Trace cycle → IsComplete n s.words s.facets.trace inside
    → (x : Name) → IsMarked n s.words cycle x ↔ IsGood w s.front.history x

-- while servers evacuate, a taken entry has the cycle's epoch or its name is dead in the cycle
abbrev pub SittingEpochs : Type 0
SittingEpochs = (n : Numbers) (w : Facts) (s : JointScene) (seats : List Seat) (cycle : ℕ)
    → AllSit n w s seats → phase_of n s.words ≡ Evac cycle → EpochsStand n s.words w s.front.history cycle
