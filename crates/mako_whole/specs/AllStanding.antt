-- All seats of a state of a core, with what the collector's steps ask besides.
use Rattle.std.specs.Prelude.{ℕ, ◌≡◌, ◌+◌, List, slice_get, Some}
use Rattle.mako_words.specs.declared.name.Name.{Name}
use Rattle.mako_shape.specs.declared.numbers.Numbers.{Numbers}
use Rattle.mako_step.specs.Machines.{CanStep}
use Rattle.mako_model.specs.Answering.{Answers, AnswersToEnd}
use Rattle.mako_model.specs.Dead.{AreFreed}
use Rattle.mako_model.specs.Fronts.{replies_to}
use Rattle.mako_model.specs.Legal.{Facts}
use Rattle.mako_mutator.specs.Drivers.{Driving}
use Rattle.mako_mutator.specs.declared.progress.Task.TheVariants.{Ended}
use Rattle.mako_pause.specs.Collecting.{Collecting}
use Rattle.mako_script.specs.ScriptFacts.{facts_of}
use Rattle.mako_script.specs.Scripts.{ScriptView, IsProper}
use Rattle.mako_seat.specs.Seats.{next_of, Fits}
use Rattle.mako_seat.specs.declared.seat.Seat.{Seat}
use Rattle.mako_seat.specs.declared.seat.Seat.TheVariants.{Mutator, Collector}
use Rattle.mako_state.specs.CoreStates.{CoreState, step_of}
use Rattle.mako_state.specs.Openings.{opening_core}
use Rattle.mako_state.specs.Runs.{Reached}
use Rattle.mako_joint.specs.Joints.{JointFacets}
use Rattle.mako_sitting.specs.Seats.{AllSit}
use Rattle.mako_whole.specs.AllRuns.{scene_in}
use Rattle.mako_whole.specs.AllGifts.{GiftsAreNext}
use Rattle.mako_whole.specs.AllHoused.{AllHoused}
use Rattle.mako_whole.specs.AllNotices.{NoticesStand}
use Rattle.mako_sitting_collector.specs.CollectorGoing.{BarriersHold}
use Rattle.mako_sitting_collector.specs.CollectorSnaps.{SeatsAreAll}

-- There are facets with which all seats sit. No facet stands behind those of the seats; each barrier slot has a name or
-- nothing; of the servers that the collector has read nothing is left, and the notice that it has found stands; it
-- finds each home as it stored it; and the regions given up are those that get spare with the next cycle.
pub record SeatsStand (n : Numbers) (w : Facts) (st : CoreState) : Type 0 where
  pub facets : JointFacets
  pub all : AllSit n w (scene_in st facets) st.seats
  pub behind : SeatsAreAll n (scene_in st facets)
  pub barriers : BarriersHold n st.words
  pub notices : NoticesStand n (scene_in st facets) st.seats
  pub housed : AllHoused n st.words st.seats
  pub gifts : GiftsAreNext n (scene_in st facets) st.seats

-- each step of the collector keeps it
abbrev pub CollectorStands : Type 0
CollectorStands = (n : Numbers) (w : Facts) (st : CoreState) (i : ℕ) (c : Collecting) → SeatsStand n w st
    → slice_get st.seats i ≡ Some (Collector c) → SeatsStand n w (step_of st i)

-- so it is at the start of each proper script
abbrev pub OpeningsStand : Type 0
OpeningsStand = (s : ScriptView) → IsProper s → SeatsStand s.numbers (facts_of s) (opening_core s)

-- and each step of each seat keeps it
abbrev pub StepsStand : Type 0
StepsStand = (n : Numbers) (w : Facts) (st : CoreState) (i : ℕ) → SeatsStand n w st → SeatsStand n w (step_of st i)

-- and is of a word that there is, within its bounds, and finds what the machine can go on with
abbrev pub StepsCanGo : Type 0
StepsCanGo = (n : Numbers) (w : Facts) (st : CoreState) (i : ℕ) (v : Seat) → SeatsStand n w st
    → slice_get st.seats i ≡ Some v → CanStep (next_of v) st.words (Fits v)

-- so it stands in all states to which the core of a proper script comes, by steps of any seats in any order
abbrev pub AllRunsStand : Type 0
AllRunsStand = (s : ScriptView) (st : CoreState) → IsProper s → Reached s st → SeatsStand s.numbers (facts_of s) st

-- ---- what that tells, in each such state

-- the front answers the script
abbrev pub RunsAnswer : Type 0
RunsAnswer = (s : ScriptView) (st : CoreState) → IsProper s → Reached s st → Answers (facts_of s) st.front

-- to its end, once each mutator is at the end of its program
abbrev pub RunsAnswerToEnd : Type 0
RunsAnswerToEnd = (s : ScriptView) (st : CoreState) → IsProper s → Reached s st
    → ((m : ℕ) (d : Driving) → slice_get st.seats m ≡ Some (Mutator d) → d.progress.task ≡ Ended)
    → AnswersToEnd (facts_of s) st.front

-- each mutator has the replies of the history
abbrev pub RunsReply : Type 0
RunsReply = (s : ScriptView) (st : CoreState) (m : ℕ) (d : Driving) → IsProper s → Reached s st
    → slice_get st.seats m ≡ Some (Mutator d) → d.replies ≡ replies_to m st.front.history

-- and each finished cycle freed exactly the names that died in it
abbrev pub RunsFree : Type 0
RunsFree = (s : ScriptView) (st : CoreState) (i : ℕ) (names : List Name) → IsProper s → Reached s st
    → slice_get st.front.finished i ≡ Some names → AreFreed (facts_of s) st.front.history (i + 1) names
