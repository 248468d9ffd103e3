-- The steps of the collector over states, from what some of them ask beside the seats.
use Rattle.std.specs.Prelude.{ℕ, ◌≡◌, slice_get, Some}
use Rattle.mako_shape.specs.declared.numbers.Numbers.{Numbers}
use Rattle.mako_step.specs.Acts.{finds}
use Rattle.mako_model.specs.Legal.{Facts}
use Rattle.mako_pause.specs.Collecting.{Collecting, Holdings, at, next_of, Fits}
use Rattle.mako_pause.specs.declared.stage.ChoiceStage.{ChoiceStage}
use Rattle.mako_pause.specs.declared.stage.NoticeStage.{NoticeStage}
use Rattle.mako_pause.specs.declared.stage.CollectStage.{CollectStage}
use Rattle.mako_pause.specs.declared.stage.CollectStage.TheVariants.{Choosing}
use Rattle.mako_clearing.specs.Hearing.{NoticeKnows, noticing}
use Rattle.mako_collecting.specs.Roles.{HasSpare}
use Rattle.mako_seat.specs.declared.seat.Seat.TheVariants.{Collector}
use Rattle.mako_state.specs.CoreStates.{CoreState, step_of}
use Rattle.mako_joint.specs.Joints.{JointFacets}
use Rattle.mako_whole.specs.AllRuns.{scene_in, SeatsSit}
use Rattle.mako_sitting_collector.specs.CollectorGoing.{BarriersHold}
use Rattle.mako_sitting_collector.specs.CollectorHears.{ReadAreHeard, GivenAreNext}

-- Each barrier slot has a name or nothing. At its notices the word that the collector has found stands in its slot yet,
-- nothing is left of the servers that it has read, and the regions given up get spare with the next cycle; in its
-- choice there is a spare region left for a home that it loads.
pub record FactsStand (n : Numbers) (w : Facts) (st : CoreState) (facets : JointFacets) : Type 0 where
  pub barriers : BarriersHold n st.words
  pub notices : (i : ℕ) (k : Holdings) (stage : NoticeStage)
      → slice_get st.seats i ≡ Some (Collector (noticing k stage)) → NoticeKnows n st.words k stage
  pub read : ReadAreHeard (scene_in st facets)
  pub next : (i : ℕ) (k : Holdings) (stage : NoticeStage)
      → slice_get st.seats i ≡ Some (Collector (noticing k stage)) → GivenAreNext n w (scene_in st facets) k
  pub spares : (i : ℕ) (k : Holdings) (stage : ChoiceStage)
      → slice_get st.seats i ≡ Some (Collector (at k (Choosing stage))) → HasSpare k stage

-- then what its act finds is what it can go on with
abbrev pub FindingsFit : Type 0
FindingsFit = (n : Numbers) (w : Facts) (st : CoreState) (i : ℕ) (k : Holdings) (stage : CollectStage)
    → (sits : SeatsSit n w st) → FactsStand n w st sits.facets → slice_get st.seats i ≡ Some (Collector (at k stage))
    → Fits (at k stage) (finds (next_of (at k stage)) st.words)

-- all seats sit after its step at a notice, and after the store of Idle
abbrev pub NoticeRuns : Type 0
NoticeRuns = (n : Numbers) (w : Facts) (st : CoreState) (i : ℕ) (k : Holdings) (stage : NoticeStage)
    → (sits : SeatsSit n w st) → FactsStand n w st sits.facets
    → slice_get st.seats i ≡ Some (Collector (noticing k stage)) → SeatsSit n w (step_of st i)

-- and after each of its steps, whatever its stage
abbrev pub CollectorsKeepSeats : Type 0
CollectorsKeepSeats = (n : Numbers) (w : Facts) (st : CoreState) (i : ℕ) (c : Collecting) → (sits : SeatsSit n w st)
    → FactsStand n w st sits.facets → slice_get st.seats i ≡ Some (Collector c) → SeatsSit n w (step_of st i)
