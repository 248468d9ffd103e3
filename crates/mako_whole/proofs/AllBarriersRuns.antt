-- Barrier slots over any step of a state.
use Rattle.std.proofs.Common.{◌≡◌, ℕ, slice_get, Option, Some, None, refl}
use Rattle.mako_shape.specs.declared.numbers.Numbers.{Numbers}
use Rattle.mako_step.specs.Acts.{words_stepped}
use Rattle.mako_step.specs.Machines.{IsAct}
use Rattle.mako_step.specs.declared.step.Step.{Step}
use Rattle.mako_step.specs.declared.step.Step.TheVariants.{Do, Ended as NoStep}
use Rattle.mako_model.specs.Legal.{Facts}
use Rattle.mako_joint.specs.Joints.{JointScene}
use Rattle.mako_seat.specs.declared.seat.Seat.{Seat}
use Rattle.mako_seat.specs.declared.seat.Seat.TheVariants.{Mutator, Server, Collector}
use Rattle.mako_seat.specs.Seats.{next_of}
use Rattle.mako_state.specs.CoreStates.{CoreState, made, stepped_by}
use Rattle.mako_collecting.specs.Steps.{stepped}
use Rattle.mako_whole.specs.AllBarriers.{StepsHoldBarriers}
use Rattle.mako_whole.specs.AllRuns.{SeatsSit, scene_in}
use Rattle.mako_sitting_collector.specs.CollectorGoing.{BarriersHold}
use Rattle.mako_whole.proofs.AllBarriers.{collectors_hold_barriers, left}
use Rattle.mako_whole.proofs.AllBarriersMutator.{mutators_hold_barriers}

module _ (n : Numbers) (w : Facts) (st : CoreState) (i : ℕ) (sits : SeatsSit n w st) (hold : BarriersHold n st.words)
  where
    abbrev s : JointScene
    s = scene_in st sits.facets

    -- a seat at its end changes nothing
    made_holds : (v : Seat) (next : Step) → (IsAct next → BarriersHold n (words_stepped next st.words))
        → BarriersHold n (made st i v next).words
    made_holds v (Do act) goes = goes tt
    made_holds v NoStep goes = hold

    goes : (v : Seat) → slice_get st.seats i ≡ Some v → IsAct (next_of v)
        → BarriersHold n (words_stepped (next_of v) st.words)
    goes (Mutator d) here act = mutators_hold_barriers n w s st.seats i d sits.all here act hold
    goes (Server v) here act = left n w s st.seats i v sits.all here hold
    goes (Collector c) here act = collectors_hold_barriers n w s (stepped n s c) st.seats i c sits.all here refl hold

    by : (o : Option Seat) → slice_get st.seats i ≡ o → BarriersHold n (stepped_by st i o).words
    by (Some v) here = made_holds v (next_of v) (goes v here)
    by None here = hold

pub steps_hold_barriers : StepsHoldBarriers
steps_hold_barriers n w st i sits hold = by n w st i sits hold (slice_get st.seats i) refl
