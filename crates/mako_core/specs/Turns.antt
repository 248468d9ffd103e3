-- What a step of a seat is told as.
use Rattle.std.specs.Prelude.{ℕ, Option, Some, None}
use Rattle.mako_step.specs.Acts.{finds}
use Rattle.mako_step.specs.Stepping.{stepped}
use Rattle.mako_step.specs.declared.stepping.Stepped.{Stepped}
use Rattle.mako_step.specs.declared.stepping.Stepped.TheVariants.{Ended as StepEnded, Waiting as StepWaiting}
use Rattle.mako_step.specs.declared.stepping.Stepped.TheVariants.{Moved as StepMoved}
use Rattle.mako_model.specs.declared.event.Event.{Event}
use Rattle.mako_model.specs.declared.event.Event.TheVariants.{Nothing}
use Rattle.mako_mutator.specs.Telling.{told_by}
use Rattle.mako_seat.specs.Seats.{next_of, event_of, is_waiting}
use Rattle.mako_seat.specs.declared.seat.Seat.{Seat}
use Rattle.mako_state.specs.CoreStates.{CoreState}
use Rattle.mako_core.specs.declared.turn.Turn.{Turn}
use Rattle.mako_core.specs.declared.turn.Turn.TheVariants.{Moved, Waiting, Ended}

-- what the step of a machine comes to on these words
abbrev pub stepped_on : Seat → ℕ → Stepped Event
stepped_on v found = stepped (next_of v) (is_waiting v found) found (event_of v found)

abbrev pub turn_by : {E : Type 0} → Stepped E → Turn
turn_by StepEnded = Ended
turn_by (StepWaiting word) = Waiting word
turn_by (StepMoved event) = Moved

-- at its end a seat does not step; a look that does not find what it waits for waits, with the word found; every other
-- step moves
abbrev pub turn_at : CoreState → Option Seat → Turn
turn_at st (Some v) = turn_by (stepped_on v (finds (next_of v) st.words))
turn_at st None = Ended

-- what the step tells: the event of a step that moves, and else nothing
abbrev pub told_at : CoreState → Option Seat → Event
told_at st (Some v) = told_by (stepped_on v (finds (next_of v) st.words))
told_at st None = Nothing
