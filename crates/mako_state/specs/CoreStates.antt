-- Core states, and the steps of seats on them.
use Rattle.std.specs.Prelude.{ℕ, List, [], ◌∷◌, ◌++◌, Option, Some, None, slice_get, slice_index, slice_set}
use Rattle.mako_words.specs.declared.name.Name.{Name}
use Rattle.mako_step.specs.Acts.{found, words_after}
use Rattle.mako_step.specs.declared.step.Step.{Step}
use Rattle.mako_step.specs.declared.step.Step.TheVariants.{Do, Ended}
use Rattle.mako_model.specs.declared.event.Event.{Event}
use Rattle.mako_model.specs.declared.event.Event.TheVariants.{Nothing, Answered, Snapped, Finished}
use Rattle.mako_model.specs.declared.point.Point.TheVariants.{Snap}
use Rattle.mako_model.specs.Fronts.{Seen}
use Rattle.mako_seat.specs.declared.seat.Seat.{Seat}
use Rattle.mako_seat.specs.declared.seat.Seat.TheVariants.{Mutator, Server, Collector}
use Rattle.mako_seat.specs.Seats.{next_of, fed, event_of}

-- The words of the heap, the machine of each seat (mutators, then servers, then the collector), and the front: the
-- history with the names freed in each finished cycle.
pub record CoreState : Type 0 where
  pub words : List ℕ
  pub seats : List Seat
  pub front : Seen

-- the names that the collector has got in the present cycle
abbrev pub got_by : Seat → List Name
got_by (Mutator d) = []
got_by (Server s) = []
got_by (Collector c) = c.kept.freed

-- a deciding step appends its point, a snapshot is a point, and with the end of a cycle its freed names are told
abbrev pub front_after : Seen → List Name → Event → Seen
front_after front got Nothing = front
front_after front got (Answered point) = record { history = front.history ++ point ∷ []; finished = front.finished }
front_after front got (Snapped cycle) = record { history = front.history ++ Snap cycle ∷ []; finished = front.finished }
front_after front got (Finished cycle) = record { history = front.history; finished = front.finished ++ got ∷ [] }

-- the machine v of seat i makes its next step, which found this word
abbrev pub moved : CoreState → ℕ → Seat → List ℕ → ℕ → CoreState
moved st i v words w = record {
  words = words;
  seats = slice_set st.seats i (fed v w);
  front = front_after st.front (got_by v) (event_of v w);
}

abbrev pub made : CoreState → ℕ → Seat → Step → CoreState
made st i v (Do act) = moved st i v (words_after act st.words) (found act.op (slice_index st.words act.word))
made st i v Ended = st

abbrev pub stepped_by : CoreState → ℕ → Option Seat → CoreState
stepped_by st i (Some v) = made st i v (next_of v)
stepped_by st i None = st

-- the state after one step of seat i, which at its end changes nothing
abbrev pub step_of : CoreState → ℕ → CoreState
step_of st i = stepped_by st i (slice_get st.seats i)
