-- The runs of schedules.
use Rattle.std.specs.Prelude.{◌≡◌, ℕ, zero, suc, ◌+◌, Bool, true, false, if◌then◌else◌, List, [], ◌∷◌, slice_get, Some}
use Rattle.mako_mutator.specs.declared.place.Place.{Place}
use Rattle.mako_mutator.specs.declared.place.Place.TheVariants.{Before, Within, Serving, Ended}
use Rattle.mako_script.specs.Scripts.{ScriptView}
use Rattle.mako_seat.specs.Seats.{place_of}
use Rattle.mako_seat.specs.declared.seat.Seat.{Seat}
use Rattle.mako_state.specs.CoreStates.{CoreState, step_of}
use Rattle.mako_state.specs.Openings.{opening_core}
use Rattle.mako_replay.specs.Schedules.{Left, left_at_start, chosen, left_after}
use Rattle.mako_replay.specs.declared.order.Order.{Order}

abbrev pub is_end : Place → Bool
is_end (Before done) = false
is_end (Within done) = false
is_end Serving = false
is_end Ended = true

-- the numbers of the seats that are not at their end, of seats that are numbered from i on
abbrev pub live_from : ℕ → List Seat → List ℕ
live_from i [] = []
live_from i (v ∷ seats) = if is_end (place_of v) then live_from (i + 1) seats else i ∷ live_from (i + 1) seats

abbrev pub live : List Seat → List ℕ
live seats = live_from 0 seats

-- each seat is at its end
abbrev pub AreAllAtEnd : List Seat → Type 0
AreAllAtEnd seats = (i : ℕ) (v : Seat) → slice_get seats i ≡ Some v → place_of v ≡ Ended

-- a core state with what is left of its schedule, and how many steps were made
pub record Going : Type 0 where
  pub state : CoreState
  pub left : Left
  pub made : ℕ

-- behind a step of this seat
abbrev pub stepped : Going → ℕ → Going
stepped g seat = record { state = step_of g.state seat; left = left_after g.left seat; made = g.made + 1 }

-- behind the next step of the schedule, of which there is none where no seat is left
abbrev pub going_on : Going → List ℕ → Going
going_on g [] = g
going_on g (first ∷ others) = stepped g (chosen g.left first others)

abbrev pub advanced : Going → Going
advanced g = going_on g (live g.state.seats)

abbrev pub times : ℕ → Going → Going
times zero g = g
times (suc k) g = advanced (times k g)

abbrev pub at_start : ScriptView → Order → Going
at_start s order = record { state = opening_core s; left = left_at_start order; made = 0 }

-- the run of the order: so many steps from the start of the script on, or fewer where all seats come to their ends
-- before
abbrev pub after : ScriptView → Order → ℕ → Going
after s order steps = times steps (at_start s order)
