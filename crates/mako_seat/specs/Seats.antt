-- The machine of a seat: that of a mutator's program, of a server, or of the collector.
use Rattle.std.specs.Prelude.{ℕ, Bool, false}
use Rattle.mako_shape.specs.declared.numbers.Numbers.{Numbers}
use Rattle.mako_step.specs.declared.step.Step.{Step}
use Rattle.mako_step.specs.declared.step.Step.TheVariants.{Do, Ended as NoStep}
use Rattle.mako_model.specs.declared.event.Event.{Event}
use Rattle.mako_model.specs.declared.event.Event.TheVariants.{Nothing}
use Rattle.mako_mutator.specs.Drivers as drivers
use Rattle.mako_mutator.specs.declared.place.Place.{Place}
use Rattle.mako_mutator.specs.declared.place.Place.TheVariants.{Serving as PlaceServing, Ended as PlaceEnded}
use Rattle.mako_server.specs.Serving as serving
use Rattle.mako_pause.specs.Collecting as collecting
use Rattle.mako_pause.specs.Ranks as collecting_ranks
use Rattle.mako_seat.specs.declared.seat.Seat.{Seat}
use Rattle.mako_seat.specs.declared.seat.Seat.TheVariants.{Mutator, Server, Collector}

-- the geometry of the heap that it works on
abbrev pub shape_of : Seat → Numbers
shape_of (Mutator d) = d.caller.shape
shape_of (Server v) = v.tracer.shape
shape_of (Collector k) = k.kept.shape

abbrev pub next_of : Seat → Step
next_of (Mutator d) = drivers.next_of d
next_of (Server v) = serving.next_of v
next_of (Collector k) = collecting.next_of k

abbrev pub Fits : Seat → ℕ → Type 0
Fits (Mutator d) w = drivers.Fits d w
Fits (Server v) w = serving.Fits v w
Fits (Collector k) w = collecting.Fits k w

abbrev pub fed : Seat → ℕ → Seat
fed (Mutator d) w = Mutator (drivers.fed d w)
fed (Server v) w = Server (serving.fed v w)
fed (Collector k) w = Collector (collecting.fed k w)

-- a server tells nothing
abbrev pub event_of : Seat → ℕ → Event
event_of (Mutator d) w = drivers.event_of d w
event_of (Server v) w = Nothing
event_of (Collector k) w = collecting.event_of k w

-- a mutator has no looks that wait
abbrev pub is_waiting : Seat → ℕ → Bool
is_waiting (Mutator d) w = false
is_waiting (Server v) w = serving.is_waiting v w
is_waiting (Collector k) w = collecting_ranks.is_waiting k w

-- of a server and of the collector it is told alone whether they are at their end
abbrev pub serving_place : Step → Place
serving_place (Do act) = PlaceServing
serving_place NoStep = PlaceEnded

abbrev pub place_of : Seat → Place
place_of (Mutator d) = drivers.place_at d.progress
place_of (Server v) = serving_place (serving.next_of v)
place_of (Collector k) = serving_place (collecting.next_of k)
