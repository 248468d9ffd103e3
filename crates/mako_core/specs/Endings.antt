-- What the seats have at the end of a run.
use Rattle.std.specs.Prelude.{◌≡◌, ℕ, ◌-◌, ◌<◌, List, [], ◌∷◌, length, slice_get, Some}
use Rattle.std.specs.List.{flat_map}
use Rattle.mako_shape.specs.declared.numbers.Numbers.{Numbers}
use Rattle.mako_model.specs.declared.reply.Reply.{Reply}
use Rattle.mako_mutator.specs.declared.place.Place.TheVariants.{Ended}
use Rattle.mako_pause.specs.Collecting.{Collecting}
use Rattle.mako_seat.specs.Seats.{place_of}
use Rattle.mako_seat.specs.declared.seat.Seat.{Seat}
use Rattle.mako_seat.specs.declared.seat.Seat.TheVariants.{Mutator, Server, Collector}

-- the replies that a seat keeps, as a list of a mutator's list
abbrev pub replies_kept : Seat → List (List Reply)
replies_kept (Mutator d) = d.replies ∷ []
replies_kept (Server v) = []
replies_kept (Collector c) = []

abbrev pub replies_in : List Seat → List (List Reply)
replies_in seats = flat_map replies_kept seats

-- the last seat is the collector
pub record EndsWithCollector (seats : List Seat) : Type 0 where
  pub collector : Collecting
  pub last : slice_get seats (length seats - 1) ≡ Some (Collector collector)

-- each mutator is at the end of its program
abbrev pub AllAtEnd : Numbers → List Seat → Type 0
AllAtEnd n seats = (m : ℕ) (v : Seat) → m < n.mutators → slice_get seats m ≡ Some v → place_of v ≡ Ended
