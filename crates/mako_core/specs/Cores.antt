-- A core as contracts see it, and what it keeps beside.
use Rattle.std.specs.Prelude.{◌≡◌, ℕ, ◌+◌, ◌-◌, ◌≤◌, List, [], length, Option, Some, None, slice_get}
use Rattle.mako_words.specs.declared.name.Name.{Name}
use Rattle.mako_shape.specs.declared.numbers.Numbers.{Numbers}
use Rattle.mako_model.specs.declared.point.Point.{Point}
use Rattle.mako_script.specs.Scripts.{ScriptView, command_count}
use Rattle.mako_script.specs.ScriptFacts.{facts_of}
use Rattle.mako_seat.specs.declared.seat.Seat.{Seat}
use Rattle.mako_seat.specs.declared.seat.Seat.TheVariants.{Mutator, Server, Collector}
use Rattle.mako_state.specs.CoreStates.{CoreState}
use Rattle.mako_whole.specs.AllStanding.{SeatsStand}

-- a core: its script, and its core state
pub record CoreView : Type 0 where
  pub script : ScriptView
  pub state : CoreState

-- the finished cycles that a seat keeps
abbrev pub cycles_kept : Option Seat → List (List Name)
cycles_kept None = []
cycles_kept (Some (Mutator d)) = []
cycles_kept (Some (Server v)) = []
cycles_kept (Some (Collector c)) = c.kept.cycles.lists

-- those of the collector, which is the last seat
abbrev pub cycles_in : List Seat → List (List Name)
cycles_in seats = cycles_kept (slice_get seats (length seats - 1))

abbrev pub core_view : ScriptView → List ℕ → List Seat → List Point → CoreView
core_view s words seats points = record {
  script = s;
  state = record { words = words; seats = seats; front = record { history = points; finished = cycles_in seats } };
}

-- there is room for a point for each call of the script, and for one for each snapshot
abbrev pub HasRoom : ℕ → ScriptView → Type 0
HasRoom room s = command_count s.programs + s.numbers.cycles ≤ room

-- The core has got somewhere with its script, and there is room for all that is still to come: its points, and in the
-- end a list of replies for each mutator.
pub record CoreHolds {A : Type 0} (shape : Numbers) (c : CoreView) (room : ℕ) (lists : List A)
    (lists_room : ℕ) : Type 0 where
  pub shape_is : shape ≡ c.script.numbers
  pub stands : SeatsStand c.script.numbers (facts_of c.script) c.state
  pub room_is : HasRoom room c.script
  pub lists_are : lists ≡ []
  pub lists_fit : length c.script.programs ≤ lists_room
