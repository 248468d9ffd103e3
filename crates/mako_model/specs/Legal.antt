-- Legal histories, and the heaps that they leave.
use Rattle.std.specs.Prelude.{ℕ, List, [], ◌∷◌, length}
use Rattle.std.specs.List.{fold}
use Rattle.mako_model.specs.declared.call.Call.{Call}
use Rattle.mako_model.specs.declared.point.Point.{Point}
use Rattle.mako_model.specs.Heaps.{Heap, opening}
use Rattle.mako_model.specs.Lawful.{IsLawful, heap_after}

-- The facts of a script: how many roots of each mutator, fields of the board, tablets of all servers, entries
-- of each tablet and words of each region there are, how many cycles there may be, how many objects an entry may
-- have one after another, and the program of
-- each mutator. There are as many mutators as programs.
pub record Facts : Type 0 where
  pub roots : ℕ
  pub board : ℕ
  pub tablets : ℕ
  pub entries : ℕ
  pub words : ℕ
  pub cycles : ℕ
  pub generations : ℕ
  pub programs : List (List Call)

-- the opening of the script's heap
abbrev pub opening_of : Facts → Heap
opening_of w = opening (length w.programs) w.roots w.board w.cycles

-- the heap that a history leaves
abbrev pub state_of : Facts → List Point → Heap
state_of w history = fold heap_after (opening_of w) history

-- each point is lawful in the heap that those before it leave
abbrev pub AreLawful : Heap → List Point → Type 0
AreLawful h [] = Unit {0}
AreLawful h (point ∷ points) = IsLawful h point × AreLawful (heap_after h point) points

-- each point of the history is lawful, from the opening on
abbrev pub IsLegal : Facts → List Point → Type 0
IsLegal w history = AreLawful (opening_of w) history
