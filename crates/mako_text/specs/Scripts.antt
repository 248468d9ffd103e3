-- Scripts: a geometry, the fields of the board, and a program for each mutator.
use Rattle.std.specs.Prelude.{◌≡◌, ℕ, ◌≤◌, List, length, sum_by}
use Rattle.std.specs.List.{AllByRecursion}
use Rattle.mako_shape.specs.declared.numbers.Numbers.{Numbers}
use Rattle.mako_shape.specs.Limits.{IsShape}
use Rattle.mako_text.specs.Programs.{ProgramView, IsProgram}

pub record ScriptView : Type 0 where
  pub numbers : Numbers
  pub board : ℕ
  pub programs : List ProgramView

-- the commands of all programs
abbrev pub command_count : List ProgramView → ℕ
command_count programs = sum_by (λ p. length p.calls) programs

-- what the grammar asks of a script
pub record IsProper (s : ScriptView) : Type 0 where
  pub shape : IsShape s.numbers
  pub board_low : 1 ≤ s.board
  pub board_high : s.board ≤ 14
  pub mutators : s.numbers.mutators ≡ length s.programs
  pub commands : command_count s.programs ≤ 1048576
  pub programs : AllByRecursion (IsProgram s.numbers.roots) s.programs
