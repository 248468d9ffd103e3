-- The parts of a script's text, each by the lines that it is of.
use Rattle.std.specs.Prelude.{◌≡◌, ℕ, ◌+◌, ◌<◌, ◌≤◌, List, [], ◌∷◌, ◌++◌, length, map, slice_index}
use Rattle.std.specs.Fmt.{decimal}
use Rattle.std.specs.List.{join_with_byte, flat_map, AllByRecursion}
use Rattle.mako_text.specs.Programs.{ProgramView, IsProgram}
use Rattle.mako_text.specs.Scripts.{ScriptView, command_count}
use Rattle.mako_shape.specs.declared.numbers.Numbers.{Numbers}
use Rattle.mako_reader.specs.Words.{words_of}
use Rattle.mako_text.specs.Texts.{command_words, end_word, mutator_word, section_lines}

-- the lines of these words
abbrev pub lines_from : List (List (List ℕ)) → List (List ℕ)
lines_from = map (join_with_byte 32)

-- the first line has the words of this key and number, and these lines are left
pub record IsSetting (key : List ℕ × (ℕ × ℕ)) (lines : List (List ℕ)) (read : ℕ × List (List ℕ)) : Type 0 where
  pub line : List ℕ
  pub lines_are : lines ≡ line ∷ read.1
  pub ended : 0 < length read.1
  pub words : words_of line ≡ key.0 ∷ decimal read.0 ∷ []
  pub few : read.0 < 10000000000
  pub low : key.1.0 ≤ read.0
  pub high : read.0 ≤ key.1.1

-- the lines of a section behind its first
abbrev pub body_lines : ProgramView → List (List (List ℕ))
body_lines p = map (command_words p.names) p.calls ++ (end_word ∷ []) ∷ []

-- behind so many commands the lines are those of this program, and these are left
pub record IsBody (roots count : ℕ) (lines : List (List ℕ)) (read : ProgramView × List (List ℕ)) : Type 0 where
  pub spelled : lines ≡ lines_from (body_lines read.0) ++ read.1
  pub ended : 0 < length read.1
  pub program : IsProgram roots read.0
  pub total : count + length read.0.calls ≤ 1048576

abbrev pub IsSection : ℕ → ℕ → List (List ℕ) → ProgramView × List (List ℕ) → Type 0
IsSection roots count lines read = (body : List (List ℕ)) × (lines ≡ mutator_word ∷ body) × IsBody roots count body read

-- the lines are those of these programs, up to the end of the text
pub record AreSections (roots : ℕ) (lines : List (List ℕ)) (programs : List ProgramView) : Type 0 where
  pub spelled : lines ≡ lines_from (flat_map section_lines programs) ++ [] ∷ []
  pub few : length programs ≤ 16
  pub proper : AllByRecursion (IsProgram roots) programs
  pub total : command_count programs ≤ 1048576

-- the geometry with these numbers in the settings
abbrev pub numbers_in : List ℕ → ℕ → Numbers
numbers_in v mutators = record {
  mutators = mutators;
  servers = slice_index v 1;
  tablets = slice_index v 2;
  entries = slice_index v 3;
  words = slice_index v 4;
  spare = slice_index v 5;
  ring = slice_index v 6;
  roots = slice_index v 7;
  cycles = slice_index v 8;
  generations = slice_index v 9;
}

-- the script with these numbers in its settings
abbrev pub script_of : List ℕ → List ProgramView → ScriptView
script_of v programs = record {
  numbers = numbers_in v (length programs);
  board = slice_index v 10;
  programs = programs;
}

-- the numbers of the settings are eleven, and those of the version, the roots and the board are in range
pub record AreValues (v : List ℕ) : Type 0 where
  pub first : slice_index v 0 ≡ 1
  pub count : length v ≡ 11
  pub roots_low : 1 ≤ slice_index v 7
  pub roots_high : slice_index v 7 ≤ 32
  pub board_low : 1 ≤ slice_index v 10
  pub board_high : slice_index v 10 ≤ 14

-- the programs are proper for so many roots
pub record AreProper (roots : ℕ) (ps : List ProgramView) : Type 0 where
  pub few : length ps ≤ 16
  pub commands : command_count ps ≤ 1048576
  pub programs : AllByRecursion (IsProgram roots) ps
