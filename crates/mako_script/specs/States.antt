-- Where a check of sections stands: between sections or in one, with no fault before it.
use Rattle.std.specs.Prelude.{◌≡◌, ◌≢◌, ℕ, ◌+◌, ◌*◌, ◌<◌, ◌≤◌, true, List, [], ◌∷◌, length, drop}
use Rattle.mako_text.specs.Names.{name_of}
use Rattle.mako_reader.specs.Words.{IsNumber, lines_of}
use Rattle.mako_script.specs.declared.fault.Kind.{Kind}
use Rattle.mako_script.specs.CommandLines.{is_among}
use Rattle.mako_script.specs.Faults.{HasFault}
use Rattle.mako_script.specs.Lines.{words_at, word_in, ended, IsIn, IsBetween, IsDefined, sections_before}
use Rattle.mako_script.specs.Lines.{commands_before}

-- no line before this one has a fault
abbrev pub IsClean : List (List ℕ) → ℕ → Type 0
IsClean lines line = (other : ℕ) → other < line → (k : Kind) → HasFault lines other k → ⊥

-- so many sections were opened and so many commands read before a line, in lines without a fault, and these lines are
-- left
pub record Reached (text : List ℕ) (roots sections commands line : ℕ) (left : List (List ℕ)) : Type 0 where
  pub left_is : left ≡ drop line (lines_of text)
  pub low : 11 ≤ line
  pub within : line ≤ ended (lines_of text)
  pub clean : IsClean (lines_of text) line
  pub sections_are : sections_before (lines_of text) line ≡ sections
  pub commands_are : commands_before (lines_of text) line ≡ commands
  pub number : IsNumber (word_in (words_at (lines_of text) 7) 1) roots
  pub few_sections : sections ≤ 16
  pub few_commands : commands ≤ 1048576

-- no section is open
pub record Between (text : List ℕ) (roots sections commands line : ℕ) (left : List (List ℕ)) : Type 0 where
  pub reached : Reached text roots sections commands line left
  pub between : IsBetween (lines_of text) line
  pub early : line ≤ 11 + 2 * sections + commands

-- no two of the names are alike
abbrev pub AreApart : List (List ℕ) → Type 0
AreApart names = (a b : ℕ) → a < b → b < length names → name_of names a ≢ name_of names b

-- a section is open, with these names
pub record Inside (text : List ℕ) (roots sections commands : ℕ) (names : List (List ℕ)) (line : ℕ)
    (left : List (List ℕ)) : Type 0 where
  pub reached : Reached text roots sections commands line left
  pub from : ℕ
  pub inside : IsIn (lines_of text) from line
  pub known : (name : List ℕ) → is_among names name ≡ true → IsDefined (lines_of text) from line name
  pub all : (name : List ℕ) → IsDefined (lines_of text) from line name → is_among names name ≡ true
  pub apart : AreApart names
  pub few : length names ≤ roots
  pub early : line < 11 + 2 * sections + commands

-- the text ends between sections, and this line is told for what it lacks
pub record Ends (text : List ℕ) (roots sections told : ℕ) : Type 0 where
  pub commands : ℕ
  pub line : ℕ
  pub between : Between text roots sections commands line ([] ∷ [])
  pub behind : told ≡ line + 1
