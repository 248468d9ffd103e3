-- Where a line stands in a text that may be no script. Lines are counted from 0; behind the last line feed there is one
-- piece more.
use Rattle.std.specs.Prelude.{◌≡◌, ◌≢◌, ℕ, ◌+◌, ◌-◌, ◌<◌, ◌≤◌, ◌&&◌, ◌⊎◌, true, not, List, [], length, take, drop}
use Rattle.std.specs.Prelude.{slice_get, slice_index, slice_index_or, count_by, Some}
use Rattle.std.specs.Str.{bytes_eq}
use Rattle.mako_text.specs.declared.command.Command.{Command}
use Rattle.mako_text.specs.declared.command.Argument.{Argument}
use Rattle.mako_text.specs.declared.command.Argument.TheVariants.{Defined, Read, Number}
use Rattle.mako_text.specs.Names.{is_name, name_of, board_word}
use Rattle.mako_text.specs.Texts.{mutator_word, end_word}
use Rattle.mako_text.specs.Keys.{keys}
use Rattle.mako_text.specs.Commands.{kinds_of, word_of}
use Rattle.mako_reader.specs.Words.{IsNumber, words_of}

abbrev pub line_in : List (List ℕ) → ℕ → List ℕ
line_in lines at = slice_index_or lines at []

abbrev pub words_at : List (List ℕ) → ℕ → List (List ℕ)
words_at lines at = words_of (line_in lines at)

abbrev pub word_in : List (List ℕ) → ℕ → List ℕ
word_in words place = slice_index_or words place []

-- how many lines are ended
abbrev pub ended : List (List ℕ) → ℕ
ended lines = length lines - 1

-- ---- settings

-- the key of a line, and the range of its number
abbrev pub key_at : ℕ → List ℕ × (ℕ × ℕ)
key_at at = slice_index_or keys at ([], (0, 0))

-- the numbers of the settings
pub record AreSettings (lines : List (List ℕ)) (v : List ℕ) : Type 0 where
  pub count : length v ≡ 11
  pub each : (at : ℕ) → at < 11 → IsNumber (word_in (words_at lines at) 1) (slice_index v at)

-- ---- sections

-- line `from` opened a section that is open at line `at`
pub record IsIn (lines : List (List ℕ)) (from at : ℕ) : Type 0 where
  pub behind : 11 ≤ from
  pub before : from < at
  pub opened : line_in lines from ≡ mutator_word
  pub unended : (k : ℕ) → from < k → k < at → line_in lines k ≢ end_word

-- no section is open
pub record IsBetween (lines : List (List ℕ)) (at : ℕ) : Type 0 where
  pub behind : 11 ≤ at
  pub closed : (from : ℕ) → ¬ IsIn lines from at

-- the lines behind the settings, and before this one
abbrev pub lines_before : List (List ℕ) → ℕ → List (List ℕ)
lines_before lines at = drop 11 (take at lines)

abbrev pub sections_before : List (List ℕ) → ℕ → ℕ
sections_before lines at = count_by (bytes_eq mutator_word) (lines_before lines at)

abbrev pub commands_before : List (List ℕ) → ℕ → ℕ
commands_before lines at =
    count_by (λ l. not (bytes_eq mutator_word l) && not (bytes_eq end_word l)) (lines_before lines at)

-- ---- commands

-- the word is spelled as a name, where an argument of this kind is one
abbrev pub IsSpelled : Argument → List ℕ → Type 0
IsSpelled Defined word = is_name word ≡ true
IsSpelled Read word = is_name word ≡ true
IsSpelled (Number greatest) word = Unit {0}

-- the words are those of this command, with names where there should be names
pub record IsCommand (words : List (List ℕ)) (command : Command) : Type 0 where
  pub named : word_in words 0 ≡ word_of command
  pub count : length words ≡ length (kinds_of command) + 1
  pub spelled : (place : ℕ) → (kind : Argument) → slice_get (kinds_of command) place ≡ Some kind
      → IsSpelled kind (word_in words (place + 1))

-- a command has this word as an argument of this kind
abbrev pub HasArgument : List (List ℕ) → Argument → List ℕ → Type 0
HasArgument words kind word =
    (command : Command) × (place : ℕ) × IsCommand words command × (slice_get (kinds_of command) place ≡ Some kind)
    × (word ≡ word_in words (place + 1))

-- ---- names

-- the name is the board's, or a line of the section defines it before this one
abbrev pub IsDefined : List (List ℕ) → ℕ → ℕ → List ℕ → Type 0
IsDefined lines from at name =
    (name ≡ board_word) ⊎ ((k : ℕ) × (from < k) × (k < at) × HasArgument (words_at lines k) Defined name)

-- so many names are defined
pub record AreDefined (lines : List (List ℕ)) (from at count : ℕ) : Type 0 where
  pub names : List (List ℕ)
  pub many : length names ≡ count
  pub distinct : (a b : ℕ) → a < b → b < length names → name_of names a ≢ name_of names b
  pub each : (a : ℕ) → a < length names → IsDefined lines from at (name_of names a)
