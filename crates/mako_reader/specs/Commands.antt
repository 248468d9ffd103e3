-- The lines of commands.
use Rattle.std.specs.Prelude.{◌≡◌, ◌≢◌, ℕ, ◌<◌, ◌⊎◌, Bool, true, false, List, [], ◌∷◌, ◌++◌, length, position}
use Rattle.std.specs.Prelude.{unwrap_or, Option, Some, None}
use Rattle.std.specs.Str.{bytes_eq}
use Rattle.mako_model.specs.declared.call.Call.{Call}
use Rattle.mako_text.specs.declared.command.Command.{Command}
use Rattle.mako_text.specs.declared.command.Argument.{Argument}
use Rattle.mako_text.specs.declared.command.Argument.TheVariants.{Defined, Read, Number}
use Rattle.mako_reader.specs.Words.{IsWithin, words_of}
use Rattle.mako_text.specs.Commands.{call_of, defines, kinds_of, word_of}
use Rattle.mako_text.specs.Names.{is_name}
use Rattle.mako_text.specs.Texts.{end_word}

-- the root that has this name
unfoldable pub place_at : List (List ℕ) → List ℕ → Option ℕ
place_at names name = position (bytes_eq name) names

abbrev pub IsName : List ℕ → List ℕ → Type 0
IsName word name = (is_name word ≡ true) × (word ≡ name)

-- the word is this value, as an argument of this kind: a name that is yet to be defined has the next root
abbrev pub IsValueOf : List (List ℕ) → Argument → List ℕ → ℕ → Type 0
IsValueOf names Defined word v = (is_name word ≡ true) × (v ≡ unwrap_or (place_at names word) (length names))
IsValueOf names Read word v = (is_name word ≡ true) × (place_at names word ≡ Some v)
IsValueOf names (Number greatest) word v = IsWithin 0 greatest word v

-- the value of the first of some words
abbrev pub ReadsWord : List (List ℕ) → Argument → List (List ℕ) → ℕ × List (List ℕ) → Type 0
ReadsWord names kind words read = (word : List ℕ) × (words ≡ word ∷ read.1) × IsValueOf names kind word read.0

-- the words are arguments of these kinds with these values
abbrev pub AreValuesOf : List (List ℕ) → List Argument → List (List ℕ) → List ℕ → Type 0
AreValuesOf names [] [] [] = Unit {0}
AreValuesOf names (kind ∷ kinds) (word ∷ words) (v ∷ values) = IsValueOf names kind word v
    × AreValuesOf names kinds words values
AreValuesOf names _ _ _ = ⊥

-- the names with this one: it is there, or there is a root left for it
abbrev pub Defines : ℕ → List (List ℕ) → List ℕ → List (List ℕ) → Type 0
Defines roots names name after =
    ((place_at names name ≢ None) × (after ≡ names))
    ⊎ ((place_at names name ≡ None) × (length names < roots) × (after ≡ names ++ name ∷ []))

-- the names behind a command with these arguments
abbrev pub DefinesFirst : Bool → ℕ → List (List ℕ) → List (List ℕ) → List (List ℕ) → Type 0
DefinesFirst false roots names words after = after ≡ names
DefinesFirst true roots names [] after = ⊥
DefinesFirst true roots names (name ∷ words) after = (is_name name ≡ true) × Defines roots names name after

-- the words are a command with this call, and these are the names behind it
pub record IsCommandLine (roots : ℕ) (names words : List (List ℕ)) (read : Call × List (List ℕ)) : Type 0 where
  pub command : Command
  pub behind : List (List ℕ)
  pub values : List ℕ
  pub words_are : words ≡ word_of command ∷ behind
  pub are : AreValuesOf names (kinds_of command) behind values
  pub call_is : read.0 ≡ call_of command values
  pub next : DefinesFirst (defines command) roots names behind read.1

-- the first line is the end of a section, or a command
abbrev pub IsStep : ℕ → List (List ℕ) → List (List ℕ) → Option Call × List (List ℕ) × List (List ℕ) → Type 0
IsStep roots names lines (None, after, left) = (lines ≡ end_word ∷ left) × (after ≡ names) × (0 < length left)
IsStep roots names lines (Some call, after, left) =
    (line : List ℕ) × (lines ≡ line ∷ left) × (line ≢ end_word)
    × IsCommandLine roots names (words_of line) (call, after) × (0 < length left)
