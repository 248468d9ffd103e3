-- The commands and their arguments as the parser has them, and what it makes of words.
use Rattle.std.specs.Prelude.{◌≡◌, ℕ, Bool, true, false, ◌&&◌, ◌||◌, ◌⊎◌, nat_le, List, [], ◌∷◌, Option, Some, None}
use Rattle.std.specs.Prelude.{codes, length, map}
use Rattle.std.specs.Char.{is_ascii_lowercase, is_ascii_digit}
use Rattle.std.specs.List.{list_all}
use Rattle.clap.specs.Words.{App, Row, Rule, Shape, Text, new_rule, subcommand_rows_of}
use Rattle.clap.specs.Simple.{new_shape}
use Rattle.clap.specs.declared.builder.value_parser.Reading.TheVariants.{AsWritten}
use Rattle.clap.specs.declared.parser.matches.ArgMatches.{ArgMatches}
use Rattle.clap.specs.declared.parser.matches.ValueSource.TheVariants as source
use Rattle.mako_command.specs.CommandLines.{SayNothing}

-- a to z, or 0 to 9
abbrev pub is_plain : ℕ → Bool
is_plain b = is_ascii_lowercase b || is_ascii_digit b

-- 1 to 20 of these characters
abbrev pub is_word : Text → Bool
is_word word = nat_le 1 (length word) && (nat_le (length word) 20 && list_all is_plain word)

-- a command with arguments that have to be there
abbrev pub argument : Text → Rule
argument id = record (new_rule id) { required = true }

abbrev pub command : Text → List Text → Shape
command name ids = record (new_shape name) { rules = map argument ids }

-- the table of the commands
abbrev pub table : App
table = record {
  top = record (new_shape (codes "mako")) {
    is_leaf = false;
    no_binary_name = true;
    disable_help_flag = true;
    disable_help_subcommand = true;
    subcommand_required = true;
  };
  subs = command (codes "replay") (codes "order" ∷ codes "steps" ∷ [])
      ∷ command (codes "gen") (codes "seed" ∷ codes "size" ∷ [])
      ∷ command (codes "count") (codes "workers" ∷ [])
      ∷ command (codes "load") (codes "number" ∷ [])
      ∷ [];
}

-- an argument that was given as this text
abbrev pub given : Text → Text → Row
given id text = record {
  id = id;
  values = text ∷ [];
  count = None;
  source = Some source.CommandLine;
  reading = AsWritten;
}

-- the words are a name and two texts, which were taken as the command with its arguments
pub record IsPair (name one two : Text) (words : List Text) (taken : Option (Text × List Row)) : Type 0 where
  pub first : Text
  pub second : Text
  pub words_are : words ≡ name ∷ first ∷ second ∷ []
  pub taken_as : taken ≡ Some (name, given one first ∷ given two second ∷ [])

-- the same with one text
pub record IsSingle (name one : Text) (words : List Text) (taken : Option (Text × List Row)) : Type 0 where
  pub first : Text
  pub words_are : words ≡ name ∷ first ∷ []
  pub taken_as : taken ≡ Some (name, given one first ∷ [])

abbrev pub IsTaken : List Text → Option (Text × List Row) → Type 0
IsTaken words taken = IsPair (codes "replay") (codes "order") (codes "steps") words taken
    ⊎ (IsPair (codes "gen") (codes "seed") (codes "size") words taken
    ⊎ (IsSingle (codes "count") (codes "workers") words taken ⊎ IsSingle (codes "load") (codes "number") words taken))

-- the words were taken as a command of the table, or they say none
abbrev pub IsMatched : List Text → Option ArgMatches → Type 0
IsMatched words (Some matches) = IsTaken words (subcommand_rows_of matches)
IsMatched words None = SayNothing words
