-- A command line by itself, among the names that are defined before it.
use Rattle.std.specs.Prelude.{◌≡◌, ℕ, ◌<◌, ◌≤◌, ◌⊎◌, Bool, true, false, List, [], ◌∷◌, ◌++◌, length, slice_get, Option}
use Rattle.std.specs.Prelude.{Some, None, Ok, Err, nat_lt, if◌then◌else◌}
use Rattle.std.specs.List.{list_any}
use Rattle.std.specs.Str.{bytes_eq}
use Rattle.mako_model.specs.declared.call.Call.{Call}
use Rattle.mako_reader.specs.Commands.{IsCommandLine}
use Rattle.mako_text.specs.declared.command.Argument.{Argument}
use Rattle.mako_text.specs.declared.command.Argument.TheVariants.{Defined, Read, Number}
use Rattle.mako_text.specs.declared.command.Command.{Command}
use Rattle.mako_script.specs.declared.fault.Kind.{Kind}
use Rattle.mako_script.specs.declared.fault.Kind.TheVariants as faults
use Rattle.mako_text.specs.Names.{is_name}
use Rattle.mako_script.specs.Checks.{IsValue}
use Rattle.mako_script.specs.Faults.{rank}
use Rattle.mako_script.specs.Lines.{word_in, HasArgument, IsCommand}
use Rattle.mako_reader.specs.Words.{IsNumber}

abbrev pub is_among : List (List ℕ) → List ℕ → Bool
is_among names word = list_any (λ name. bytes_eq name word) names

-- a word that may stand there as an argument of this kind
abbrev pub IsArgument : List (List ℕ) → ℕ → Argument → List ℕ → Type 0
IsArgument names roots Defined word = (is_name word ≡ true) × ((is_among names word ≡ true) ⊎ (length names < roots))
IsArgument names roots Read word = (is_name word ≡ true) × (is_among names word ≡ true)
IsArgument names roots (Number greatest) word = (n : ℕ) × IsValue 0 greatest word (Ok n)

-- what is wrong with a word as an argument of this kind
abbrev pub ArgumentFault : List (List ℕ) → ℕ → Argument → List ℕ → Kind → Type 0
ArgumentFault names roots Defined word faults.Word = is_name word ≡ false
ArgumentFault names roots Defined word faults.Names = (is_name word ≡ true) × (is_among names word ≡ false)
    × (roots ≤ length names)
ArgumentFault names roots Defined word fault = ⊥
ArgumentFault names roots Read word faults.Word = is_name word ≡ false
ArgumentFault names roots Read word faults.Undefined = (is_name word ≡ true) × (is_among names word ≡ false)
ArgumentFault names roots Read word fault = ⊥
ArgumentFault names roots (Number greatest) word fault = IsValue 0 greatest word (Err fault)

-- the words may stand there as arguments of these kinds
abbrev pub AreArguments : List (List ℕ) → ℕ → List Argument → List (List ℕ) → Type 0
AreArguments names roots kinds words =
    (place : ℕ) → (kind : Argument) → slice_get kinds place ≡ Some kind
    → IsArgument names roots kind (word_in words place)

-- one of the words has this fault, and none a fault that is told before it
pub record IsLeastFault (names : List (List ℕ)) (roots : ℕ) (kinds : List Argument) (words : List (List ℕ))
    (fault : Kind) : Type 0 where
  pub place : ℕ
  pub kind : Argument
  pub among : slice_get kinds place ≡ Some kind
  pub has : ArgumentFault names roots kind (word_in words place) fault
  pub least : (other : ℕ) → (k : Argument) → (f : Kind) → slice_get kinds other ≡ Some k
      → ArgumentFault names roots k (word_in words other) f → rank fault ≤ rank f

-- of two faults the one that is told before the other
abbrev pub told_first : Option Kind → Option Kind → Option Kind
told_first None found = found
told_first (Some first) None = Some first
told_first (Some first) (Some found) = if nat_lt (rank found) (rank first) then Some found else Some first

-- what is wrong with the words as a command
abbrev pub CommandFault : List (List ℕ) → ℕ → List (List ℕ) → Kind → Type 0
CommandFault names roots words faults.Word = (command : Command) → ¬ IsCommand words command
CommandFault names roots words faults.Number =
    (word : List ℕ) × (greatest : ℕ) × HasArgument words (Number greatest) word × ((n : ℕ) → ¬ IsNumber word n)
CommandFault names roots words faults.Range =
    (word : List ℕ) × (greatest : ℕ) × (n : ℕ) × HasArgument words (Number greatest) word × IsNumber word n
    × (greatest < n)
CommandFault names roots words faults.Undefined = (name : List ℕ) × HasArgument words Read name
    × (is_among names name ≡ false)
CommandFault names roots words faults.Names =
    (name : List ℕ) × HasArgument words Defined name × (is_among names name ≡ false) × (roots ≤ length names)
CommandFault names roots words fault = ⊥

-- the words have this fault, and none that is told before it
pub record IsFirstOfCommand (names : List (List ℕ)) (roots : ℕ) (words : List (List ℕ)) (fault : Kind) : Type 0 where
  pub has : CommandFault names roots words fault
  pub least : (other : Kind) → CommandFault names roots words other → rank fault ≤ rank other

-- the names behind a line that may define one
abbrev pub with_name : List (List ℕ) → Option (List ℕ) → List (List ℕ)
with_name names None = names
with_name names (Some name) = names ++ name ∷ []

-- the words are read as a command, with these names behind it
abbrev pub IsRead : ℕ → List (List ℕ) → List (List ℕ) → List (List ℕ) → Type 0
IsRead roots names words after = (call : Call) × IsCommandLine roots names words (call, after)
