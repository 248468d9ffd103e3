-- The programs of a script: the names of their roots, and their calls.
use Rattle.std.specs.Prelude.{◌≡◌, ℕ, ◌+◌, ◌<◌, ◌≤◌, max, if◌then◌else◌, List, [], ◌∷◌, length, slice_index}
use Rattle.std.specs.List.{AllByRecursion}
use Rattle.mako_model.specs.declared.call.Call.{Call}
use Rattle.mako_text.specs.declared.command.Argument.{Argument}
use Rattle.mako_text.specs.declared.command.Argument.TheVariants.{Defined, Read, Number}
use Rattle.mako_text.specs.Commands.{arguments_of, command_of, defines, values_of}
use Rattle.mako_text.specs.Names.{AreNames}

-- the names of a program's roots by their numbers, as bytes, and its calls
pub record ProgramView : Type 0 where
  pub names : List (List ℕ)
  pub calls : List Call

-- with so many names defined, an argument may have this value: a name that is read is one of them, one that is set is
-- one of them or the next, and a number is in range
abbrev pub IsAllowed : ℕ → Argument × ℕ → Type 0
IsAllowed defined (Defined, root) = root ≤ defined
IsAllowed defined (Read, root) = root < defined
IsAllowed defined (Number greatest, value) = value ≤ greatest

-- each argument of a call may have its value
abbrev pub IsCall : ℕ → Call → Type 0
IsCall defined call = AllByRecursion (IsAllowed defined) (arguments_of call)

-- how many names are defined behind a call
abbrev pub defined_after : ℕ → Call → ℕ
defined_after defined call =
    if defines (command_of call) then max defined (slice_index (values_of call) 0 + 1) else defined

-- from so many names on, the calls define the others in order, up to so many
abbrev pub AreCalls : ℕ → List Call → ℕ → Type 0
AreCalls defined [] names = defined ≡ names
AreCalls defined (call ∷ calls) names = IsCall defined call × AreCalls (defined_after defined call) calls names

-- a program over at most so many roots: the board has the first name, and the calls define the others in order
pub record IsProgram (roots : ℕ) (p : ProgramView) : Type 0 where
  pub names : AreNames p.names
  pub few : length p.names ≤ roots
  pub calls : AreCalls 1 p.calls (length p.names)
