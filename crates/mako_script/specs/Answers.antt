-- What a reader may answer.
use Rattle.std.specs.Prelude.{◌≡◌, ℕ, List, Result, Ok, Err}
use Rattle.mako_script.specs.declared.fault.Kind.{Kind}
use Rattle.mako_script.specs.declared.fault.ScriptFault.{ScriptFault}
use Rattle.mako_script.specs.declared.fault.ScriptFault.TheVariants.{Bad, Memory}
use Rattle.mako_script.specs.Faults.{IsFirstFault}
use Rattle.mako_text.specs.Scripts.{ScriptView}
use Rattle.mako_text.specs.Texts.{IsScript}

-- the answer is this script, unless there was not memory enough
abbrev pub IsScriptOrMemory : ScriptView → Result ScriptView ScriptFault → Type 0
IsScriptOrMemory s (Ok t) = t ≡ s
IsScriptOrMemory s (Err Memory) = Unit {0}
IsScriptOrMemory s (Err (Bad kind line)) = ⊥

-- what is told of bytes that are no script: their first fault
abbrev pub TellsFault : List ℕ → ScriptFault → Type 0
TellsFault bytes (Bad kind line) = IsFirstFault bytes kind line
TellsFault bytes Memory = ⊥

-- the answer is the first fault of the bytes, unless there was not memory enough
abbrev pub IsFaultOrMemory : List ℕ → Result ScriptView ScriptFault → Type 0
IsFaultOrMemory bytes (Ok s) = ⊥
IsFaultOrMemory bytes (Err Memory) = Unit {0}
IsFaultOrMemory bytes (Err (Bad kind line)) = IsFirstFault bytes kind line

-- the bytes are no script, and this is their first fault
abbrev pub IsRefused : List ℕ → Kind → ℕ → Type 0
IsRefused bytes kind line = ((s : ScriptView) → ¬ IsScript bytes s) × IsFirstFault bytes kind line
