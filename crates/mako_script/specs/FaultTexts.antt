-- How a fault is printed.
use Rattle.std.specs.Prelude.{ℕ, List, ◌++◌, codes}
use Rattle.std.specs.Fmt.{decimal}
use Rattle.mako_script.specs.declared.fault.Kind.{Kind}
use Rattle.mako_script.specs.declared.fault.Kind.TheVariants.{Header, NotAscii, Word, Number, Range, Names, Undefined}
use Rattle.mako_script.specs.declared.fault.Kind.TheVariants.{NoMutator, Unclosed, Many, Entries, Words, Long}

abbrev pub kind_text : Kind → List ℕ
kind_text Header = codes "header"
kind_text NotAscii = codes "ascii"
kind_text Word = codes "word"
kind_text Number = codes "number"
kind_text Range = codes "range"
kind_text Names = codes "names"
kind_text Undefined = codes "undefined"
kind_text NoMutator = codes "mutators"
kind_text Unclosed = codes "unclosed"
kind_text Many = codes "many"
kind_text Entries = codes "entries"
kind_text Words = codes "words"
kind_text Long = codes "long"

-- the line that tells a fault
abbrev pub fault_text : Kind → ℕ → List ℕ
fault_text kind line = codes "script " ++ kind_text kind ++ codes " " ++ decimal line ++ codes "\n"
