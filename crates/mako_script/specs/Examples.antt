-- A worked script with its text, and texts of none.
use Rattle.std.specs.Prelude.{ℕ, List, [], ◌∷◌, ◌++◌, codes, replicate}
use Rattle.std.specs.List.{concat}
use Rattle.mako_model.specs.declared.call.Call.{Call}
use Rattle.mako_model.specs.declared.call.Call.TheVariants.{New, Num, Get, Put}
use Rattle.mako_text.specs.Programs.{ProgramView}
use Rattle.mako_text.specs.Scripts.{ScriptView}

-- the lines of the settings
abbrev pub header : List ℕ
header = codes "mako 1\nservers 1\ntablets 1\nentries 4\nwords 16\nspare 1\nring 2\nroots 4\ncycles 10\ngens 8\nboard 1\n"

-- a mutator makes an object, puts a number into its field and gets it back
abbrev pub storing_text : List ℕ
storing_text = header ++ codes "mutator\nnew a 1\nnum n 7\nput a 0 n\nget b a 0\nend\n"

abbrev pub storing_names : List (List ℕ)
storing_names = codes "board" ∷ codes "a" ∷ codes "n" ∷ codes "b" ∷ []

abbrev pub storing_calls : List Call
storing_calls = New 1 1 ∷ Num 2 7 ∷ Put 1 0 2 ∷ Get 3 1 0 ∷ []

abbrev pub storing_program : ProgramView
storing_program = record { names = storing_names; calls = storing_calls }

-- the script that this is
abbrev pub storing : ScriptView
storing = record {
  numbers = record {
    mutators = 1;
    servers = 1;
    tablets = 1;
    entries = 4;
    words = 16;
    spare = 1;
    ring = 2;
    roots = 4;
    cycles = 10;
    generations = 8;
  };
  board = 1;
  programs = storing_program ∷ [];
}

-- the same with two spaces in a row before a number
abbrev pub spaced_text : List ℕ
spaced_text = header ++ codes "mutator\nnew a  1\nnum n 7\nput a 0 n\nget b a 0\nend\n"

-- a text that ends with this in its section
abbrev pub with_line : List ℕ → List ℕ
with_line line = header ++ codes "mutator\n" ++ line

-- the settings and 17 sections without commands
abbrev pub many_sections_text : List ℕ
many_sections_text = header ++ concat (replicate 17 (codes "mutator\nend\n"))

-- settings with too many entries
abbrev pub many_entries_text : List ℕ
many_entries_text = codes
    "mako 1\nservers 8\ntablets 256\nentries 513\nwords 16\nspare 1\nring 2\nroots 4\ncycles 10\ngens 8\nboard 1\n"

-- and a section behind settings with too many words
abbrev pub many_words_text : List ℕ
many_words_text = codes
    "mako 1\nservers 8\ntablets 7\nentries 9\nwords 65520\nspare 1\nring 2\nroots 11\ncycles 10\ngens 8\nboard 1\nmutator\nend\n"
