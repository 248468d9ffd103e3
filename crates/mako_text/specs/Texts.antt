-- The one spelling of each script.
use Rattle.std.specs.Prelude.{◌≡◌, ℕ, List, [], ◌∷◌, ◌++◌, drop, map, zip, codes}
use Rattle.std.specs.List.{flat_map, join_with_byte}
use Rattle.std.specs.Fmt.{decimal}
use Rattle.mako_model.specs.declared.call.Call.{Call}
use Rattle.mako_text.specs.declared.command.Argument.{Argument}
use Rattle.mako_text.specs.declared.command.Argument.TheVariants.{Defined, Read, Number}
use Rattle.mako_text.specs.Commands.{arguments_of, command_of, word_of}
use Rattle.mako_shape.specs.Limits.{fields}
use Rattle.mako_text.specs.Keys.{key_words}
use Rattle.mako_text.specs.Names.{name_of}
use Rattle.mako_text.specs.Programs.{ProgramView}
use Rattle.mako_text.specs.Scripts.{ScriptView, IsProper}

-- the words, with one space between them, and a line feed
abbrev pub line_text : List (List ℕ) → List ℕ
line_text words = join_with_byte 32 words ++ 10 ∷ []

-- the numbers of the settings: the version, those of the geometry but the mutators, and the fields of the board
abbrev pub setting_values : ScriptView → List ℕ
setting_values s = 1 ∷ drop 1 (fields s.numbers) ++ s.board ∷ []

-- the keys of the first eleven lines, each with its number
abbrev pub settings : ScriptView → List (List ℕ × ℕ)
settings s = zip key_words (setting_values s)

-- the words of a setting's line
abbrev pub setting_words : List ℕ × ℕ → List (List ℕ)
setting_words setting = setting.0 ∷ decimal setting.1 ∷ []

-- the word of an argument, with these names for the roots
abbrev pub argument_word : List (List ℕ) → Argument × ℕ → List ℕ
argument_word names (Defined, root) = name_of names root
argument_word names (Read, root) = name_of names root
argument_word names (Number greatest, value) = decimal value

abbrev pub argument_words : List (List ℕ) → Call → List (List ℕ)
argument_words names call = map (argument_word names) (arguments_of call)

-- the words of a call
abbrev pub command_words : List (List ℕ) → Call → List (List ℕ)
command_words names call = word_of (command_of call) ∷ argument_words names call

abbrev pub mutator_word : List ℕ
mutator_word = codes "mutator"

abbrev pub end_word : List ℕ
end_word = codes "end"

-- the lines of a program's section, each by its words
abbrev pub section_lines : ProgramView → List (List (List ℕ))
section_lines p = (mutator_word ∷ []) ∷ (map (command_words p.names) p.calls ++ (end_word ∷ []) ∷ [])

-- the lines of a script, each by its words
abbrev pub script_lines : ScriptView → List (List (List ℕ))
script_lines s = map setting_words (settings s) ++ flat_map section_lines s.programs

unfoldable pub script_text : ScriptView → List ℕ
script_text s = flat_map line_text (script_lines s)

-- the text is that of the script, and the grammar allows the script
pub record IsScript (text : List ℕ) (s : ScriptView) : Type 0 where
  pub proper : IsProper s
  pub spelled : text ≡ script_text s
