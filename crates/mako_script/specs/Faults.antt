-- What may be wrong with a text, and which fault is the first.
use Rattle.std.specs.Prelude.{◌≡◌, ◌≢◌, ℕ, ◌+◌, ◌<◌, ◌≤◌, ◌&&◌, ◌==◌, ◌⊎◌, Bool, false, nat_le, List, [], ◌∷◌}
use Rattle.std.specs.Prelude.{if◌then◌else◌}
use Rattle.std.specs.List.{list_all}
use Rattle.mako_shape.specs.Places.{total}
use Rattle.mako_shape.specs.Limits.{all_entries, max_entries, max_words}
use Rattle.mako_script.specs.declared.fault.Kind.{Kind}
use Rattle.mako_script.specs.declared.fault.Kind.TheVariants.{Header, NotAscii, Word, Number, Range, Names, Undefined}
use Rattle.mako_script.specs.declared.fault.Kind.TheVariants.{NoMutator, Unclosed, Many, Entries, Words, Long}
use Rattle.mako_text.specs.declared.command.Argument.TheVariants as arguments
use Rattle.mako_text.specs.declared.command.Command.{Command}
use Rattle.mako_text.specs.Texts.{mutator_word, end_word}
use Rattle.mako_reader.specs.Parts.{numbers_in}
use Rattle.mako_reader.specs.Words.{IsNumber, lines_of}
use Rattle.mako_script.specs.Lines.{line_in, words_at, word_in, ended, key_at, AreSettings, IsIn, IsBetween}
use Rattle.mako_script.specs.Lines.{sections_before, commands_before, IsCommand, HasArgument, IsDefined}
use Rattle.mako_script.specs.Lines.{AreDefined}

abbrev pub is_printable : ℕ → Bool
is_printable c = nat_le 32 c && nat_le c 126

-- the second word of a setting, or an argument of a command, should be a number in this range
abbrev pub ShouldBe : List (List ℕ) → ℕ → List ℕ → ℕ × ℕ → Type 0
ShouldBe lines at word range =
    ((at < 11) × (word ≡ word_in (words_at lines at) 1) × (range ≡ (key_at at).1))
    ⊎ ((from : ℕ) × IsIn lines from at × HasArgument (words_at lines at) (arguments.Number range.1) word
    × (range.0 ≡ 0))

-- the setting is not its key and one word
abbrev pub IsNoSetting : List (List ℕ) → ℕ → Type 0
IsNoSetting lines at = (at < 11) × ((word : List ℕ) → words_at lines at ≢ (key_at at).0 ∷ word ∷ [])

-- the line opens no section where none is open
abbrev pub OpensNone : List (List ℕ) → ℕ → Type 0
OpensNone lines at = IsBetween lines at × (line_in lines at ≢ mutator_word)

-- the line is no command of the section that is open, and does not end it
abbrev pub IsNoCommand : List (List ℕ) → ℕ → Type 0
IsNoCommand lines at =
    (from : ℕ) × IsIn lines from at × (line_in lines at ≢ end_word)
    × ((command : Command) → ¬ IsCommand (words_at lines at) command)

-- the line opens a section behind 16 others
abbrev pub OpensOneMore : List (List ℕ) → ℕ → Type 0
OpensOneMore lines at = IsBetween lines at × (line_in lines at ≡ mutator_word) × (16 ≤ sections_before lines at)

-- the line is a command behind 1,048,576 others
abbrev pub IsOneMore : List (List ℕ) → ℕ → Type 0
IsOneMore lines at = (from : ℕ) × IsIn lines from at × (line_in lines at ≢ end_word)
    × (1048576 ≤ commands_before lines at)

-- an ended line has this fault
abbrev pub LineFault : List (List ℕ) → ℕ → Kind → Type 0
LineFault lines at Header = IsNoSetting lines at
LineFault lines at Word = OpensNone lines at ⊎ IsNoCommand lines at
LineFault lines at Number = (word : List ℕ) × (range : ℕ × ℕ) × ShouldBe lines at word range
    × ((n : ℕ) → ¬ IsNumber word n)
LineFault lines at Range =
    (word : List ℕ) × (range : ℕ × ℕ) × (n : ℕ) × ShouldBe lines at word range × IsNumber word n
    × ((n < range.0) ⊎ (range.1 < n))
LineFault lines at Entries = (at ≡ 10) × (v : List ℕ) × AreSettings lines v
    × (max_entries < all_entries (numbers_in v 0))
LineFault lines at Undefined =
    (from : ℕ) × (name : List ℕ) × IsIn lines from at × HasArgument (words_at lines at) arguments.Read name
    × ¬ IsDefined lines from at name
LineFault lines at Names =
    (from : ℕ) × (name : List ℕ) × (roots : ℕ) × IsIn lines from at
    × HasArgument (words_at lines at) arguments.Defined name
    × ¬ IsDefined lines from at name × IsNumber (word_in (words_at lines 7) 1) roots × AreDefined lines from at roots
LineFault lines at Many = OpensOneMore lines at ⊎ IsOneMore lines at
LineFault lines at NotAscii = ⊥
LineFault lines at Unclosed = ⊥
LineFault lines at NoMutator = ⊥
LineFault lines at Words = ⊥
LineFault lines at Long = ⊥

-- what follows the last line feed has this fault
abbrev pub EndFault : List (List ℕ) → ℕ → Kind → Type 0
EndFault lines at Unclosed = (line_in lines at ≢ []) ⊎ ((at < 11) ⊎ ((from : ℕ) × IsIn lines from at))
EndFault lines at NoMutator = sections_before lines at ≡ 0
EndFault lines at Words = (v : List ℕ) × AreSettings lines v
    × (max_words < total (numbers_in v (sections_before lines at)))
EndFault lines at Header = ⊥
EndFault lines at NotAscii = ⊥
EndFault lines at Word = ⊥
EndFault lines at Number = ⊥
EndFault lines at Range = ⊥
EndFault lines at Names = ⊥
EndFault lines at Undefined = ⊥
EndFault lines at Many = ⊥
EndFault lines at Entries = ⊥
EndFault lines at Long = ⊥

-- the text has this fault there
abbrev pub HasFault : List (List ℕ) → ℕ → Kind → Type 0
HasFault lines at kind =
    ((kind ≡ NotAscii) × (list_all is_printable (line_in lines at) ≡ false))
    ⊎ (((at < ended lines) × LineFault lines at kind) ⊎ ((at ≡ ended lines) × EndFault lines at kind))

-- which fault is told of those in one place: that with the least number
abbrev pub rank : Kind → ℕ
rank NotAscii = 0
rank Unclosed = 1
rank Header = 2
rank Word = 3
rank Number = 4
rank Range = 5
rank Entries = 6
rank Undefined = 7
rank Names = 8
rank Many = 9
rank NoMutator = 10
rank Words = 11
rank Long = 12

-- the line that is told, from 1: for too many words it is that of the last setting
abbrev pub told_line : ℕ → Kind → ℕ
told_line at kind = if rank kind == rank Words then 11 else at + 1

-- this is the first fault of the text, and the line that is told
pub record IsFirstFault (text : List ℕ) (kind : Kind) (line : ℕ) : Type 0 where
  pub at : ℕ
  pub has : HasFault (lines_of text) at kind
  pub told : line ≡ told_line at kind
  pub first : (other : ℕ) → (k : Kind) → HasFault (lines_of text) other k → (at < other)
      ⊎ ((at ≡ other) × (rank kind ≤ rank k))
