-- The words and the text of values.
use Rattle.std.specs.Prelude.{ℕ, ◌+◌, ◌-◌, ◌<◌, ◌^◌, ◌==◌, nat_lt, if◌then◌else◌, List, codes}
use Rattle.std.specs.Fmt.{decimal}
use Rattle.mako_words.specs.Names.{name_word, FitsName, name_at, name_text}
use Rattle.mako_words.specs.Words.{IsPackedBy}
use Rattle.mako_words.specs.declared.value.Value.{Value}
use Rattle.mako_words.specs.declared.value.Value.TheVariants.{Null, Num, Ref}

-- null is 0, a number has bit 62 beside it, and a name has the word of its name
abbrev pub value_word : Value → ℕ
value_word Null = 0
value_word (Num x) = x + 2 ^ 62
value_word (Ref n) = name_word n

-- each number fits its bits
abbrev pub FitsValue : Value → Type 0
FitsValue Null = Unit {0}
FitsValue (Num x) = x < 2 ^ 32
FitsValue (Ref n) = FitsName n

-- the value whose word this is
abbrev pub value_at : ℕ → Value
value_at w = if w == 0 then Null else (if nat_lt w (2 ^ 63) then Num (w - 2 ^ 62) else Ref (name_at w))

-- the word is that of a value
abbrev pub IsPacked : ℕ → Type 0
IsPacked w = IsPackedBy FitsValue value_word value_at w

-- `null`, the number in decimal, or the name
abbrev pub value_text : Value → List ℕ
value_text Null = codes "null"
value_text (Num x) = decimal x
value_text (Ref n) = name_text n
