-- What is wrong with one line by itself.
use Rattle.std.specs.Prelude.{◌≡◌, ◌≢◌, ℕ, ◌≤◌, ◌<◌, ◌⊎◌, true, false, List, [], ◌∷◌, length, slice_index, Result, Ok}
use Rattle.std.specs.Prelude.{Err}
use Rattle.std.specs.Fmt.{decimal}
use Rattle.std.specs.List.{list_all}
use Rattle.mako_script.specs.declared.fault.Kind.{Kind}
use Rattle.mako_script.specs.declared.fault.Kind.TheVariants.{Header, NotAscii, Number, Range, Unclosed}
use Rattle.mako_script.specs.Faults.{is_printable}
use Rattle.mako_script.specs.Lines.{ended, key_at, line_in, words_at}
use Rattle.mako_reader.specs.Words.{IsNumber}

-- a word that should be a number from low to high: the number, or what is wrong with it
abbrev pub IsValue : ℕ → ℕ → List ℕ → Result ℕ Kind → Type 0
IsValue low high word (Ok n) = IsNumber word n × (low ≤ n) × (n ≤ high)
IsValue low high word (Err Number) = (n : ℕ) → ¬ IsNumber word n
IsValue low high word (Err Range) = (n : ℕ) × IsNumber word n × ((n < low) ⊎ (high < n))
IsValue low high word (Err _) = ⊥

-- the line of a setting, by its words: no key with one word behind it, or such a word
abbrev pub IsSettingLine : List ℕ × (ℕ × ℕ) → List (List ℕ) → Result ℕ Kind → Type 0
IsSettingLine key words result =
    (((word : List ℕ) → words ≢ key.0 ∷ word ∷ []) × (result ≡ Err Header))
    ⊎ ((word : List ℕ) × (words ≡ key.0 ∷ word ∷ []) × IsValue key.1.0 key.1.1 word result)

-- the next line is ended and printable, and these lines are left
abbrev pub IsLine : List (List ℕ) → List ℕ → List (List ℕ) → Type 0
IsLine lines line left = (lines ≡ line ∷ left) × (0 < length left) × (list_all is_printable line ≡ true)

-- the next line is not printable, or it is the last and not ended
abbrev pub IsCut : List (List ℕ) → Kind → Type 0
IsCut lines NotAscii = list_all is_printable (line_in lines 0) ≡ false
IsCut lines Unclosed = (list_all is_printable (line_in lines 0) ≡ true) × (length lines ≡ 1)
IsCut lines _ = ⊥

-- a line has its setting: it is ended and printable, with its key and a number in its range
pub record HasSetting (lines : List (List ℕ)) (at n : ℕ) : Type 0 where
  pub ended : at < ended lines
  pub printable : list_all is_printable (line_in lines at) ≡ true
  pub words : words_at lines at ≡ (key_at at).0 ∷ decimal n ∷ []
  pub few : n < 10000000000
  pub low : (key_at at).1.0 ≤ n
  pub high : n ≤ (key_at at).1.1

-- the line has this fault of a setting and none that is told before it
abbrev pub SettingFault : List (List ℕ) → ℕ → Kind → Type 0
SettingFault lines at Unclosed = (list_all is_printable (line_in lines at) ≡ true) × (at ≡ ended lines)
SettingFault lines at NotAscii = list_all is_printable (line_in lines at) ≡ false
SettingFault lines at kind =
    (at < ended lines) × (list_all is_printable (line_in lines at) ≡ true)
    × IsSettingLine (key_at at) (words_at lines at) (Err kind)

-- the lines before this one have their settings
abbrev pub HaveSettings : List (List ℕ) → List ℕ → Type 0
HaveSettings lines v = (at : ℕ) → at < length v → HasSetting lines at (slice_index v at)
