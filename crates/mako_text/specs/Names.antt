-- The names that stand for roots in a script.
use Rattle.std.specs.Prelude.{◌≡◌, ◌≢◌, ℕ, ◌<◌, ◌&&◌, ◌||◌, Bool, true, nat_le, List, [], length, map, slice_index}
use Rattle.std.specs.Prelude.{slice_index_or, codes, string_bytes, String}
use Rattle.std.specs.List.{list_all}
use Rattle.std.specs.Char.{is_ascii_lowercase, is_ascii_digit}
use Rattle.indexmap.specs.IndexSet.{IndexSet}

abbrev pub is_letter_or_digit : ℕ → Bool
is_letter_or_digit c = is_ascii_lowercase c || is_ascii_digit c

-- letters a to z and digits, at most 16, of which the first is a letter
unfoldable pub is_name : List ℕ → Bool
is_name word = is_ascii_lowercase (slice_index word 0) && nat_le (length word) 16 && list_all is_letter_or_digit word

-- the name of the root with this number
abbrev pub name_of : List (List ℕ) → ℕ → List ℕ
name_of names root = slice_index_or names root []

-- the name of root 0
abbrev pub board_word : List ℕ
board_word = codes "board"

-- the names of a program, by their roots: the board's first, each spelled as a name, no two alike
pub record AreNames (names : List (List ℕ)) : Type 0 where
  pub some : 0 < length names
  pub board : name_of names 0 ≡ board_word
  pub spelled : (root : ℕ) → root < length names → is_name (name_of names root) ≡ true
  pub distinct : (a b : ℕ) → a < b → b < length names → name_of names a ≢ name_of names b

-- a set of names, by their roots
abbrev pub texts : {Z S : Type 0} → IndexSet (String Z) S → List (List ℕ)
texts names = map string_bytes names.keys
