-- The lines of a text, their words, and numbers.
use Rattle.std.specs.Prelude.{◌≡◌, ℕ, ◌<◌, ◌≤◌, ◌==◌, List, [], ◌∷◌, length}
use Rattle.std.specs.Fmt.{decimal}
use Rattle.std.specs.List.{slice_split}

-- the lines of a text, and behind them what follows the last line feed
unfoldable pub lines_of : List ℕ → List (List ℕ)
lines_of text = slice_split (λ b. b == 10) text

-- the words of a line
unfoldable pub words_of : List ℕ → List (List ℕ)
words_of line = slice_split (λ b. b == 32) line

-- the words behind the end of a word: the text begins with a space where there are any
unfoldable pub words_behind : List ℕ → List (List ℕ)
words_behind [] = []
words_behind (c ∷ text) = words_of text

-- the first line of these, if it is ended, and the others
abbrev pub IsFirstLine : List (List ℕ) → List ℕ × List (List ℕ) → Type 0
IsFirstLine lines read = (lines ≡ read.0 ∷ read.1) × (0 < length read.1)

-- the first of these words, and the others
abbrev pub IsFirstWord : List (List ℕ) → List ℕ × List (List ℕ) → Type 0
IsFirstWord words read = words ≡ read.0 ∷ read.1

-- the word is this number, which has at most ten digits
abbrev pub IsNumber : List ℕ → ℕ → Type 0
IsNumber word n = (word ≡ decimal n) × (n < 10000000000)

abbrev pub IsWithin : ℕ → ℕ → List ℕ → ℕ → Type 0
IsWithin low high word n = IsNumber word n × (low ≤ n) × (n ≤ high)
