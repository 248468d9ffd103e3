-- What acts make of words, and what they find. The equations are those of a shared table of atomic words.
use Rattle.std.specs.Prelude.{◌≡◌, ◌≢◌, ℕ, ◌+◌, ◌-◌, ◌%◌, ◌<◌, ◌≤◌, ◌^◌, ◌==◌, max, bit_and, bit_or, List, length}
use Rattle.std.specs.Prelude.{slice_index, slice_set}
use prog.Atomic.{either}
use Rattle.mako_step.specs.declared.act.Op.{Op}
use Rattle.mako_step.specs.declared.act.Op.TheVariants.{Load, Store, Add, Sub, Or, And, Max, Exchange}
use Rattle.mako_step.specs.declared.act.Act.{Act}
use Rattle.mako_step.specs.declared.step.Step.{Step}
use Rattle.mako_step.specs.declared.step.Step.TheVariants.{Do, Ended}

-- the word after the operation
abbrev pub after_op : Op → ℕ → ℕ
after_op Load n = n
after_op (Store x) n = x
after_op (Add x) n = (n + x) % 2 ^ 64
after_op (Sub x) n = (n + (2 ^ 64 - x)) % 2 ^ 64
after_op (Or x) n = bit_or n x
after_op (And x) n = bit_and n x
after_op (Max x) n = max n x
after_op (Exchange expect new) n = either (n == expect) new n

-- what the operation answers: the word before, or 0 for a store
abbrev pub found : Op → ℕ → ℕ
found Load n = n
found (Store x) n = 0
found (Add x) n = n
found (Sub x) n = n
found (Or x) n = n
found (And x) n = n
found (Max x) n = n
found (Exchange expect new) n = n

-- a sum or a difference stays within the word
abbrev pub FitsOp : Op → ℕ → Type 0
FitsOp Load n = Unit {0}
FitsOp (Store x) n = Unit {0}
FitsOp (Add x) n = n + x < 2 ^ 64
FitsOp (Sub x) n = x ≤ n
FitsOp (Or x) n = Unit {0}
FitsOp (And x) n = Unit {0}
FitsOp (Max x) n = Unit {0}
FitsOp (Exchange expect new) n = Unit {0}

-- the words after the act: the named word is changed, and all others stay
abbrev pub words_after : Act → List ℕ → List ℕ
words_after a words = slice_set words a.word (after_op a.op (slice_index words a.word))

-- what the next act of a machine finds
abbrev pub finds : Step → List ℕ → ℕ
finds (Do a) words = found a.op (slice_index words a.word)
finds Ended words = 0

-- the words after the next act of a machine
abbrev pub words_stepped : Step → List ℕ → List ℕ
words_stepped (Do a) words = words_after a words
words_stepped Ended words = words

-- the act on the word with this index, as what a machine does next
abbrev pub does : ℕ → Op → Step
does word op = Do (record { word = word; op = op })

-- an act is of a word below this number
abbrev pub IsWithin : ℕ → Step → Type 0
IsWithin count (Do a) = a.word < count
IsWithin count Ended = Unit {0}

-- sums and differences that stay within the word are those of numbers
pub record SumsAreExact : Type 0 where
  pub add : (x n : ℕ) → FitsOp (Add x) n → after_op (Add x) n ≡ n + x
  pub sub : (x n : ℕ) → x < 2 ^ 64 → n < 2 ^ 64 → FitsOp (Sub x) n → after_op (Sub x) n ≡ n - x

-- the named word is changed as the operation says, and no other
pub record ChangesOneWord : Type 0 where
  pub here : (a : Act) (words : List ℕ) → a.word < length words
      → slice_index (words_after a words) a.word ≡ after_op a.op (slice_index words a.word)
  pub others : (a : Act) (words : List ℕ) (i : ℕ) → i ≢ a.word
      → slice_index (words_after a words) i ≡ slice_index words i
  pub count : (a : Act) (words : List ℕ) → length (words_after a words) ≡ length words
