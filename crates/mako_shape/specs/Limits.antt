-- The ranges of the ten numbers, and what a geometry has to meet.
use Rattle.std.specs.Prelude.{◌≡◌, ℕ, ◌*◌, ◌<◌, ◌≤◌, ◌||◌, Bool, nat_lt, Some, List, [], ◌∷◌, position, zip}
use Rattle.mako_shape.specs.declared.numbers.Numbers.{Numbers}
use Rattle.mako_shape.specs.declared.fault.ShapeFault.{ShapeFault}
use Rattle.mako_shape.specs.declared.fault.ShapeFault.TheVariants.{OutOfRange, TooManyEntries, TooManyWords}
use Rattle.mako_shape.specs.Places.{total}

-- the ten numbers, in the order of the fields
abbrev pub fields : Numbers → List ℕ
fields n =
    n.mutators
    ∷ n.servers
    ∷ n.tablets
    ∷ n.entries
    ∷ n.words
    ∷ n.spare
    ∷ n.ring
    ∷ n.roots
    ∷ n.cycles
    ∷ n.generations
    ∷ []

-- the least and the greatest value of each number, in the order of the fields
abbrev pub ranges : List (ℕ × ℕ)
ranges =
    (1, 16)
    ∷ (1, 8)
    ∷ (1, 256)
    ∷ (1, 1024)
    ∷ (16, 65536)
    ∷ (1, 8)
    ∷ (1, 64)
    ∷ (1, 32)
    ∷ (0, 1048575)
    ∷ (1, 1048575)
    ∷ []

-- each number beside its range
abbrev pub tested : Numbers → List (ℕ × (ℕ × ℕ))
tested n = zip (fields n) ranges

-- a number below or above its range
abbrev pub is_outside : ℕ × (ℕ × ℕ) → Bool
is_outside t = nat_lt t.0 t.1.0 || nat_lt t.1.1 t.0

-- each number of a list is in the range beside it
abbrev pub EachInRange : List (ℕ × (ℕ × ℕ)) → Type 0
EachInRange [] = Unit {0}
EachInRange (t ∷ ts) = (t.1.0 ≤ t.0) × (t.0 ≤ t.1.1) × EachInRange ts

-- the ten numbers are in their ranges
pub record AllInRange (n : Numbers) : Type 0 where
  pub each : EachInRange (tested n)

-- the entries of all tablets
abbrev pub all_entries : Numbers → ℕ
all_entries n = n.servers * n.tablets * n.entries

-- the most entries that all tablets may have together
abbrev pub max_entries : ℕ
max_entries = 1048576

-- the most words that all areas may have together
abbrev pub max_words : ℕ
max_words = 4194304

-- all numbers are in their ranges, and entries and words are within their limits
pub record IsShape (n : Numbers) : Type 0 where
  pub in_range : AllInRange n
  pub entries : all_entries n ≤ max_entries
  pub words : total n ≤ max_words

-- when each fault comes: the first number out of range, then too many entries, then too many words
abbrev pub IsFault : Numbers → ShapeFault → Type 0
IsFault n (OutOfRange place) = position is_outside (tested n) ≡ Some place
IsFault n TooManyEntries = AllInRange n × (max_entries < all_entries n)
IsFault n TooManyWords = AllInRange n × (all_entries n ≤ max_entries) × (max_words < total n)
