-- The places of words, the areas in which they lie, and the index of each place.
use Rattle.std.specs.Prelude.{◌≡◌, ◌≢◌, ℕ, ◌+◌, ◌*◌, ◌<◌, List, [], ◌∷◌, sum, take, length, slice_index, slice_set}
use Rattle.mako_shape.specs.declared.numbers.Numbers.{Numbers}

-- what a word of the heap is
pub data Place : Type 0 where
  phase : Place
  demand : Place
  finished : Place
  mutator_gate : ℕ → Place
  root : ℕ → ℕ → Place
  barrier : ℕ → ℕ → Place
  flags : ℕ → Place
  work : ℕ → ℕ → Place
  ghost : ℕ → ℕ → ℕ → Place
  notice : ℕ → ℕ → Place
  tablet_gate : ℕ → Place
  turn : ℕ → Place
  home : ℕ → Place
  top : ℕ → Place
  leaving : ℕ → Place
  live : ℕ → Place
  entry : ℕ → Place
  region_word : ℕ → ℕ → Place

-- the words of each area, in the order in which the areas follow each other
abbrev pub sizes : Numbers → List ℕ
sizes n =
    1
    ∷ 1
    ∷ 1
    ∷ n.mutators
    ∷ n.mutators * n.roots
    ∷ n.mutators * n.ring
    ∷ n.servers
    ∷ n.servers * n.ring
    ∷ n.servers * n.servers * n.ring
    ∷ n.servers * n.ring
    ∷ n.servers * n.tablets
    ∷ n.servers * n.tablets
    ∷ n.servers * n.tablets
    ∷ n.servers * n.tablets
    ∷ n.servers * n.tablets
    ∷ n.servers * n.tablets
    ∷ n.servers * n.tablets * n.entries
    ∷ n.servers * (n.tablets + n.spare) * n.words
    ∷ []

-- the number of words of all areas together
unfoldable pub total : Numbers → ℕ
total n = sum (sizes n)

-- the area of a place, by its number in the order of areas
abbrev pub area_of : Place → ℕ
area_of phase = 0
area_of demand = 1
area_of finished = 2
area_of (mutator_gate m) = 3
area_of (root m q) = 4
area_of (barrier m slot) = 5
area_of (flags s) = 6
area_of (work s slot) = 7
area_of (ghost sender receiver slot) = 8
area_of (notice s slot) = 9
area_of (tablet_gate t) = 10
area_of (turn t) = 11
area_of (home t) = 12
area_of (top t) = 13
area_of (leaving t) = 14
area_of (live t) = 15
area_of (entry x) = 16
area_of (region_word r word) = 17

-- the index of a place within its area
abbrev pub offset : Numbers → Place → ℕ
offset n phase = 0
offset n demand = 0
offset n finished = 0
offset n (mutator_gate m) = m
offset n (root m q) = m * n.roots + q
offset n (barrier m slot) = m * n.ring + slot
offset n (flags s) = s
offset n (work s slot) = s * n.ring + slot
offset n (ghost sender receiver slot) = (sender * n.servers + receiver) * n.ring + slot
offset n (notice s slot) = s * n.ring + slot
offset n (tablet_gate t) = t
offset n (turn t) = t
offset n (home t) = t
offset n (top t) = t
offset n (leaving t) = t
offset n (live t) = t
offset n (entry x) = x
offset n (region_word r word) = r * n.words + word

-- where an area starts, by its number in the order of areas
abbrev pub start : Numbers → ℕ → ℕ
start n area = sum (take area (sizes n))

-- the index of a place among all words
unfoldable pub index : Numbers → Place → ℕ
index n p = start n (area_of p) + offset n p

-- each number of the place is in its range
abbrev pub Within : Numbers → Place → Type 0
Within n phase = Unit {0}
Within n demand = Unit {0}
Within n finished = Unit {0}
Within n (mutator_gate m) = m < n.mutators
Within n (root m q) = (m < n.mutators) × (q < n.roots)
Within n (barrier m slot) = (m < n.mutators) × (slot < n.ring)
Within n (flags s) = s < n.servers
Within n (work s slot) = (s < n.servers) × (slot < n.ring)
Within n (ghost sender receiver slot) = (sender < n.servers) × (receiver < n.servers) × (slot < n.ring)
Within n (notice s slot) = (s < n.servers) × (slot < n.ring)
Within n (tablet_gate t) = t < n.servers * n.tablets
Within n (turn t) = t < n.servers * n.tablets
Within n (home t) = t < n.servers * n.tablets
Within n (top t) = t < n.servers * n.tablets
Within n (leaving t) = t < n.servers * n.tablets
Within n (live t) = t < n.servers * n.tablets
Within n (entry x) = x < n.servers * n.tablets * n.entries
Within n (region_word r word) = (r < n.servers * (n.tablets + n.spare)) × (word < n.words)

-- the word at a place, in a list of all words
abbrev pub word_at : Numbers → List ℕ → Place → ℕ
word_at n words p = slice_index words (index n p)

-- the number of words, added up by what has them: all, each mutator, each server, each tablet and each region
abbrev pub WordsAddUp : Type 0
WordsAddUp = (n : Numbers) → total n ≡
    3
    + n.mutators * (1 + n.roots + n.ring)
    + n.servers * (1 + 2 * n.ring + n.servers * n.ring)
    + 6 * (n.servers * n.tablets)
    + n.servers * n.tablets * n.entries
    + n.servers * (n.tablets + n.spare) * n.words

-- each place in range has an index below the number of words
abbrev pub IndexesAreBelow : Type 0
IndexesAreBelow = (n : Numbers) (p : Place) → Within n p → index n p < total n

-- the areas are disjoint: places in range that have one index are one place
abbrev pub AreasAreDisjoint : Type 0
AreasAreDisjoint = (n : Numbers) (p r : Place) → Within n p → Within n r → index n p ≡ index n r → p ≡ r

-- the areas cover all words: each index below the number of words is that of a place in range
abbrev pub AreasCover : Type 0
AreasCover = (n : Numbers) (w : ℕ) → w < total n → (p : Place) × (Within n p × (index n p ≡ w))

-- a word that is written at a place is read there
abbrev pub WriteIsRead : Type 0
WriteIsRead = (n : Numbers) (words : List ℕ) (p : Place) (x : ℕ) → length words ≡ total n → Within n p →
    word_at n (slice_set words (index n p) x) p ≡ x

-- a write at a place leaves the words at all other places in range
abbrev pub WriteLeavesOthers : Type 0
WriteLeavesOthers = (n : Numbers) (words : List ℕ) (p r : Place) (x : ℕ) → Within n p → Within n r → r ≢ p →
    word_at n (slice_set words (index n p) x) r ≡ word_at n words r
