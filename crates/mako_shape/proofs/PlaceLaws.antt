-- Places and indexes: each in range is below the number of words, no two are one, and no word is left out.
use Rattle.std.proofs.Common.{◌≡◌, ◌≢◌, ℕ, ◌+◌, ◌<◌, ◌*◌, List, length, set, get_or, sym, ◌∙◌, arith}
use Rattle.std.proofs.Math.Nat.{mul-add, mul_assoc}
use Rattle.std.proofs.lemmas.List.{get_or-set_same, get_or-set_other}
use Rattle.mako_shape.specs.declared.numbers.Numbers.{Numbers}
use Rattle.mako_shape.specs.Places.{Place, sizes, total, area_of, offset, start, index, Within, word_at}
use Rattle.mako_shape.proofs.Cells.{cell-below, one_cell, cell-of}
use Rattle.mako_shape.proofs.Decode.{place_of, place_of-offset, offset-below, place_of-covers}

-- the number of words, added up by what has them
pub words_add_up : (n : Numbers) → total n ≡
    3
    + n.mutators * (1 + n.roots + n.ring)
    + n.servers * (1 + 2 * n.ring + n.servers * n.ring)
    + 6 * (n.servers * n.tablets)
    + n.servers * n.tablets * n.entries
    + n.servers * (n.tablets + n.spare) * n.words
unfolding total
words_add_up n = grind (
  arith,
  mul-add n.mutators (1 + n.roots) n.ring,
  mul-add n.mutators 1 n.roots,
  mul-add n.servers (1 + 2 * n.ring) (n.servers * n.ring),
  mul-add n.servers 1 (2 * n.ring),
  mul_assoc n.servers n.servers n.ring,
)

-- a place in range has an index below the number of words
pub index_below : (n : Numbers) (p : Place) → Within n p → index n p < total n
unfolding index total
index_below n p h = cell-below (sizes n) (area_of p) (offset n p) (offset-below n p h)

-- and so has what counts a place from where its area starts
pub counted_below : (n m : Numbers) (p : Place) (first counted : ℕ) → m ≡ n → first ≡ start m (area_of p) →
    counted ≡ first + offset m p → Within n p → counted < total n
unfolding index
counted_below n m p first counted same from count h = rw (count, from, same) (index_below n p h)

-- places in range that have one index are one place
pub one_place : (n : Numbers) (p r : Place) → Within n p → Within n r → index n p ≡ index n r → p ≡ r
unfolding index
one_place n p r h k e =
    let same : (area_of p ≡ area_of r) × (offset n p ≡ offset n r) =
    one_cell (sizes n) (area_of p) (area_of r) (offset n p) (offset n r) (offset-below n p h) (offset-below n r k) e in
    sym (place_of-offset n p h) ∙ (λ i. place_of n (same.0 i) (same.1 i)) ∙ place_of-offset n r k

-- each index below the number of words is that of a place in range
pub some_place : (n : Numbers) (w : ℕ) → w < total n → (p : Place) × (Within n p × (index n p ≡ w))
unfolding index total
some_place n w h =
    let cell : (area : ℕ)
    × ((a : ℕ) × ((a < get_or (sizes n) area 0) × (start n area + a ≡ w))) = cell-of (sizes n) w h in
    let place : Place = place_of n cell.0 cell.1.0 in
    let known : Within n place × (area_of place ≡ cell.0)
    × (offset n place ≡ cell.1.0) = place_of-covers n cell.0 cell.1.0 cell.1.1.0 in
    (place, (known.0, (λ i. start n (known.1 i) + known.2 i) ∙ cell.1.1.1))

-- a word that is written at a place is read there
pub word_same : (n : Numbers) (words : List ℕ) (p : Place) (x : ℕ) → length words ≡ total n → Within n p →
    word_at n (set words (index n p) x) p ≡ x
word_same n words p x size h = let below : index n p < total n = index_below n p h in
    get_or-set_same words (index n p) x 0 (omega arith)

-- a write at a place leaves the words at all other places in range
pub word_other : (n : Numbers) (words : List ℕ) (p r : Place) (x : ℕ) → Within n p → Within n r → r ≢ p →
    word_at n (set words (index n p) x) r ≡ word_at n words r
word_other n words p r x h k other =
    get_or-set_other words (index n p) (index n r) x 0 (λ e. other (one_place n r p k h e))
