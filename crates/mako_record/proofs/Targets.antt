-- Addresses of copies.
use Rattle.std.proofs.Common.{ℕ, ◌+◌, ◌*◌, ◌<◌, arith}
use Rattle.mako_shape.specs.declared.numbers.Numbers.{Numbers}
use Rattle.mako_shape.specs.Limits.{IsShape}
use Rattle.mako_shape.specs.Places.{index, region_word}
use Rattle.mako_shape.specs.Belongings.{IsAddress}
use Rattle.mako_shape.proofs.PlaceLaws.{index_below}
use Rattle.mako_shape.proofs.BelongingLaws.{word_after, region_word-index}

-- a region has words
pub some_words : (n : Numbers) → IsShape n → 0 < n.words
some_words n s = let e = s.in_range.each in omega (arith, e)

-- a word of a region has an address
pub region_address : (n : Numbers) (r w : ℕ) → r < n.servers * (n.tablets + n.spare) → w < n.words
    → IsAddress n (index n (region_word r 0) + w)
region_address n r w h k =
    let after = word_after n r w in
    let from = region_word-index n r 0 in
    let below = index_below n (region_word r w) (h, k) in
    (omega (arith, from), omega (arith, after, below))
