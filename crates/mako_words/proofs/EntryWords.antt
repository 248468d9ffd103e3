-- The words of table entries.
use Rattle.std.proofs.Common.{◌≡◌, ℕ, ◌+◌, ◌*◌, ◌/◌, ◌%◌, ◌^◌, ◌<◌, Bool, true, false, cond, leb, arith}
use Rattle.std.proofs.lemmas.Bool.Decides.{nat_tests}
use Rattle.mako_words.specs.declared.entry_word.EntryWord.{EntryWord}
use Rattle.mako_words.specs.Entries.{entry_word, FitsEntry, entry_at, IsPackedEntry}
use Rattle.mako_words.specs.Words.{IsPacking}
use Rattle.mako_words.proofs.Unpacking as unpacking

-- the four fields of a word, each by its bits
taken_of : (t : Bool) (low : ℕ) → low < 2 ^ 63 → leb (2 ^ 63) (low + cond t (2 ^ 63) 0) ≡ t
taken_of true low within = grind (arith, nat_tests)
taken_of false low within = grind (arith, nat_tests)

address_of : (t : Bool) (a p g : ℕ) → a < 2 ^ 23 → (a + p * 2 ^ 23 + g * 2 ^ 43 + cond t (2 ^ 63) 0) % 2 ^ 23 ≡ a
address_of true a p g within = omega arith
address_of false a p g within = omega arith

epoch_of : (t : Bool) (a p g : ℕ) → a < 2 ^ 23 → p < 2 ^ 20
    → (a + p * 2 ^ 23 + g * 2 ^ 43 + cond t (2 ^ 63) 0) / 2 ^ 23 % 2 ^ 20 ≡ p
epoch_of true a p g within small = omega arith
epoch_of false a p g within small = omega arith

generation_of : (t : Bool) (a p g : ℕ) → a < 2 ^ 23 → p < 2 ^ 20 → g < 2 ^ 20
    → (a + p * 2 ^ 23 + g * 2 ^ 43 + cond t (2 ^ 63) 0) / 2 ^ 43 % 2 ^ 20 ≡ g
generation_of true a p g within small low = omega arith
generation_of false a p g within small low = omega arith

-- the word of an entry gives the entry back
pub entry_at-entry_word : (e : EntryWord) → FitsEntry e → entry_at (entry_word e) ≡ e
entry_at-entry_word e fits =
    let t = taken_of e.taken (e.address + e.epoch * 2 ^ 23 + e.generation * 2 ^ 43) (omega arith) in
    let g = generation_of e.taken e.address e.epoch e.generation fits.address fits.epoch fits.generation in
    let p = epoch_of e.taken e.address e.epoch e.generation fits.address fits.epoch in
    let a = address_of e.taken e.address e.epoch e.generation fits.address in
    λ i. record { taken = t i; generation = g i; epoch = p i; address = a i }

entry_word-lt : (e : EntryWord) → FitsEntry e → entry_word e < 2 ^ 64
entry_word-lt e fits = within e.taken e.address e.epoch e.generation fits.address fits.epoch fits.generation
  where
    within : (t : Bool) (a p g : ℕ) → a < 2 ^ 23 → p < 2 ^ 20 → g < 2 ^ 20
        → a + p * 2 ^ 23 + g * 2 ^ 43 + cond t (2 ^ 63) 0 < 2 ^ 64
    within true a p g low small first = omega arith
    within false a p g low small first = omega arith

-- packing entries loses nothing
pub entry_words : IsPacking FitsEntry entry_word entry_at
entry_words = unpacking.packing FitsEntry entry_word entry_at entry_at-entry_word entry_word-lt

-- each word is that of an entry
pub entry_forms : (w : ℕ) → w < 2 ^ 64 → IsPackedEntry w
entry_forms w within = record {
  fits = record { address = omega arith; epoch = omega arith; generation = omega arith };
  same = grind (arith, nat_tests);
}
