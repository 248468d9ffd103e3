-- The slot of an entry word that was stored.
use Rattle.std.proofs.Common.{◌≡◌, ℕ, ◌^◌, ◌<◌, ap, ◌∙◌, subst, arith}
use Rattle.mako_words.specs.declared.entry_word.EntryWord.{EntryWord}
use Rattle.mako_words.specs.Entries.{entry_word, FitsEntry, entry_at}
use Rattle.mako_words.proofs.EntryWords.{entry_at-entry_word}
use Rattle.mako_shape.specs.declared.numbers.Numbers.{Numbers}
use Rattle.mako_shape.specs.Limits.{IsShape}
use Rattle.mako_shape.specs.Places.{region_word, index}
use Rattle.mako_shape.specs.Belongings.{IsAddress, region_of_address, word_of_address}
use Rattle.mako_shape.proofs.PlaceLaws.{index_below}
use Rattle.mako_shape.proofs.BelongingLaws.{addresses_belong}
use Rattle.mako_model.specs.Heaps.{Heap}
use Rattle.mako_layout.specs.Layouts.{regions_of}
use Rattle.mako_layout.specs.Evacuations.{slot_of_entry, slot_of}

module _ (n : Numbers) (r o : ℕ) (inside : r < regions_of n) (low : o < n.words) where
  pub address_of_place : IsAddress n (index n (region_word r o)) × (region_of_address n (index n (region_word r o)) ≡ r)
  address_of_place = let e = addresses_belong.word_after n r o in
      addresses_belong.region_words n r (index n (region_word r o)) inside (omega arith, omega arith)

  pub region_of_place : region_of_address n (index n (region_word r o)) ≡ r
  region_of_place = address_of_place.1

  pub word_of_place : word_of_address n (index n (region_word r o)) ≡ o
  word_of_place =
      let a : ℕ = index n (region_word r o) in
      let p : index n (region_word (region_of_address n a) (word_of_address n a)) ≡ a = addresses_belong.place n a
      address_of_place.0 in
      let q : index n
      (region_word r (word_of_address n a)) ≡ a = subst (λ c. index n (region_word c (word_of_address n a)) ≡ a)
      address_of_place.1 p in
      let e = addresses_belong.word_after n r (word_of_address n a) in
      let f = addresses_belong.word_after n r o in
      omega arith

  pub address_fits : IsShape n → index n (region_word r o) < 2 ^ 23
  address_fits shape = let b = index_below n (region_word r o) (inside, low) in let c = shape.words in omega arith

-- the slot of a stored entry is that of the entry
pub slot_stored : (n : Numbers) (h : Heap) (x v : ℕ) (e : EntryWord) → FitsEntry e → v ≡ entry_word e →
    slot_of n h x v ≡ slot_of_entry n h x e
slot_stored n h x v e fits same = ap (λ q. slot_of n h x q) same ∙ ap (slot_of_entry n h x) (entry_at-entry_word e fits)

pub generation_small : (w : ℕ) → (entry_at w).generation < 2 ^ 20
generation_small w = omega arith

pub epoch_small : (w : ℕ) → (entry_at w).epoch < 2 ^ 20
epoch_small w = omega arith
