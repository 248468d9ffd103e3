-- What a view finds in the words that it loads.
use Rattle.std.proofs.Common.{◌≡◌, ℕ, suc, ◌+◌, ◌<◌, ◌≤◌, List, length, get_or, slice_get, Some, sym, ap, ◌∙◌, refl}
use Rattle.std.proofs.Common.{subst, arith}
use Rattle.std.proofs.lemmas.List.{get_or-map}
use Rattle.std.proofs.lemmas.Option.{same_Some, slice_get_within, get_or_from_slice_get}
use Rattle.mako_words.specs.declared.value.Value.{Value}
use Rattle.mako_words.specs.Values.{value_word}
use Rattle.mako_words.proofs.GateWords.{gate_forms}
use Rattle.mako_shape.specs.Places.{mutator_gate, tablet_gate, region_word}
use Rattle.mako_shape.specs.Belongings.{IsAddress}
use Rattle.mako_shape.proofs.PlaceLaws.{index_below}
use Rattle.mako_shape.proofs.BelongingLaws.{addresses_belong}
use Rattle.mako_gate.proofs.Found as gates
use Rattle.mako_layout.specs.Layouts.{regions_of}
use Rattle.mako_layout.specs.Evacuations.{record_words, layout, slot_at}
use Rattle.mako_layout.specs.Found.{GatesAreFound, HomesAreFound, TopsAreFound, AddressesAreFound, RecordsAreFound}
use Rattle.mako_layout.proofs.Frames.{record_within}
use Rattle.mako_layout.proofs.Stays.{size_is}
use Rattle.mako_layout.proofs.Debts.{home_is, filled_is}
use Rattle.mako_layout.proofs.Entries.{address_of_place}

pub gates_are_found : GatesAreFound
gates_are_found n s e = record {
  tablets = λ t h. (gate_forms (s.words (tablet_gate t))).1
      (gates.below _ _ _ _ _ _ e.gates.many (e.gates.tablets t h));
  owns = λ m h. (gate_forms (s.words (mutator_gate m))).1 (gates.below _ _ _ _ _ _ e.gates.many (e.gates.owns m h));
}

pub homes_are_found : HomesAreFound
homes_are_found n s e i t g at h there =
    subst (λ q. q < regions_of n) (home_is n s e i g at t there) (e.copy.home_in t h)

pub tops_are_found : TopsAreFound
tops_are_found n s e i t g w seat h writer owes =
    subst (λ q. q ≤ n.words) (filled_is n s e i g seat.gate w seat.work t h writer (owes t).0 (owes t).1)
    (e.copy.within t h)

pub addresses_are_found : AddressesAreFound
addresses_are_found n s e x h taken =
    let r = e.records x h taken in
    let size = size_is n s.words s.heap x r in
    let w = record_within n (layout n s) e.copy x (slot_at n s x).region (slot_at n s x).offset h
    (record { taken = taken; region = refl; low = omega arith; high = omega (arith, size) }) in
    subst (IsAddress n) r.address (address_of_place n (slot_at n s x).region (slot_at n s x).offset w.0 w.1).0

-- a word behind the header is that of a field
field_there : (fields : List Value) (j : ℕ) (v : Value) → slice_get fields j ≡ Some v →
    get_or (record_words fields) (1 + j) 0 ≡ value_word v
field_there fields j v is =
    (let next : 1 + j ≡ suc j = omega arith in ap (λ q. get_or (record_words fields) q 0) next)
    ∙ get_or-map value_word fields j v 0 (slice_get_within fields j v is)
    ∙ ap value_word (get_or_from_slice_get fields j v v is)

pub records_are_found : RecordsAreFound
records_are_found n s e x h taken fields are =
    let r = e.records x h taken in
    let one : r.fields ≡ fields = same_Some r.fields fields (sym r.are ∙ are) in
    let long : length r.fields ≡ length fields = ap length one in
    let size : (slot_at n s x).size ≡ length r.fields + 1 = size_is n s.words s.heap x r in
    let last = record_within n (layout n s) e.copy x (slot_at n s x).region ((slot_at n s x).offset + length fields) h
    (record { taken = taken; region = refl; low = omega arith; high = omega arith }) in
    record {
      header = (let none : (slot_at n s x).offset + 0 ≡ (slot_at n s x).offset = omega arith in
          ap (λ q. s.words (region_word (slot_at n s x).region q)) (sym none)) ∙ r.words 0 (omega arith) ∙ long;
      field = λ j v is. (let below = slice_get_within fields j v is in
          r.words (1 + j) (omega arith) ∙ ap (λ q. get_or (record_words q) (1 + j) 0) one ∙ field_there fields j v is);
      size = omega arith;
      whole = omega (arith, last.1);
      inside =
          let a = addresses_belong.word_after n (slot_at n s x).region (slot_at n s x).offset in
          let b = addresses_belong.word_after n (slot_at n s x).region ((slot_at n s x).offset + length fields) in
          let c = index_below n (region_word (slot_at n s x).region ((slot_at n s x).offset + length fields)) last in
          let d = r.address in
          omega arith;
    }
