-- At the first snapshot of a small heap all that is asked is met.
use Rattle.std.proofs.Common.{◌≡◌, ◌≢◌, ℕ, zero, suc, ◌+◌, ◌*◌, ◌^◌, ⊎_elim, List, [], ◌∷◌, Contains, slice_get}
use Rattle.std.proofs.Common.{slice_index, Some, true, false, sym, ap, subst, refl, ◌∙◌, arith}
use Rattle.std.specs.FinMap as map
use Rattle.std.proofs.lemmas.Option.{same_Some, none-some}
use Rattle.std.proofs.lemmas.List.Elements.{Contains-push, Contains-push_cases}
use Rattle.mako_words.specs.declared.name.Name.{Name}
use Rattle.mako_words.specs.declared.value.Value.{Value}
use Rattle.mako_words.specs.declared.value.Value.TheVariants.{Null, Ref}
use Rattle.mako_words.specs.Names.{FitsName}
use Rattle.mako_words.specs.Entries.{entry_at}
use Rattle.mako_words.specs.Values.{value_word, FitsValue}
use Rattle.mako_shape.specs.Places.{Place, barrier, work, ghost, entry, index, total, Within, word_at}
use Rattle.mako_model.specs.Heaps.{Heap, board_name, fields_of, root_of}
use Rattle.mako_model.specs.Legal.{state_of, opening_of, IsLegal}
use Rattle.mako_model.specs.Reachable.{StandsInRoot}
use Rattle.mako_model.proofs.Closed.{same_ref, no_null_ref}
use Rattle.mako_model.proofs.Lookups.{fields_same}
use Rattle.mako_ring.specs.Shades.{entry_of, IsMarked, IsShadeSlot}
use Rattle.mako_ring.specs.TraceFacets.{TraceFacet, apart, serving, collecting}
use Rattle.mako_names.specs.Tables.{IsTaken}
use Rattle.mako_shades.specs.Examples.{small, small_facts, small_words, small_seats, small_history, words_with, stacked}
use Rattle.mako_shades.specs.Serving.{ServerIs, Tracks}
use Rattle.mako_shades.specs.Stands.{RecordStands, HeapStands}
use Rattle.mako_shades.specs.Steps.{IsAtRest, IsReady}
use Rattle.mako_shades.proofs.Mutators.{collector_snaps}
use Rattle.mako_shades.proofs.Taken.{is_taken, taken_word, taken_generation}
use Rattle.mako_shades.proofs.Turns.{no_member}

no_both : false ≡ true → ⊥
no_both e = cc

pub first_entry : (a b c : ℕ) → word_at small (words_with a b c) (entry 0) ≡ a
unfolding index
first_entry a b c = refl

pub second_entry : (a b c : ℕ) → word_at small (words_with a b c) (entry 1) ≡ b
unfolding index
second_entry a b c = refl

pub board_only : (x : Name) → Contains (board_name ∷ []) x → board_name ≡ x
board_only x c = ⊎_elim (λ none. absurd (no_member x none)) (λ same. same) (Contains-push_cases [] board_name x c)

small_legal : IsLegal small_facts small_history
small_legal = ((refl, omega arith), tt)

board_entry : word_at small small_words (entry 0) ≡ 2 ^ 63 + 19
board_entry = first_entry (2 ^ 63 + 19) 0 0

-- only the board's entry is taken
taken_first : (e : ℕ) → Within small (entry e) → (entry_of small small_words e).taken ≡ true → e ≡ 0
taken_first zero within taken = refl
taken_first (suc zero) within taken =
    absurd (no_both (sym (ap (λ (k : ℕ). (entry_at k).taken) (second_entry (2 ^ 63 + 19) 0 0)) ∙ taken))
taken_first (suc (suc e)) within taken = absurd (omega arith)

taken_board : (x : Name) → IsTaken small small_words x.entry x.generation → board_name ≡ x
taken_board x is =
    let e : x.entry ≡ 0 = taken_first x.entry is.within (taken_word small small_words x.entry x.generation is) in
    let g : 0 ≡ x.generation =
    sym (ap (λ (k : ℕ). (entry_at k).generation) board_entry)
    ∙ ap (λ (k : ℕ). (entry_of small small_words k).generation) (sym e)
    ∙ taken_generation small small_words x.entry x.generation is in
    λ i. record { entry = sym e i; generation = g i }

board_taken : IsTaken small small_words 0 0
board_taken =
    is_taken small small_words 0 0 (omega arith) (ap (λ (k : ℕ). (entry_at k).taken) board_entry)
    (ap (λ (k : ℕ). (entry_at k).generation) board_entry)

-- the heap with the opening's roots, but no object
abbrev pub bare : Heap
bare = record { objects = map.empty; roots = (opening_of small_facts).roots; snaps = 0; cycles = 1 }

board_fields : fields_of (state_of small_facts small_history) board_name ≡ Some (Null ∷ [])
board_fields = fields_same bare board_name (Null ∷ [])

board_record : RecordStands small_words 19 (Null ∷ [])
board_record = record { header = refl; each = each }
  where
    each : (i : ℕ) (v : Value) → slice_get (Null ∷ []) i ≡ Some v
        → (slice_index small_words (19 + 1 + i) ≡ value_word v) × FitsValue v
    each zero v at =
        subst (λ u. (slice_index small_words (19 + 1 + 0) ≡ value_word u) × FitsValue u) (same_Some Null v at)
        (refl, tt)
    each (suc i) v at = absurd (none-some v at)

small_records : (x : Name) (fields : List Value) → IsTaken small small_words x.entry x.generation
    → fields_of (state_of small_facts small_history) x ≡ Some fields
    → RecordStands small_words (entry_of small small_words x.entry).address fields
small_records x fields is found =
    let name : board_name ≡ x = taken_board x is in
    let same : Null ∷ [] ≡ fields =
    same_Some (Null ∷ []) fields
    (sym board_fields ∙ ap (fields_of (state_of small_facts small_history)) name ∙ found) in
    let address : 19 ≡ (entry_of small small_words x.entry).address =
    sym (ap (λ (k : ℕ). (entry_at k).address) board_entry)
    ∙ ap (λ (y : Name). (entry_of small small_words y.entry).address) name in
    subst (λ a. RecordStands small_words a fields) address
    (subst (λ fs. RecordStands small_words 19 fs) same board_record)

pub small_stands : HeapStands small small_facts small_words small_history
unfolding total
small_stands = record {
  size = refl;
  legal = small_legal;
  fit = λ x made. subst FitsName (board_only x made) (omega arith, omega arith);
  taken = λ x good. subst (λ (y : Name). IsTaken small small_words y.entry y.generation)
      (board_only x good.made) board_taken;
  made = λ x is. subst (Contains (board_name ∷ [])) (taken_board x is) (Contains-push [] board_name);
  records = small_records;
}

root_only : (m q : ℕ) (x : Name) → root_of (opening_of small_facts) m q ≡ Some (Ref x) → board_name ≡ x
root_only zero zero x at = same_ref board_name x (same_Some (Ref board_name) (Ref x) at)
root_only zero (suc zero) x at = absurd (no_null_ref x (same_Some Null (Ref x) at))
root_only zero (suc (suc q)) x at = absurd (none-some (Ref x) at)
root_only (suc m) q x at = absurd (none-some (Ref x) at)

-- the slots of each of these heaps are empty
pub slots_empty : (a b c : ℕ) (p : Place) → IsShadeSlot p → Within small p → word_at small (words_with a b c) p ≡ 0
unfolding index
slots_empty a b c (barrier m slot) is within =
    let low = within.0 in let high = within.1 in
    subst (λ k. slice_index (words_with a b c) (6 + k) ≡ 0) (let e : 0 ≡ m * 1 + slot = omega arith in e) refl
slots_empty a b c (work s slot) is within =
    let low = within.0 in let high = within.1 in
    subst (λ k. slice_index (words_with a b c) (8 + k) ≡ 0) (let e : 0 ≡ s * 1 + slot = omega arith in e) refl
slots_empty a b c (ghost s r slot) is within =
    let low = within.0 in let middle = within.1 in let high = within.2 in
    subst (λ k. slice_index (words_with a b c) (9 + k) ≡ 0)
    (let e : 0 ≡ (s * 1 + r) * 1 + slot = omega arith in e) refl
slots_empty a b c p is within = absurd is

-- 0 is not 1
pub not_one : (k : ℕ) → k ≡ 0 → k ≡ 1 → ⊥
not_one k none one = omega arith

pub small_unmarked : (x : Name) → ¬ IsMarked small small_words 1 x
small_unmarked x m =
    let e : x.entry ≡ 0 = taken_first x.entry m.in_range m.taken in
    not_one (entry_of small small_words x.entry).epoch
    (ap (λ (k : ℕ). (entry_of small small_words k).epoch) e ∙ ap (λ (k : ℕ). (entry_at k).epoch) board_entry)
    m.epoch

others_rest : (seat : ℕ) (f : TraceFacet) → slice_get small_seats seat ≡ Some f → seat ≢ 2 → IsAtRest f
others_rest zero f at ne = subst IsAtRest (same_Some apart f at) tt
others_rest (suc zero) f at ne =
    subst IsAtRest (same_Some (serving (stacked [])) f at) (refl, refl, refl, refl, refl)
others_rest (suc (suc zero)) f at ne = absurd (ne refl)
others_rest (suc (suc (suc seat))) f at ne = absurd (none-some f at)

small_ready : IsReady small small_facts small_words small_seats [] 1 2 (board_name ∷ [])
small_ready = record {
  here = refl;
  roots = λ x root.
      subst (Contains (board_name ∷ [])) (root_only root.0 root.1 x root.2) (Contains-push [] board_name);
  pending = λ x c. subst (StandsInRoot (opening_of small_facts)) (board_only x c) (0, 0, refl);
  others = others_rest;
  slots = slots_empty (2 ^ 63 + 19) 0 0;
  unmarked = small_unmarked;
}

server_seat : (seat : ℕ) (f : TraceFacet) (s : ℕ) → slice_get small_seats seat ≡ Some f → ServerIs f s → seat ≡ 1
server_seat zero f s at is = absurd (subst (λ g. ServerIs g s) (sym (same_Some apart f at)) is)
server_seat (suc zero) f s at is = refl
server_seat (suc (suc zero)) f s at is =
    absurd (subst (λ g. ServerIs g s) (sym (same_Some (collecting (board_name ∷ [])) f at)) is)
server_seat (suc (suc (suc seat))) f s at is = absurd (none-some f at)

pub small_tracks : Tracks small small_facts small_words small_seats small_history 1
small_tracks =
    collector_snaps small small_facts small_words small_words small_seats [] 1 2 (board_name ∷ [])
    small_legal small_ready
    (λ i j f g s at_f at_g is_f is_g. server_seat i f s at_f is_f ∙ sym (server_seat j g s at_g is_g))
    (λ p traced within. refl)
