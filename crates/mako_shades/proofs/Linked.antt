-- A heap in which the board names an object that no root names, while the board is marked: where its entry is on a
-- server's stack the invariant holds.
use Rattle.std.proofs.Common.{◌≡◌, ℕ, zero, suc, ◌+◌, ◌^◌, inl, inr, ⊎_elim, List, [], ◌∷◌, Contains, slice_get, Some}
use Rattle.std.proofs.Common.{None, sym, ap, subst, refl, ◌∙◌, arith}
use Rattle.std.specs.FinMap as map
use Rattle.std.proofs.lemmas.Option.{same_Some, none-some}
use Rattle.std.proofs.lemmas.List.Elements.{Contains-push}
use Rattle.mako_words.specs.declared.name.Name.{Name}
use Rattle.mako_words.specs.declared.value.Value.{Value}
use Rattle.mako_words.specs.declared.value.Value.TheVariants as value
use Rattle.mako_words.specs.Entries.{entry_at}
use Rattle.mako_words.specs.Names.{name_cmp}
use Rattle.mako_words.specs.Values.{value_word}
use Rattle.mako_shape.specs.Places.{entry, Within, word_at}
use Rattle.mako_model.specs.declared.call.Call.TheVariants as call
use Rattle.mako_model.specs.declared.reply.Reply.TheVariants as reply
use Rattle.mako_model.specs.declared.point.Point.TheVariants.{Did}
use Rattle.mako_model.specs.Examples.{one}
use Rattle.mako_model.specs.Heaps.{Heap, board_name, fields_of, root_of, with_fields}
use Rattle.mako_model.specs.Lawful.{RefersTo, heap_after}
use Rattle.mako_model.specs.Legal.{state_of, opening_of, IsLegal}
use Rattle.mako_model.proofs.Changes.{put_writes}
use Rattle.mako_model.proofs.Closed.{empty_has, same_ref, no_null_ref}
use Rattle.mako_model.proofs.Lookups.{fields_same, fields_other, fields_cases}
use Rattle.mako_ring.specs.Shades.{entry_of, IsMarked, IsGrey, IsShaded, IsWorkedOn}
use Rattle.mako_ring.specs.TraceFacets.{TraceFacet, apart, serving, collecting, GreyIn}
use Rattle.mako_names.specs.Uses.{IsGood}
use Rattle.mako_shades.specs.Examples.{small, small_facts, stacked, linking, linked_history, linked_words, linked_seats}
use Rattle.mako_shades.specs.Holding.{HoldsName, Keeps, PutKnows, TracingHolds}
use Rattle.mako_shades.proofs.Goods.{root_good}
use Rattle.mako_shades.proofs.SmallHeap.{first_entry, second_entry, bare, not_one, slots_empty}
use Rattle.mako_shades.proofs.Turns.{no_member}
use Rattle.mako_shades.proofs.Words.{no_zero_name}

pub not_the_board : board_name ≡ one → ⊥
not_the_board e = not_one board_name.entry refl (ap (λ (x : Name). x.entry) e)

-- ---- its heap

-- behind the making of the object
abbrev made_heap : Heap
made_heap = heap_after (opening_of small_facts) (Did 0 (call.New 1 0) (reply.Made one))

board_at_first : RefersTo made_heap 0 0 board_name (value.Null ∷ [])
board_at_first = record {
  root_is = refl;
  fields_are = fields_other (opening_of small_facts) one [] board_name not_the_board
      ∙ fields_same bare board_name (value.Null ∷ []);
}

linked_is : heap_after made_heap (Did 0 (call.Put 0 0 1) reply.Done)
    ≡ with_fields made_heap board_name (value.Ref one ∷ [])
linked_is = put_writes made_heap 0 0 0 1 board_name (value.Null ∷ []) (value.Ref one) board_at_first refl

-- the board's field names the object
board_linked : fields_of (state_of small_facts linking) board_name ≡ Some (value.Ref one ∷ [])
board_linked =
    ap (λ (h : Heap). fields_of h board_name) linked_is ∙ fields_same made_heap board_name (value.Ref one ∷ [])

pub board_holds : HoldsName (state_of small_facts linking) board_name 0 one
board_holds = record { fields = value.Ref one ∷ []; object_is = board_linked; field_is = refl }

no_ref_first : (field : ℕ) (x : Name) → slice_get (value.Null ∷ []) field ≡ Some (value.Ref x) → ⊥
no_ref_first zero x at = no_null_ref x (same_Some value.Null (value.Ref x) at)
no_ref_first (suc field) x at = none-some (value.Ref x) at

-- before the put no field held a name
none_held : (object : Name) (field : ℕ) (x : Name) → HoldsName made_heap object field x → ⊥
none_held object field x holds =
    ⊎_elim
    (λ t. none-some (value.Ref x) (ap (λ (fs : List Value). slice_get fs field) t.1 ∙ holds.field_is))
    (λ t. ⊎_elim
    (λ u. no_ref_first field x (ap (λ (fs : List Value). slice_get fs field) u.1 ∙ holds.field_is))
    (λ u. empty_has bare object refl (holds.fields, u.1))
    (fields_cases bare board_name (value.Null ∷ []) object holds.fields t.1))
    (fields_cases (opening_of small_facts) one [] object holds.fields holds.object_is)

-- only the board's field holds one now
board_alone : (object : Name) (field : ℕ) (x : Name) → HoldsName (state_of small_facts linking) object field x
    → object ≡ board_name
board_alone object field x holds =
    ⊎_elim (λ t. t.0)
    (λ t. absurd (none_held object field x
    (record { fields = holds.fields; object_is = t.1; field_is = holds.field_is })))
    (fields_cases made_heap board_name (value.Ref one ∷ []) object holds.fields
    (sym (ap (λ (h : Heap). fields_of h object) linked_is) ∙ holds.object_is))

-- and only root 0 does
root_alone : (m q : ℕ) (x : Name) → root_of (state_of small_facts linking) m q ≡ Some (value.Ref x)
    → board_name ≡ x
root_alone zero zero x at = same_ref board_name x (same_Some (value.Ref board_name) (value.Ref x) at)
root_alone zero (suc zero) x at = absurd (no_null_ref x (same_Some value.Null (value.Ref x) at))
root_alone zero (suc (suc q)) x at = absurd (none-some (value.Ref x) at)
root_alone (suc m) q x at = absurd (none-some (value.Ref x) at)

-- the name is that of no object at first
one_fresh : fields_of (opening_of small_facts) one ≡ None
one_fresh =
    fields_other bare board_name (value.Null ∷ []) one (λ e. not_the_board (sym e)) ∙ map.get-empty name_cmp one

linked_legal : IsLegal small_facts linked_history
linked_legal = (
  ((value.Null, refl), one_fresh),
  (
    ((value.Ref one, refl), (board_name, value.Null ∷ [], board_at_first, omega arith)),
    ((value.Ref one, refl), ((refl, omega arith), tt)),
  ),
)

-- ---- its words

board_entry : word_at small linked_words (entry 0) ≡ 2 ^ 63 + 2 ^ 23 + 19
board_entry = first_entry (2 ^ 63 + 2 ^ 23 + 19) (2 ^ 63 + 21) (value_word (value.Ref one))

one_entry : word_at small linked_words (entry 1) ≡ 2 ^ 63 + 21
one_entry = second_entry (2 ^ 63 + 2 ^ 23 + 19) (2 ^ 63 + 21) (value_word (value.Ref one))

pub board_marked : IsMarked small linked_words 1 board_name
board_marked = record {
  in_range = omega arith;
  taken = ap (λ (k : ℕ). (entry_at k).taken) board_entry;
  generation = ap (λ (k : ℕ). (entry_at k).generation) board_entry;
  epoch = ap (λ (k : ℕ). (entry_at k).epoch) board_entry;
}

marked_first : (e : ℕ) → Within small (entry e) → (entry_of small linked_words e).epoch ≡ 1 → e ≡ 0
marked_first zero within epoch = refl
marked_first (suc zero) within epoch =
    absurd (not_one (entry_of small linked_words 1).epoch (ap (λ (k : ℕ). (entry_at k).epoch) one_entry) epoch)
marked_first (suc (suc e)) within epoch = absurd (omega arith)

-- nothing but the board is marked
pub marked_alone : (x : Name) → IsMarked small linked_words 1 x → board_name ≡ x
marked_alone x m =
    let e : x.entry ≡ 0 = marked_first x.entry m.in_range m.epoch in
    let g : 0 ≡ x.generation =
    sym (ap (λ (k : ℕ). (entry_at k).generation) board_entry)
    ∙ ap (λ (k : ℕ). (entry_of small linked_words k).generation) (sym e) ∙ m.generation in
    λ i. record { entry = sym e i; generation = g i }

-- ---- the server has the board's entry on its stack

seat_cases : (P : TraceFacet → Type 0) → P apart → P (serving (stacked (0 ∷ []))) → P (collecting [])
    → (seat : ℕ) (f : TraceFacet) → slice_get linked_seats seat ≡ Some f → P f
seat_cases P a s c zero f at = subst P (same_Some apart f at) a
seat_cases P a s c (suc zero) f at = subst P (same_Some (serving (stacked (0 ∷ []))) f at) s
seat_cases P a s c (suc (suc zero)) f at = subst P (same_Some (collecting []) f at) c
seat_cases P a s c (suc (suc (suc seat))) f at = absurd (none-some f at)

none_grey : (x : Name) → IsGrey small linked_words linked_seats x → ⊥
none_grey x grey =
    ⊎_elim
    (λ s. no_zero_name x s.fits
    (sym (slots_empty (2 ^ 63 + 2 ^ 23 + 19) (2 ^ 63 + 21) (value_word (value.Ref one)) s.place s.is_slot s.within)
    ∙ s.word_is))
    (λ held. seat_cases (λ f. GreyIn f x → ⊥) (λ none. none)
    (λ hand. ⊎_elim (λ none. none) (λ out. none-some x out) hand) (λ pending. no_member x pending)
    held.seat held.facet held.at held.grey) grey

shaded_alone : (x : Name) → IsShaded small linked_words linked_seats 1 x → board_name ≡ x
shaded_alone x shaded = ⊎_elim (λ grey. absurd (none_grey x grey)) (λ m. marked_alone x m) shaded

board_good : IsGood small_facts linked_history board_name
board_good = root_good small_facts linked_history linked_legal board_name (0, 0, refl)

board_awaited : (object : Name) (field : ℕ) → object ≡ board_name
    → IsWorkedOn small linked_words linked_seats object field
board_awaited object field is = record {
  seat = 1;
  facet = serving (stacked (0 ∷ []));
  at = refl;
  works = inl (inr (subst (λ (x : Name). Contains (0 ∷ []) x.entry) (sym is) (Contains-push [] 0)));
}

pub linked_holds : TracingHolds small small_facts linked_words linked_seats linked_history 1
linked_holds = record {
  before = linking;
  after = [];
  split = refl;
  latest = refl;
  shades = λ x shaded. subst (IsGood small_facts linked_history) (shaded_alone x shaded) board_good;
  keeps = λ seat f at x. seat_cases (λ g. Keeps g x → IsGood small_facts linked_history x) (λ none. absurd none)
      (λ none. absurd none) (λ none. absurd none) seat f at;
  roots = λ x root. inr (subst (IsMarked small linked_words 1) (root_alone root.0 root.1 x root.2) board_marked);
  fields = λ object field x reached holds.
      inr (
        record { fields = holds.fields; object_is = holds.object_is; field_is = holds.field_is },
        inr (board_awaited object field (board_alone object field x holds)),
      );
  puts = λ seat f at object field x reached holds.
      seat_cases (λ g. PutKnows g object field x (IsShaded small linked_words linked_seats 1 x)) tt tt tt seat f at;
  news = λ x none. absurd (no_member x none);
}
