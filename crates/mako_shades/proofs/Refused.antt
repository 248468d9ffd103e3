-- What the worked examples refuse.
use Rattle.std.proofs.Common.{◌≡◌, ℕ, zero, suc, ◌+◌, ◌^◌, inl, inr, ⊎_elim, List, [], ◌∷◌, ◌++◌, slice_get, Some, sym}
use Rattle.std.proofs.Common.{ap, subst, refl, ◌∙◌, arith}
use Rattle.std.proofs.lemmas.Option.{same_Some, none-some}
use Rattle.std.proofs.lemmas.List.Elements.{Contains-push}
use Rattle.mako_words.specs.declared.name.Name.{Name}
use Rattle.mako_words.specs.declared.value.Value.TheVariants as value
use Rattle.mako_words.specs.Entries.{entry_at}
use Rattle.mako_words.specs.Values.{value_word}
use Rattle.mako_model.specs.declared.call.Call.{Call}
use Rattle.mako_model.specs.declared.call.Call.TheVariants as call
use Rattle.mako_model.specs.declared.reply.Reply.{Reply}
use Rattle.mako_model.specs.declared.reply.Reply.TheVariants as reply
use Rattle.mako_model.specs.declared.point.Point.{Point}
use Rattle.mako_model.specs.declared.point.Point.TheVariants.{Did, Snap}
use Rattle.mako_model.specs.Examples.{one}
use Rattle.mako_model.specs.Heaps.{board_name}
use Rattle.mako_model.specs.Legal.{state_of}
use Rattle.mako_model.specs.Reachable.{StandsInRoot, IsReachable}
use Rattle.mako_ring.specs.Shades.{entry_of, IsHeld, IsGrey, IsShaded}
use Rattle.mako_ring.specs.TraceFacets.{TraceFacet, apart, serving, collecting, IsIdle}
use Rattle.mako_shades.specs.Examples.{small, small_facts, small_words, small_history, words_with, stacked}
use Rattle.mako_shades.specs.Examples.{forgetful_seats, inventive_seats, hasty_seats, words_too_soon, linking}
use Rattle.mako_shades.specs.Examples.{linked_history, linked_words}
use Rattle.mako_shades.specs.Holding.{HoldsName, TracingHolds}
use Rattle.mako_shades.specs.Serving.{Tracks}
use Rattle.mako_shades.specs.Stands.{HeapStands}
use Rattle.mako_shades.proofs.Linked.{not_the_board, board_holds, board_marked, marked_alone}
use Rattle.mako_shades.proofs.SmallHeap.{first_entry, second_entry, board_only, not_one, slots_empty, small_unmarked}
use Rattle.mako_shades.proofs.Snapshots.{idle_not_grey, idle_not_working}
use Rattle.mako_shades.proofs.Taken.{is_taken}
use Rattle.mako_shades.proofs.Words.{no_zero_name}

-- ---- where the snapshot stands in a history

no_nil : (before after : List Point) (p : Point) → [] ≡ before ++ p ∷ after → ⊥
no_nil [] after p e = cc
no_nil (q ∷ before) after p e = cc

no_snap : (m : ℕ) (c : Call) (r : Reply) (cycle : ℕ) → Did m c r ≡ Snap cycle → ⊥
no_snap m c r cycle e = cc

small_before : (before after : List Point) → small_history ≡ before ++ Snap 1 ∷ after → before ≡ []
small_before [] after e = refl
small_before (p ∷ before) after e =
    let rest : [] ≡ before ++ Snap 1 ∷ after = cc in absurd (no_nil before after (Snap 1) rest)

linked_before : (before after : List Point) → linked_history ≡ before ++ Snap 1 ∷ after → before ≡ linking
linked_before [] after e =
    let first : Did 0 (call.New 1 0) (reply.Made one) ≡ Snap 1 = cc in
    absurd (no_snap 0 (call.New 1 0) (reply.Made one) 1 first)
linked_before (p ∷ []) after e =
    let second : Did 0 (call.Put 0 0 1) reply.Done ≡ Snap 1 = cc in
    absurd (no_snap 0 (call.Put 0 0 1) reply.Done 1 second)
linked_before (p ∷ q ∷ []) after e =
    let third : Did 0 (call.DropRoot 1) reply.Done ≡ Snap 1 = cc in
    absurd (no_snap 0 (call.DropRoot 1) reply.Done 1 third)
linked_before (p ∷ q ∷ r ∷ []) after e = cc
linked_before (p ∷ q ∷ r ∷ s ∷ more) after e =
    let rest : [] ≡ more ++ Snap 1 ∷ after = cc in absurd (no_nil more after (Snap 1) rest)

-- ---- where nobody has any name

all_idle : (seat : ℕ) (f : TraceFacet) → slice_get forgetful_seats seat ≡ Some f → IsIdle f
all_idle zero f at = subst IsIdle (same_Some apart f at) tt
all_idle (suc zero) f at = subst IsIdle (same_Some (serving (stacked [])) f at) (refl, refl, refl, refl, refl)
all_idle (suc (suc zero)) f at = subst IsIdle (same_Some (collecting []) f at) refl
all_idle (suc (suc (suc seat))) f at = absurd (none-some f at)

none_grey : (a b c : ℕ) (x : Name) → IsGrey small (words_with a b c) forgetful_seats x → ⊥
none_grey a b c x grey =
    ⊎_elim (λ s. no_zero_name x s.fits (sym (slots_empty a b c s.place s.is_slot s.within) ∙ s.word_is))
    (λ held. idle_not_grey held.facet x (all_idle held.seat held.facet held.at) held.grey) grey

-- the board's name stands in a root, and is not shaded
pub not_forgotten : ¬ TracingHolds small small_facts small_words forgetful_seats small_history 1
not_forgotten t =
    let root : StandsInRoot (state_of small_facts t.before) board_name =
    subst (λ ps. StandsInRoot (state_of small_facts ps) board_name) (sym (small_before t.before t.after t.split))
    (0, 0, refl) in
    ⊎_elim (λ grey. none_grey (2 ^ 63 + 19) 0 0 board_name grey) (λ marked. small_unmarked board_name marked)
    (t.roots board_name root)

-- ---- where there is a name too many

-- a pending name is good, and so it was made
pub not_unmade : ¬ TracingHolds small small_facts small_words inventive_seats small_history 1
not_unmade t =
    let pending : IsHeld inventive_seats one = record {
      seat = 2;
      facet = collecting (board_name ∷ one ∷ []);
      at = refl;
      grey = Contains-push (board_name ∷ []) one;
    } in not_the_board (board_only one (t.shades one (inl (inr pending))).made)

-- what stands on a server's stack has the epoch
pub not_unmarked : ¬ Tracks small small_facts small_words hasty_seats small_history 1
not_unmarked t =
    let stands = t.serving.each 1 (serving (stacked (0 ∷ []))) refl in
    let marked = stands.stack 0 (Contains-push [] 0) in
    not_one (entry_of small small_words 0).epoch
    (ap (λ (k : ℕ). (entry_at k).epoch) (first_entry (2 ^ 63 + 19) 0 0)) marked.epoch

-- the name of a taken entry was made
pub not_too_soon : ¬ HeapStands small small_facts words_too_soon small_history
not_too_soon st =
    let entry_is = second_entry (2 ^ 63 + 19) (2 ^ 63 + 21) 0 in
    not_the_board (board_only one (st.made one
    (is_taken small words_too_soon 1 0 (omega arith) (ap (λ (k : ℕ). (entry_at k).taken) entry_is)
    (ap (λ (k : ℕ). (entry_at k).generation) entry_is))))

-- ---- where an object is passed over

board_reached : IsReachable (state_of small_facts linking) board_name
board_reached = record { first = board_name; path = []; in_root = (0, 0, refl); leads = refl }

one_unshaded : IsShaded small linked_words forgetful_seats 1 one → ⊥
one_unshaded shaded =
    ⊎_elim
    (λ grey. none_grey (2 ^ 63 + 2 ^ 23 + 19) (2 ^ 63 + 21) (value_word (value.Ref one)) one grey)
    (λ marked. not_the_board (marked_alone one marked)) shaded

-- the name in the board's field is not shaded, and the field is not waiting
pub not_passed_over : ¬ TracingHolds small small_facts linked_words forgetful_seats linked_history 1
not_passed_over t =
    let is : linking ≡ t.before = sym (linked_before t.before t.after t.split) in
    let reached : IsReachable (state_of small_facts t.before) board_name =
    subst (λ ps. IsReachable (state_of small_facts ps) board_name) is board_reached in
    let holds : HoldsName (state_of small_facts t.before) board_name 0 one =
    subst (λ ps. HoldsName (state_of small_facts ps) board_name 0 one) is board_holds in
    ⊎_elim (λ shaded. one_unshaded shaded)
    (λ kept. ⊎_elim (λ unmarked. unmarked board_marked)
    (λ worked. idle_not_working worked.facet _ _ 0 (all_idle worked.seat worked.facet worked.at) worked.works) kept.1)
    (t.fields board_name 0 one reached holds)
