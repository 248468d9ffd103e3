-- Each mutator has each of its roots in each legal history.
use Rattle.std.proofs.Common.{◌≡◌, ℕ, zero, suc, ◌-◌, ◌<◌, ⊎_elim, List, length, replicate, Some, sym, subst, refl, ◌∙◌}
use Rattle.std.proofs.Common.{arith, length-set}
use Rattle.std.proofs.lemmas.Bool.{cases_eq}
use Rattle.std.proofs.lemmas.List.{length-replicate}
use Rattle.mako_words.specs.declared.name.Name.{Name}
use Rattle.mako_words.specs.declared.value.Value.{Value}
use Rattle.mako_words.specs.declared.value.Value.TheVariants.{Null, Ref}
use Rattle.mako_model.specs.declared.point.Point.{Point}
use Rattle.mako_model.specs.Heaps.{Heap, board_name, root_of, with_root, with_fields, opening_roots}
use Rattle.mako_model.specs.Lawful.{HasRoot, heap_after}
use Rattle.mako_model.specs.Legal.{Facts, state_of, IsLegal}
use Rattle.mako_model.specs.Dead.{made_by}
use Rattle.mako_model.specs.Laws.{HasRoots}
use Rattle.mako_model.proofs.Changes.{Change, Nothing, Snapped, Rooted, Written, New, change_of}
use Rattle.mako_model.proofs.Histories.{kept}
use Rattle.mako_model.proofs.Lists.{cell, get_replicate_within}
use Rattle.mako_model.proofs.Lookups.{root_same, root_other}

-- a root that is set is there, and so are the others
root_stays : (h : Heap) (m q : ℕ) (v : Value) (n p : ℕ) → HasRoot h n p → HasRoot (with_root h m q v) n p
root_stays h m q v n p has =
    ⊎_elim
    (λ e. ⊎_elim
    (λ f. (
      v,
      (λ i. root_of (with_root h m q v) (e i) (f i))
          ∙ root_same h m q v has.0 ((λ i. root_of h (sym e i) (sym f i)) ∙ has.1),
    ))
    (λ other. (has.0, root_other h m q n p v (λ same k. other k) ∙ has.1)) (cases_eq p q))
    (λ other. (has.0, root_other h m q n p v (λ same. absurd (other same)) ∙ has.1)) (cases_eq n m)

roots_set : (w : Facts) (h : Heap) (m q : ℕ) (v : Value) → HasRoots w h → HasRoots w (with_root h m q v)
roots_set w h m q v has =
    record { rows = length-set h.roots m _ ∙ has.rows; each = λ n p l k. root_stays h m q v n p (has.each n p l k) }

roots_changed : (w : Facts) (h after : Heap) (made : List Name) → Change h after made → HasRoots w h → HasRoots w after
roots_changed w h after made (Nothing e none) has = subst (HasRoots w) (sym e) has
roots_changed w h after made (Snapped e none) has =
    subst (HasRoots w) (sym e) (record { rows = has.rows; each = has.each })
roots_changed w h after made (Rooted m q v root hand e none) has = subst (HasRoots w) (sym e) (roots_set w h m q v has)
roots_changed w h after made (Written m q name fields i v refers hand e none) has =
    subst (HasRoots w) (sym e) (record { rows = has.rows; each = has.each })
roots_changed w h after made (New m q name fields root fresh e one) has =
    subst (HasRoots w) (sym e)
    (roots_set w (with_fields h name (replicate fields Null)) m q (Ref name)
    (record { rows = has.rows; each = has.each }))

opening_cell : (mutators roots m q : ℕ) → m < mutators → q < roots → (v : Value)
    × (cell (replicate mutators (opening_roots roots)) m q ≡ Some v)
opening_cell zero roots m q l k = absurd (omega arith)
opening_cell (suc mutators) roots zero zero l k = (Ref board_name, refl)
opening_cell (suc mutators) roots zero (suc q) l k = (Null, get_replicate_within (roots - 1) q Null (omega arith))
opening_cell (suc mutators) roots (suc m) q l k = opening_cell mutators roots m q (omega arith) k

-- in each legal history
pub has_roots : (w : Facts) (history : List Point) → IsLegal w history → HasRoots w (state_of w history)
has_roots w history legal =
    kept (HasRoots w) (λ h p lawful has. roots_changed w h (heap_after h p) (made_by p) (change_of h p lawful) has)
    w history legal
    (record {
      rows = length-replicate (length w.programs) (opening_roots w.roots);
      each = opening_cell (length w.programs) w.roots;
    })
