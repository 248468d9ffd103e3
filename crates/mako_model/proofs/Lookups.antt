-- What stands in a heap after one root or one object changed.
use Rattle.std.proofs.Common.{◌≡◌, ◌≢◌, ℕ, ◌⊎◌, inl, inr, ⊎_elim, true, false, cond, List, Some, sym, ap, refl, ◌∙◌}
use Rattle.std.proofs.Common.{Less, Equal, Greater, is_eq}
use Rattle.std.specs.Ordering.{eq_by_cmp}
use Rattle.std.specs.FinMap as map
use Rattle.std.proofs.lemmas.Cmp.{tied_itself}
use Rattle.std.proofs.lemmas.Option.{same_Some}
use Rattle.mako_words.specs.declared.name.Name.{Name}
use Rattle.mako_words.specs.declared.value.Value.{Value}
use Rattle.mako_words.specs.Names.{name_cmp}
use Rattle.mako_words.proofs.NamesInOrder.{exact_names, names_total}
use Rattle.mako_model.specs.Heaps.{Heap, fields_of, root_of, with_root, with_fields}
use Rattle.mako_model.proofs.Lists.{cell_same, cell_other, cell_cases}

-- two names are one, or the order tells them apart
pub name_cases : (x y : Name) → ((x ≡ y) × (eq_by_cmp name_cmp x y ≡ true))
    ⊎ ((x ≢ y) × (eq_by_cmp name_cmp x y ≡ false))
name_cases x y =
    elim (name_cmp x y) as (λ r. name_cmp x y ≡ r → ((x ≡ y) × (is_eq r ≡ true)) ⊎ ((x ≢ y) × (is_eq r ≡ false))) [
      | Less ↦ λ e. inr (
        (λ same. let t : name_cmp x y ≡ Equal = ap (name_cmp x) (sym same)
            ∙ tied_itself names_total x in cc),
        refl,
      )
      | Equal ↦ λ e. inl (exact_names x y e, refl)
      | Greater ↦ λ e. inr (
        (λ same. let t : name_cmp x y ≡ Equal = ap (name_cmp x) (sym same)
            ∙ tied_itself names_total x in cc),
        refl,
      )
    ] refl

pub name_itself : (x : Name) → eq_by_cmp name_cmp x x ≡ true
name_itself x = ap is_eq (tied_itself names_total x)

pub name_other : (x y : Name) → x ≢ y → eq_by_cmp name_cmp x y ≡ false
name_other x y n = ⊎_elim (λ t. absurd (n t.0)) (λ t. t.1) (name_cases x y)

pub fields_same : (h : Heap) (x : Name) (fields : List Value) → fields_of (with_fields h x fields) x ≡ Some fields
fields_same h x fields = map.get-insert names_total h.objects x fields x
    ∙ ap (λ b. cond b (Some fields) (fields_of h x)) (name_itself x)

pub fields_other : (h : Heap) (x : Name) (fields : List Value) (y : Name) → y ≢ x
    → fields_of (with_fields h x fields) y ≡ fields_of h y
fields_other h x fields y n = map.get-insert names_total h.objects x fields y
    ∙ ap (λ b. cond b (Some fields) (fields_of h y)) (name_other y x n)

pub fields_cases : (h : Heap) (x : Name) (fields : List Value) (y : Name) (found : List Value)
    → fields_of (with_fields h x fields) y ≡ Some found → ((y ≡ x) × (fields ≡ found))
    ⊎ ((y ≢ x) × (fields_of h y ≡ Some found))
fields_cases h x fields y found e =
    ⊎_elim (λ t. inl (
      t.0,
      same_Some fields found (sym (ap (λ b. cond b (Some fields) (fields_of h y)) t.1)
          ∙ sym (map.get-insert names_total h.objects x fields y) ∙ e),
    ))
    (λ t. inr (t.0, sym (fields_other h x fields y t.0) ∙ e)) (name_cases y x)

pub root_same : (h : Heap) (m q : ℕ) (v u : Value) → root_of h m q ≡ Some u → root_of (with_root h m q v) m q ≡ Some v
root_same h m q v u e = cell_same h.roots m q v u e

pub root_other : (h : Heap) (m q n p : ℕ) (v : Value) → (n ≡ m → p ≢ q)
    → root_of (with_root h m q v) n p ≡ root_of h n p
root_other h m q n p v other = cell_other h.roots m q n p v other

pub root_cases : (h : Heap) (m q n p : ℕ) (v u : Value) → root_of (with_root h m q v) n p ≡ Some u
    → ((n ≡ m) × (p ≡ q) × (v ≡ u)) ⊎ (root_of h n p ≡ Some u)
root_cases h m q n p v u e = cell_cases h.roots m q n p v u e
