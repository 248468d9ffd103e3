-- The names made are those of the objects, and each name that stands anywhere is one of them.
use Rattle.std.proofs.Common.{◌≡◌, ℕ, zero, suc, ◌-◌, ◌<◌, ◌⊎◌, inl, inr, ⊎_elim, ◌↔◌, List, [], ◌∷◌, ◌++◌, length}
use Rattle.std.proofs.Common.{Contains, flat_map, set, replicate, slice_get, unwrap_or, Option, Some, None, sym, ap}
use Rattle.std.proofs.Common.{subst, refl, ◌∙◌, arith, append-nil, append_assoc}
use Rattle.std.specs.List.{fold}
use Rattle.std.specs.FinMap as map
use Rattle.std.proofs.lemmas.List.Elements.{Contains-append_left, Contains-push, Contains-push_cases}
use Rattle.std.proofs.lemmas.Option.{same_Some, none-some}
use Rattle.mako_words.specs.declared.name.Name.{Name}
use Rattle.mako_words.specs.declared.value.Value.{Value}
use Rattle.mako_words.specs.declared.value.Value.TheVariants.{Null, Ref}
use Rattle.mako_words.specs.Names.{name_cmp}
use Rattle.mako_model.specs.declared.point.Point.{Point}
use Rattle.mako_model.specs.Heaps.{Heap, fields_of, root_of, with_root, with_fields, board_name, opening, opening_roots}
use Rattle.mako_model.specs.Lawful.{IsNoRef, IsAtHand, heap_after}
use Rattle.mako_model.specs.Legal.{Facts, opening_of, state_of, AreLawful, IsLegal}
use Rattle.mako_model.specs.Dead.{made_by, names_made}
use Rattle.mako_model.specs.Laws.{HasObject, IsClosed}
use Rattle.mako_model.specs.Reachable.{StandsInField}
use Rattle.mako_model.proofs.Lists.{get_set_cases, get_replicate, cell}
use Rattle.mako_model.proofs.Lookups.{name_cases, fields_same, fields_other, fields_cases, root_cases}
use Rattle.mako_model.proofs.Changes.{Change, Nothing, Snapped, Rooted, Written, New, change_of}
use Rattle.mako_model.proofs.Histories.{kept}

-- ---- objects

pub has_new : (h : Heap) (x : Name) (fields : List Value) → HasObject (with_fields h x fields) x
has_new h x fields = (fields, fields_same h x fields)

pub has_still : (h : Heap) (x : Name) (fields : List Value) (y : Name) → HasObject h y
    → HasObject (with_fields h x fields) y
has_still h x fields y has =
    ⊎_elim (λ t. subst (HasObject (with_fields h x fields)) (sym t.0) (has_new h x fields))
    (λ t. (has.0, fields_other h x fields y t.0 ∙ has.1)) (name_cases y x)

pub has_cases : (h : Heap) (x : Name) (fields : List Value) (y : Name) → HasObject (with_fields h x fields) y → (y ≡ x)
    ⊎ HasObject h y
has_cases h x fields y has = ⊎_elim (λ t. inl t.0) (λ t. inr (has.0, t.1)) (fields_cases h x fields y has.0 has.1)

-- ---- the names made

abbrev AreObjects : List Name → Heap → Type 0
AreObjects names h = (x : Name) → Contains names x ↔ HasObject h x

same_objects : (names made : List Name) (h : Heap) → made ≡ [] → AreObjects names h → AreObjects (names ++ made) h
same_objects names made h none are =
    subst (λ m. AreObjects m h) (sym (ap (λ m. names ++ m) none ∙ append-nil names)) are

written_objects : (names : List Name) (h : Heap) (x : Name) (old fields : List Value) → fields_of h x ≡ Some old
    → AreObjects names h → AreObjects names (with_fields h x fields)
written_objects names h x old fields is are y = (
  (λ c. has_still h x fields y ((are y).0 c)),
  (λ has. ⊎_elim (λ t. (are y).1 (subst (HasObject h) (sym t) (old, is))) (λ t. (are y).1 t)
      (has_cases h x fields y has)),
)

made_objects : (names : List Name) (h : Heap) (x : Name) (fields : List Value) → AreObjects names h
    → AreObjects (names ++ x ∷ []) (with_fields h x fields)
made_objects names h x fields are y = (
  (λ c. ⊎_elim (λ t. has_still h x fields y ((are y).0 t))
      (λ t. subst (HasObject (with_fields h x fields)) t (has_new h x fields)) (Contains-push_cases names x y c)),
  (λ has. ⊎_elim (λ t. subst (Contains (names ++ x ∷ [])) (sym t) (Contains-push names x))
      (λ t. Contains-append_left names (x ∷ []) y ((are y).1 t)) (has_cases h x fields y has)),
)

more_objects : (names : List Name) (h after : Heap) (made : List Name) → Change h after made → AreObjects names h
    → AreObjects (names ++ made) after
more_objects names h after made (Nothing e none) are =
    subst (AreObjects (names ++ made)) (sym e) (same_objects names made h none are)
more_objects names h after made (Snapped e none) are =
    subst (AreObjects (names ++ made)) (sym e) (same_objects names made h none are)
more_objects names h after made (Rooted m q v root at e none) are =
    subst (AreObjects (names ++ made)) (sym e) (same_objects names made h none are)
more_objects names h after made (Written m q name fields i v refers at e none) are =
    subst (AreObjects (names ++ made)) (sym e)
    (same_objects names made (with_fields h name (set fields i v)) none
    (written_objects names h name fields (set fields i v) refers.fields_are are))
more_objects names h after made (New m' q name fields root fresh e one) are =
    let there : AreObjects (names ++ name ∷
    []) (with_root (with_fields h name (replicate fields Null)) m' q (Ref name)) =
    made_objects names h name (replicate fields Null) are in
    subst (AreObjects (names ++ made)) (sym e)
    (subst (λ m. AreObjects (names ++ m) (with_root (with_fields h name (replicate fields Null)) m' q (Ref name)))
    (sym one) there)

objects_along : (names : List Name) (h : Heap) (points : List Point) → AreLawful h points → AreObjects names h
    → AreObjects (names ++ flat_map made_by points) (fold heap_after h points)
objects_along names h [] all are = subst (λ m. AreObjects m h) (sym (append-nil names)) are
objects_along names h (p ∷ points) all are =
    subst (λ m. AreObjects m (fold heap_after (heap_after h p) points))
    (append_assoc names (made_by p) (flat_map made_by points))
    (objects_along (names ++ made_by p) (heap_after h p) points all.1
    (more_objects names h (heap_after h p) (made_by p) (change_of h p all.0) are))

pub empty_has : (h : Heap) (x : Name) → h.objects ≡ map.empty → HasObject h x → ⊥
empty_has h x e has = none-some has.0 (sym (map.get-empty name_cmp x) ∙ ap (λ o. map.get o x) (sym e) ∙ has.1)

none_contains : (x : Name) → Contains [] x → ⊥
none_contains x c = let l : c.0 < 0 = c.1 in omega arith

opening_objects : (w : Facts) → AreObjects (board_name ∷ []) (opening_of w)
opening_objects w x =
    let bare : Heap = record { objects = map.empty; roots = (opening_of w).roots; snaps = 0; cycles = w.cycles } in (
      (λ c. ⊎_elim (λ t. absurd (none_contains x t))
          (λ t. subst (HasObject (opening_of w)) t (has_new bare board_name (replicate w.board Null)))
          (Contains-push_cases [] board_name x c)),
      (λ has. ⊎_elim (λ t. subst (Contains (board_name ∷ [])) (sym t) (Contains-push [] board_name))
          (λ t. absurd (empty_has bare x refl t)) (has_cases bare board_name (replicate w.board Null) x has)),
    )

-- in a legal history the names made are those of the objects
pub made_are_objects : (w : Facts) (history : List Point) → IsLegal w history → (x : Name)
    → Contains (names_made history) x ↔ HasObject (state_of w history) x
made_are_objects w history legal = objects_along (board_name ∷ []) (opening_of w) history legal (opening_objects w)

-- ---- closed heaps

pub no_null_ref : (x : Name) → Null ≡ Ref x → ⊥
no_null_ref x e = cc

pub same_ref : (x y : Name) → Ref x ≡ Ref y → x ≡ y
same_ref x y e = cc

-- the only name in the roots of the opening
opening_root : (mutators roots m q : ℕ) (x : Name) → cell (replicate mutators (opening_roots roots)) m q ≡ Some (Ref x)
    → board_name ≡ x
opening_root zero roots m q x e = absurd (none-some (Ref x) e)
opening_root (suc mutators) roots zero zero x e = same_ref board_name x (same_Some (Ref board_name) (Ref x) e)
opening_root (suc mutators) roots zero (suc q) x e = absurd (no_null_ref x (get_replicate (roots - 1) q Null (Ref x) e))
opening_root (suc mutators) roots (suc m) q x e = opening_root mutators roots m q x e

-- a value at hand names an object
pub hand_has : (h : Heap) (v : Value) (x : Name) → IsClosed h → IsAtHand h v → v ≡ Ref x → HasObject h x
hand_has h v x closed at e =
    ⊎_elim (λ plain. absurd (subst IsNoRef e plain))
    (λ held. ⊎_elim (λ t. closed.roots t.0 t.1 x (t.2 ∙ ap (λ (u : Value). Some u) e))
    (λ t. closed.fields t.3.0 x (t.3.1, t.2, t.3.2.fields_are, t.3.3 ∙ ap (λ (u : Value). Some u) e)) held) at

closed_rooted : (h : Heap) (m q : ℕ) (v : Value) → IsClosed h → ((x : Name) → v ≡ Ref x → HasObject h x)
    → IsClosed (with_root h m q v)
closed_rooted h m q v closed names = record {
  roots = λ n p x e. ⊎_elim (λ t. names x t.2) (λ t. closed.roots n p x t) (root_cases h m q n p v (Ref x) e);
  fields = closed.fields;
}

-- an object whose fields name objects
closed_written : (h : Heap) (x : Name) (fields : List Value) → IsClosed h
    → ((i : ℕ) (y : Name) → slice_get fields i ≡ Some (Ref y) → HasObject h y) → IsClosed (with_fields h x fields)
closed_written h x fields closed names = record {
  roots = λ m q y e. has_still h x fields y (closed.roots m q y e);
  fields = λ object y at. has_still h x fields y (
      ⊎_elim (λ t. names at.1 y (ap (λ (fs : List Value). slice_get fs at.1) t.1 ∙ at.3))
      (λ t. closed.fields object y (at.0, at.1, t.1, at.3)) (fields_cases h x fields object at.0 at.2));
}

closed_changed : (h after : Heap) (made : List Name) → Change h after made → IsClosed h → IsClosed after
closed_changed h after made (Nothing e none) closed = subst IsClosed (sym e) closed
closed_changed h after made (Snapped e none) closed =
    subst IsClosed (sym e) (record { roots = closed.roots; fields = closed.fields })
closed_changed h after made (Rooted m q v root at e none) closed =
    subst IsClosed (sym e) (closed_rooted h m q v closed (λ x is. hand_has h v x closed at is))
closed_changed h after made (Written m q name fields i v refers at e none) closed =
    subst IsClosed (sym e) (closed_written h name (set fields i v) closed (λ j y is.
    ⊎_elim (λ t. hand_has h v y closed at t.1) (λ t. closed.fields name y (fields, j, refers.fields_are, t.1))
    (get_set_cases fields i j v (Ref y) is)))
closed_changed h after made (New m q name fields root fresh e one) closed =
    let nulls = replicate fields Null in
    subst IsClosed (sym e) (closed_rooted (with_fields h name nulls) m q (Ref name)
    (closed_written h name nulls closed (λ i y is. absurd (no_null_ref y (get_replicate fields i Null (Ref y) is))))
    (λ x is. subst (HasObject (with_fields h name nulls)) (same_ref name x is) (has_new h name nulls)))

-- the opening is closed
pub opening_closed : (mutators roots board cycles : ℕ) → IsClosed (opening mutators roots board cycles)
opening_closed mutators roots board cycles =
    let h = opening mutators roots board cycles in
    let bare : Heap = record { objects = map.empty; roots = h.roots; snaps = 0; cycles = cycles } in
    let nulls : List Value = replicate board Null in record {
      roots = λ m q x e. subst (HasObject h) (opening_root mutators roots m q x e) (has_new bare board_name nulls);
      fields = λ object y at. ⊎_elim
          (λ t. absurd (no_null_ref y
          (get_replicate board at.1 Null (Ref y) (ap (λ (fs : List Value). slice_get fs at.1) t.1 ∙ at.3))))
          (λ t. absurd (empty_has bare object refl (at.0, t.1))) (fields_cases bare board_name nulls object at.0 at.2);
    }

-- ---- closed heaps by their parts

pub closed_open : (objects : map.FinMap name_cmp (List Value)) (table : List (List Value))
    (mutators roots board cycles : ℕ) → objects ≡ (opening mutators roots board cycles).objects
    → table ≡ (opening mutators roots board cycles).roots
    → IsClosed (record { objects = objects; roots = table; snaps = 0; cycles = cycles })
closed_open objects table mutators roots board cycles e f =
    let same : record {
      objects = objects;
      roots = table;
      snaps = 0;
      cycles = cycles;
    } ≡ opening mutators roots board cycles = λ i. record {
      objects = e i;
      roots = f i;
      snaps = 0;
      cycles = cycles;
    } in
    subst IsClosed (sym same) (opening_closed mutators roots board cycles)

pub closed_set : (h : Heap) (table : List (List Value)) (m q : ℕ) (v : Value) → IsClosed h
    → ((x : Name) → v ≡ Ref x → HasObject h x) → table ≡ (with_root h m q v).roots
    → IsClosed (record h { roots = table })
closed_set h table m q v closed names e =
    subst (λ (t : List (List Value)). IsClosed (record h { roots = t })) (sym e) (closed_rooted h m q v closed names)

stands_at : (h : Heap) (object x : Name) (o : Option (List Value)) → fields_of h object ≡ o → (i : ℕ)
    → slice_get (unwrap_or o []) i ≡ Some (Ref x) → StandsInField h object x
stands_at h object x None e i is = absurd (none-some (Ref x) is)
stands_at h object x (Some fields) e i is = (fields, i, e, is)

pub closed_put : (h : Heap) (objects : map.FinMap name_cmp (List Value)) (name : Name) (field m from : ℕ) (v : Value)
    → IsClosed h → root_of h m from ≡ Some v
    → objects ≡ (with_fields h name (set (unwrap_or (fields_of h name) []) field v)).objects
    → IsClosed (record h { objects = objects })
closed_put h objects name field m from v closed is e =
    let fields = unwrap_or (fields_of h name) [] in
    subst (λ (o : map.FinMap name_cmp (List Value)). IsClosed (record h { objects = o })) (sym e)
    (closed_written h name (set fields field v) closed (λ j y at.
    ⊎_elim (λ t. closed.roots m from y (is ∙ ap (λ (u : Value). Some u) t.1))
    (λ t. closed.fields name y (stands_at h name y (fields_of h name) refl j t.1))
    (get_set_cases fields field j v (Ref y) at)))

pub closed_made : (h : Heap) (objects : map.FinMap name_cmp (List Value)) (table : List (List Value)) (name : Name)
    (fields : List Value) (n m q : ℕ) → IsClosed h → fields ≡ replicate n Null
    → objects ≡ (with_fields h name fields).objects → table ≡ (with_root h m q (Ref name)).roots
    → IsClosed (record h { objects = objects; roots = table })
closed_made h objects table name fields n m q closed nulls e f =
    let g = with_fields h name (replicate n Null) in
    let made = closed_written h name (replicate n Null) closed
    (λ i y is. absurd (no_null_ref y (get_replicate n i Null (Ref y) is))) in
    let there : objects ≡ g.objects = e ∙ ap (λ (fs : List Value). map.insert h.objects name fs) nulls in
    subst (λ (o : map.FinMap name_cmp (List Value)). IsClosed (record h { objects = o; roots = table })) (sym there)
    (closed_set g table m q (Ref name) made
    (λ x is. subst (HasObject g) (same_ref name x is) (has_new h name (replicate n Null))) f)

-- in a legal history each name that stands in a root or a field is that of an object
pub closed_heap : (w : Facts) (history : List Point) → IsLegal w history → IsClosed (state_of w history)
closed_heap w history legal =
    kept IsClosed (λ h p lawful closed. closed_changed h (heap_after h p) (made_by p)
    (change_of h p lawful) closed) w history legal (opening_closed (length w.programs) w.roots w.board w.cycles)
