-- A search finds the reachable names and no others.
use Rattle.std.proofs.Common.{◌≡◌, ◌↔◌, ℕ, zero, suc, ◌+◌, ◌<◌, ◌≤◌, ◌⊎◌, inl, inr, ⊎_elim, Bool, true, false, cond}
use Rattle.std.proofs.Common.{List, [], ◌∷◌, ◌++◌, length, Contains, slice_get, get_or, unwrap_or, Option, Some, None}
use Rattle.std.proofs.Common.{IsTrue, sym, ap, subst, refl, ◌∙◌, arith, append-nil, append_assoc, length-append, ◌||◌}
use Rattle.std.proofs.Common.{Result, Ok, Err, is_ok, OnOk}
use Rattle.std.specs.BTreeMap.{is_at}
use Rattle.std.specs.BTreeSet.{BTreeSet, contains}
use Rattle.std.specs.List.{fold, list_any}
use Rattle.std.specs.Ordering.{eq_by_cmp}
use Rattle.std.proofs.lemmas.Bool.{cases_eq}
use Rattle.std.proofs.lemmas.Cmp.{eq_by_cmp_equiv}
use Rattle.std.proofs.lemmas.List.Folds.{list_any-append}
use Rattle.std.proofs.lemmas.List.Elements.{Contains-append_left, Contains-push, Contains-push_cases}
use Rattle.std.proofs.lemmas.Map.Views.{Contains-from_any, list_any-from_Contains}
use Rattle.std.proofs.lemmas.Option.{same_Some, none-some, slice_get_within, slice_get-get_or, get_or_from_slice_get}
use Rattle.mako_words.specs.declared.name.Name.{Name}
use Rattle.mako_words.specs.declared.value.Value.{Value}
use Rattle.mako_words.specs.declared.value.Value.TheVariants.{Null, Num, Ref}
use Rattle.mako_words.specs.Names.{name_cmp}
use Rattle.mako_words.proofs.NamesInOrder.{names_total}
use Rattle.mako_model.specs.Heaps.{Heap, fields_of, roots_of, root_of}
use Rattle.mako_model.specs.Reachable.{StandsInField, LeadsTo, IsReachable}
use Rattle.mako_model.specs.Searches.{AreSame, added, expanded, AreRootsFound, AreFieldsFound, AreReachable}
use Rattle.mako_model.proofs.DeadApart.{reached_next}
use Rattle.mako_model.proofs.Lookups.{name_cases}

no_both : {b : Bool} → b ≡ false → b ≡ true → ⊥
no_both f e = cc

row_within : {A : Type 0} (rows : List (List A)) (m q : ℕ) (v : A) → slice_get (get_or rows m []) q ≡ Some v
    → m < length rows
row_within [] m q v e = absurd (none-some v e)
row_within (row ∷ rows) zero q v e = omega arith
row_within (row ∷ rows) (suc m) q v e = let l = row_within rows m q v e in omega arith

same_names : (x y : Name) → eq_by_cmp name_cmp x y ≡ true → x ≡ y
same_names x y e = ⊎_elim (λ t. t.0) (λ t. let f = t.1 in absurd (no_both f e)) (name_cases x y)

pub in_from_any : (order : List Name) (x : Name) → list_any (eq_by_cmp name_cmp x) order ≡ true → Contains order x
in_from_any order x e = Contains-from_any same_names x order e

pub any_from_in : (order : List Name) (x : Name) → Contains order x → list_any (eq_by_cmp name_cmp x) order ≡ true
any_from_in order x c = list_any-from_Contains (eq_by_cmp_equiv names_total) x order c

-- ---- names are added behind those that are there

push_or_not : (b : Bool) (order : List Name) (x : Name) → (more : List Name)
    × (cond b order (order ++ x ∷ []) ≡ order ++ more)
push_or_not true order x = ([], sym (append-nil order))
push_or_not false order x = (x ∷ [], refl)

added_more : (order : List Name) (v : Value) → (more : List Name) × (added order v ≡ order ++ more)
added_more order Null = ([], sym (append-nil order))
added_more order (Num n) = ([], sym (append-nil order))
added_more order (Ref x) = push_or_not (list_any (eq_by_cmp name_cmp x) order) order x

pub all_more : (order : List Name) (vs : List Value) → (more : List Name) × (fold added order vs ≡ order ++ more)
all_more order [] = ([], sym (append-nil order))
all_more order (v ∷ vs) =
    let one = added_more order v in
    let rest = all_more (added order v) vs in
    (one.0 ++ rest.0, rest.1 ∙ ap (λ names. names ++ rest.0) one.1 ∙ append_assoc order one.0 rest.0)

pub still_in : (order : List Name) (vs : List Value) (x : Name) → Contains order x → Contains (fold added order vs) x
still_in order vs x c = let more = all_more order vs in
    subst (λ names. Contains names x) (sym more.1) (Contains-append_left order more.0 x c)

pushed_in : (b : Bool) (order : List Name) (x : Name) → (b ≡ true → Contains order x)
    → Contains (cond b order (order ++ x ∷ [])) x
pushed_in true order x h = h refl
pushed_in false order x h = Contains-push order x

pub all_in : (order : List Name) (vs : List Value) (i : ℕ) (x : Name) → slice_get vs i ≡ Some (Ref x)
    → Contains (fold added order vs) x
all_in order [] i x e = absurd (none-some (Ref x) e)
all_in order (v ∷ vs) zero x e =
    still_in (added order v) vs x (subst (λ u. Contains (added order u) x) (sym (same_Some v (Ref x) e))
    (pushed_in (list_any (eq_by_cmp name_cmp x) order) order x (in_from_any order x)))
all_in order (v ∷ vs) (suc i) x e = all_in (added order v) vs i x e

pushed_from : (b : Bool) (order : List Name) (y x : Name) → Contains (cond b order (order ++ y ∷ [])) x
    → Contains order x ⊎ (y ≡ x)
pushed_from true order y x c = inl c
pushed_from false order y x c = Contains-push_cases order y x c

added_from : (order : List Name) (v : Value) (x : Name) → Contains (added order v) x → Contains order x ⊎ (v ≡ Ref x)
added_from order Null x c = inl c
added_from order (Num n) x c = inl c
added_from order (Ref y) x c =
    ⊎_elim (λ t. inl t) (λ t. inr (ap (λ (z : Name). Ref z) t))
    (pushed_from (list_any (eq_by_cmp name_cmp y) order) order y x c)

pub all_from : (order : List Name) (vs : List Value) (x : Name) → Contains (fold added order vs) x → Contains order x
    ⊎ ((i : ℕ) × (slice_get vs i ≡ Some (Ref x)))
all_from order [] x c = inl c
all_from order (v ∷ vs) x c =
    ⊎_elim (λ t. ⊎_elim (λ s. inl s) (λ s. inr (0, ap (λ (u : Value). Some u) s)) (added_from order v x t))
    (λ t. inr (suc t.0, t.1)) (all_from (added order v) vs x c)

-- ---- the roots

at_or_below : (i n : ℕ) → i < n + 1 → (i ≡ n) ⊎ (i < n)
at_or_below i n l = elim (cases_eq i n) [ inl e ↦ inl e | inr e ↦ inr (omega arith) ]

pub roots_more : (h : Heap) (m : ℕ) (order : List Name) → AreRootsFound h m order
    → AreRootsFound h (m + 1) (fold added order (roots_of h m))
roots_more h m order found n q x l is =
    ⊎_elim (λ e. all_in order (roots_of h m) q x (ap (λ k. root_of h k q) (sym e) ∙ is))
    (λ less. still_in order (roots_of h m) x (found n q x less is)) (at_or_below n m l)

pub reachable_roots : (h : Heap) (m : ℕ) (order : List Name) → AreReachable h order
    → AreReachable h (fold added order (roots_of h m))
reachable_roots h m order found x c =
    ⊎_elim (λ t. found x t) (λ t. record { first = x; path = []; in_root = (m, t.0, t.1); leads = refl })
    (all_from order (roots_of h m) x c)

-- ---- the fields

pub roots_still : (h : Heap) (m : ℕ) (order : List Name) (vs : List Value) → AreRootsFound h m order
    → AreRootsFound h m (fold added order vs)
roots_still h m order vs found n q x l is = still_in order vs x (found n q x l is)

get_append : {A : Type 0} (xs ys : List A) (i : ℕ) → i < length xs → slice_get (xs ++ ys) i ≡ slice_get xs i
get_append [] ys i l = absurd (omega arith)
get_append (x ∷ xs) ys zero l = refl
get_append (x ∷ xs) ys (suc i) l = get_append xs ys i (omega arith)

pub fields_more : (h : Heap) (done : ℕ) (order : List Name) (object : Name) → AreFieldsFound h done order
    → slice_get order done ≡ Some object → AreFieldsFound h (done + 1) (expanded h order object)
fields_more h done order object found here i at x l is stands =
    let fields = unwrap_or (fields_of h object) [] in
    let more = all_more order fields in
    let within = slice_get_within order done object here in
    let old : slice_get order i ≡ Some at = sym (get_append order more.0 i (omega arith))
    ∙ ap (λ names. slice_get names i) (sym more.1) ∙ is in
    ⊎_elim
    (λ e.
    let same : at ≡ object = same_Some at object (sym old ∙ ap (slice_get order) e ∙ here) in
    all_in order fields stands.1 x (ap (λ o. slice_get (unwrap_or (fields_of h o) []) stands.1) (sym same)
    ∙ ap (λ o. slice_get (unwrap_or o []) stands.1) stands.2 ∙ stands.3))
    (λ less. still_in order fields x (found i at x less old stands)) (at_or_below i done l)

stands_in : (h : Heap) (object x : Name) (o : Option (List Value)) → fields_of h object ≡ o → (i : ℕ)
    → slice_get (unwrap_or o []) i ≡ Some (Ref x) → StandsInField h object x
stands_in h object x None e i is = absurd (none-some (Ref x) is)
stands_in h object x (Some fields) e i is = (fields, i, e, is)

pub reachable_fields : (h : Heap) (order : List Name) (object : Name) → AreReachable h order → Contains order object
    → AreReachable h (expanded h order object)
reachable_fields h order object found here x c =
    ⊎_elim (λ t. found x t)
    (λ t. reached_next h object x (found object here) (stands_in h object x (fields_of h object) refl t.0 t.1))
    (all_from order (unwrap_or (fields_of h object) []) x c)

-- ---- all of it

at_place : (order : List Name) (i : ℕ) (x : Name) → i < length order → get_or order i x ≡ x → slice_get order i ≡ Some x
at_place order i x l e = slice_get-get_or order i x l ∙ ap (λ (y : Name). Some y) e

mutator_of_root : (h : Heap) (m q : ℕ) (v : Value) → root_of h m q ≡ Some v → m < length h.roots
mutator_of_root h m q v e = row_within h.roots m q v e

led_to : (h : Heap) (order : List Name) → AreFieldsFound h (length order) order → (from x : Name) (path : List Name)
    → Contains order from → LeadsTo h from path x → Contains order x
led_to h order found from x [] c leads = subst (Contains order) leads c
led_to h order found from x (next ∷ path) c leads =
    led_to h order found next x path (found c.0 from next c.1 (at_place order c.0 from c.1 c.2) leads.0) leads.1

pub found_exactly : (h : Heap) (found : BTreeSet Name) (order : List Name) → AreSame found order
    → AreRootsFound h (length h.roots) order → AreFieldsFound h (length order) order → AreReachable h order
    → (x : Name) → IsTrue (contains name_cmp found x) ↔ IsReachable h x
found_exactly h found order same roots fields reachable x = (
  (λ t. reachable x (in_from_any order x (sym (same x) ∙ t))),
  (λ r. same x ∙ any_from_in order x
      (led_to h order fields r.first x r.path
      (roots r.in_root.0 r.in_root.1 r.first
      (mutator_of_root h r.in_root.0 r.in_root.1 (Ref r.first) r.in_root.2) r.in_root.2) r.leads)),
)

pub in_at : (order : List Name) (i : ℕ) (x : Name) → slice_get order i ≡ Some x → Contains order x
in_at order i x e = (i, slice_get_within order i x e, get_or_from_slice_get order i x x e)

-- a search goes on where it was
pub longer : (h : Heap) (order after : List Name) (object : Name) → after ≡ expanded h order object
    → length order ≤ length after
longer h order after object e =
    let more = all_more order (unwrap_or (fields_of h object) []) in
    let long = ap length (e ∙ more.1) ∙ length-append order more.0 in
    omega arith

pub fields_at_end : (h : Heap) (done : ℕ) (order : List Name) → length order ≤ done → AreFieldsFound h done order
    → AreFieldsFound h (length order) order
fields_at_end h done order l found i object x less is stands = found i object x (omega arith) is stands

-- what follows from an `Ok` holds where it is one
pub on_ok : {A E : Type 0} (r : Result A E) (P : Type 0) → (is_ok r ≡ true → P) → OnOk r P
on_ok (Ok x) P h = h refl
on_ok (Err e) P h = tt

or_last : (a b : Bool) → cond b true a ≡ (a || (b || false))
or_last true true = refl
or_last true false = refl
or_last false true = refl
or_last false false = refl

-- a set and a list with one name more
pub same_pushed : (old new : BTreeSet Name) (order : List Name) (x : Name) → AreSame old order
    → ((q : Name) → contains name_cmp new q ≡ cond (is_at (name_cmp x) q) true (contains name_cmp old q))
    → AreSame new (order ++ x ∷ [])
same_pushed old new order x same more q =
    more q ∙ ap (λ b. cond b true (contains name_cmp old q)) ((eq_by_cmp_equiv names_total).symm x q)
    ∙ ap (λ a. cond (eq_by_cmp name_cmp q x) true a) (same q)
    ∙ or_last (list_any (eq_by_cmp name_cmp q) order) (eq_by_cmp name_cmp q x)
    ∙ sym (list_any-append (eq_by_cmp name_cmp q) order (x ∷ []))
