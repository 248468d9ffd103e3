-- What a filter keeps.
use Rattle.std.proofs.Common.{◌≡◌, ◌↔◌, ◌<◌, ◌⊎◌, inl, inr, ⊎_elim, Bool, true, false, not, List, [], ◌∷◌, Contains}
use Rattle.std.proofs.Common.{IsTrue, cond, refl, sym, subst, arith}
use Rattle.std.specs.BTreeSet.{BTreeSet, contains}
use Rattle.std.specs.List.{filter}
use Rattle.std.proofs.lemmas.List.Elements.{Contains-append_right, Contains-append_cases, Contains-push_cases}
use Rattle.mako_words.specs.declared.name.Name.{Name}
use Rattle.mako_words.specs.Names.{name_cmp}

module _ {A : Type 0} where
  pub first_in : (x : A) (xs : List A) → Contains (x ∷ xs) x
  first_in x xs = (0, omega arith, refl)

  pub rest_in : (x : A) (xs : List A) (z : A) → Contains xs z → Contains (x ∷ xs) z
  rest_in x xs z c = Contains-append_right (x ∷ []) xs z c

  -- an element is the first or in the rest
  pub in_cases : (x : A) (xs : List A) (z : A) → Contains (x ∷ xs) z → (x ≡ z) ⊎ Contains xs z
  in_cases x xs z c = ⊎_elim
      (λ t. ⊎_elim (λ s. absurd (let l : s.0 < 0 = s.1 in omega arith)) (λ s. inl s) (Contains-push_cases [] x z t))
      (λ t. inr t) (Contains-append_cases (x ∷ []) xs z c)

  pub none_in : (z : A) → Contains [] z → ⊥
  none_in z c = let l : c.0 < 0 = c.1 in omega arith

  kept_first : (p : A → Bool) (x : A) (xs : List A) (z : A) (b : Bool) → p x ≡ b → Contains (cond b (x ∷ xs) xs) z
      → ((x ≡ z) × (p z ≡ true)) ⊎ Contains xs z
  kept_first p x xs z true e c = ⊎_elim (λ t. inl (t, subst (λ y. p y ≡ true) t e)) (λ t. inr t) (in_cases x xs z c)
  kept_first p x xs z false e c = inr c

  pub kept_from : (p : A → Bool) (xs : List A) (z : A) → Contains (filter p xs) z → Contains xs z × (p z ≡ true)
  kept_from p [] z c = absurd (none_in z c)
  kept_from p (x ∷ xs) z c =
      ⊎_elim (λ t. (subst (Contains (x ∷ xs)) t.0 (first_in x xs), t.1)) (λ t. let r = kept_from p xs z t in
      (rest_in x xs z r.0, r.1)) (kept_first p x (filter p xs) z (p x) refl c)

  first_kept : (x : A) (xs : List A) (b : Bool) → b ≡ true → Contains (cond b (x ∷ xs) xs) x
  first_kept x xs true e = first_in x xs
  first_kept x xs false e = let no : ⊥ = cc in absurd no

  rest_kept : (x : A) (xs : List A) (z : A) (b : Bool) → Contains xs z → Contains (cond b (x ∷ xs) xs) z
  rest_kept x xs z true c = rest_in x xs z c
  rest_kept x xs z false c = c

  pub kept_in : (p : A → Bool) (xs : List A) (z : A) → Contains xs z → p z ≡ true → Contains (filter p xs) z
  kept_in p [] z c e = absurd (none_in z c)
  kept_in p (x ∷ xs) z c e =
      ⊎_elim (λ t. subst (Contains (filter p (x ∷ xs))) t
      (first_kept x (filter p xs) (p x) (subst (λ y. p y ≡ true) (sym t) e)))
      (λ t. rest_kept x (filter p xs) z (p x) (kept_in p xs z t e)) (in_cases x xs z c)

-- false is not true
pub false_true : false ≡ true → ⊥
false_true e = cc

not_true : (b : Bool) → not b ≡ true → b ≡ true → ⊥
not_true true e f = cc
not_true false e f = cc

true_if_not : (b : Bool) → ¬ (b ≡ true) → not b ≡ true
true_if_not true n = absurd (n refl)
true_if_not false n = refl

-- the names of a list that are not in a set, where the set has those that are so and so
pub outside_are : (names left : List Name) (set : BTreeSet Name) (P : Name → Type 0)
    → left ≡ filter (λ (name : Name). not (contains name_cmp set name)) names
    → ((name : Name) → IsTrue (contains name_cmp set name) ↔ P name) → (name : Name)
    → Contains left name ↔ (Contains names name × ¬ P name)
outside_are names left set P e is x =
    let out : Name → Bool = λ (name : Name). not (contains name_cmp set name) in (
      (λ c. let k = kept_from out names x (subst (λ l. Contains l x) e c) in
          (k.0, (λ p. not_true (contains name_cmp set x) k.1 ((is x).1 p)))),
      (λ c. subst (λ l. Contains l x) (sym e)
          (kept_in out names x c.0 (true_if_not (contains name_cmp set x) (λ t. c.1 ((is x).0 t))))),
    )
