-- Lists read by index, after one write.
use Rattle.std.proofs.Common.{◌≡◌, ◌≢◌, ℕ, zero, suc, ◌+◌, ◌<◌, ◌≤◌, ◌⊎◌, inl, inr, ⊎_elim, List, [], ◌∷◌, set, Some}
use Rattle.std.proofs.Common.{ap, refl, arith}
use Rattle.std.specs.Prelude.{slice_get, sum_by}
use Rattle.std.proofs.lemmas.Bool.{cases_lt}
use Rattle.std.proofs.lemmas.Option.{same_Some, none-some, slice_get_within, get_or_from_slice_get}
use Rattle.std.proofs.lemmas.List.Sums.{sum_by-set, sum_by-cons, get_or-le-sum_by}

module _ {A : Type 0} where
  -- an element after a write is the one written, or an older one at another place
  pub at_set : (xs : List A) (i j : ℕ) (a b : A) → slice_get (set xs i a) j ≡ Some b → ((j ≡ i) × (a ≡ b))
      ⊎ ((j ≢ i) × (slice_get xs j ≡ Some b))
  at_set [] i j a b e = absurd (none-some b e)
  at_set (x ∷ xs) zero zero a b e = inl (refl, same_Some a b e)
  at_set (x ∷ xs) zero (suc j) a b e = inr ((λ h. omega arith), e)
  at_set (x ∷ xs) (suc i) zero a b e = inr ((λ h. omega arith), e)
  at_set (x ∷ xs) (suc i) (suc j) a b e = ⊎_elim (λ t. inl (ap suc t.0, t.1)) (λ t. let n = t.0 in
      inr ((λ h. n (omega arith)), t.1)) (at_set xs i j a b e)

  pub set_at : (xs : List A) (i : ℕ) (a b : A) → slice_get xs i ≡ Some a → slice_get (set xs i b) i ≡ Some b
  set_at [] i a b e = absurd (none-some a e)
  set_at (x ∷ xs) zero a b e = refl
  set_at (x ∷ xs) (suc i) a b e = set_at xs i a b e

  pub set_past : (xs : List A) (i j : ℕ) (a b : A) → j ≢ i → slice_get xs j ≡ Some b → slice_get (set xs i a) j ≡ Some b
  set_past [] i j a b d e = e
  set_past (x ∷ xs) zero zero a b d e = absurd (d refl)
  set_past (x ∷ xs) zero (suc j) a b d e = e
  set_past (x ∷ xs) (suc i) zero a b d e = e
  set_past (x ∷ xs) (suc i) (suc j) a b d e = set_past xs i j a b (λ h. d (ap suc h)) e

  -- a sum after a write
  pub sum_at : (f : A → ℕ) (xs : List A) (i : ℕ) (a b : A) → slice_get xs i ≡ Some a
      → sum_by f (set xs i b) + f a ≡ sum_by f xs + f b
  sum_at f xs i a b e =
      let s = sum_by-set f xs i b a (slice_get_within xs i a e) in
      rw (get_or_from_slice_get xs i a a e) at s

  pub le_sum : (f : A → ℕ) (xs : List A) (i : ℕ) (a : A) → slice_get xs i ≡ Some a → f a ≤ sum_by f xs
  le_sum f xs i a e = let s = get_or-le-sum_by f xs i a (slice_get_within xs i a e) in
      rw (get_or_from_slice_get xs i a a e) at s

  -- two elements of a sum
  pub two_at : (f : A → ℕ) (xs : List A) (i j : ℕ) (a b : A) → i ≢ j → slice_get xs i ≡ Some a → slice_get xs j ≡ Some b
      → f a + f b ≤ sum_by f xs
  two_at f [] i j a b d e h = absurd (none-some a e)
  two_at f (x ∷ xs) zero zero a b d e h = absurd (d refl)
  two_at f (x ∷ xs) zero (suc j) a b d e h =
      let c = sum_by-cons f x xs in let s = le_sum f xs j b h in let same = ap f (same_Some x a e) in omega arith
  two_at f (x ∷ xs) (suc i) zero a b d e h =
      let c = sum_by-cons f x xs in let s = le_sum f xs i a e in let same = ap f (same_Some x b h) in omega arith
  two_at f (x ∷ xs) (suc i) (suc j) a b d e h =
      let c = sum_by-cons f x xs in let r = two_at f xs i j a b (λ s. d (ap suc s)) e h in omega arith

  -- a sum that is not 0 has an element that is not
  pub some_term : (f : A → ℕ) (xs : List A) → 0 < sum_by f xs → (i : ℕ) × (a : A) × (slice_get xs i ≡ Some a)
      × (0 < f a)
  some_term f [] h = absurd (omega arith)
  some_term f (x ∷ xs) h = elim (cases_lt 0 (f x)) [
    | inl l ↦ (0, x, refl, l)
    | inr z ↦ (let c = sum_by-cons f x xs in let r = some_term f xs (omega arith) in (suc r.0, r.1, r.2, r.3))
  ]

  -- a sum whose terms are at most 1, and 0 from this place on
  pub sum_seated : (f : A → ℕ) (xs : List A) (most : ℕ) → ((x : A) → f x ≤ 1) →
      ((i : ℕ) (a : A) → slice_get xs i ≡ Some a → 1 ≤ f a → i < most) → sum_by f xs ≤ most
  sum_seated f [] most one below = omega arith
  sum_seated f (x ∷ xs) zero one below =
      let c = sum_by-cons f x xs in
      let r = sum_seated f xs zero one (λ i a e h. let l = below (suc i) a e h in absurd (omega arith)) in
      elim (cases_lt 0 (f x)) [ inl l ↦ absurd (let q = below 0 x refl l in omega arith) | inr z ↦ omega arith ]
  sum_seated f (x ∷ xs) (suc most) one below =
      let c = sum_by-cons f x xs in
      let r = sum_seated f xs most one (λ i a e h. let l = below (suc i) a e h in omega arith) in
      omega (arith, one x)

  -- a sum of terms that are all 0
  pub sum_none : (f : A → ℕ) (xs : List A) → ((i : ℕ) (a : A) → slice_get xs i ≡ Some a → f a ≡ 0) → sum_by f xs ≡ 0
  sum_none f [] none = refl
  sum_none f (x ∷ xs) none =
      let c = sum_by-cons f x xs in
      let r = sum_none f xs (λ i a e. none (suc i) a e) in
      let z = none 0 x refl in
      omega arith

  -- with all terms of one sum those of the other are 0
  pub none_along : (f g : A → ℕ) → ((x : A) → f x ≡ 0 → g x ≡ 0) → (xs : List A) → sum_by f xs ≡ 0 → sum_by g xs ≡ 0
  none_along f g h [] e = refl
  none_along f g h (x ∷ xs) e =
      let a = sum_by-cons f x xs in
      let b = sum_by-cons g x xs in
      let c = h x (omega arith) in
      let r = none_along f g h xs (omega arith) in
      omega arith
