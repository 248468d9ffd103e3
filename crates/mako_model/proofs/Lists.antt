-- Lists read by index after a write, and lists split at an element.
use Rattle.std.proofs.Common.{◌≡◌, ◌≢◌, ℕ, zero, suc, ◌<◌, ◌⊎◌, inl, inr, ⊎_elim, List, [], ◌∷◌, set, get_or, replicate}
use Rattle.std.proofs.Common.{slice_get, Option, Some, ap, refl, arith}
use Rattle.std.proofs.lemmas.Option.{same_Some, none-some}

module _ {A : Type 0} where
  pub get_set_same : (xs : List A) (i : ℕ) (x y : A) → slice_get xs i ≡ Some y → slice_get (set xs i x) i ≡ Some x
  get_set_same [] i x y e = absurd (none-some y e)
  get_set_same (a ∷ xs) zero x y e = refl
  get_set_same (a ∷ xs) (suc i) x y e = get_set_same xs i x y e

  pub get_set_other : (xs : List A) (i j : ℕ) (x : A) → j ≢ i → slice_get (set xs i x) j ≡ slice_get xs j
  get_set_other [] i j x n = refl
  get_set_other (a ∷ xs) zero zero x n = absurd (n refl)
  get_set_other (a ∷ xs) zero (suc j) x n = refl
  get_set_other (a ∷ xs) (suc i) zero x n = refl
  get_set_other (a ∷ xs) (suc i) (suc j) x n = get_set_other xs i j x (λ e. n (ap suc e))

  -- what stands anywhere after a write is what was written there, or stood there before
  pub get_set_cases : (xs : List A) (i j : ℕ) (x y : A) → slice_get (set xs i x) j ≡ Some y → ((j ≡ i) × (x ≡ y))
      ⊎ ((j ≢ i) × (slice_get xs j ≡ Some y))
  get_set_cases [] i j x y e = absurd (none-some y e)
  get_set_cases (a ∷ xs) zero zero x y e = inl (refl, same_Some x y e)
  get_set_cases (a ∷ xs) zero (suc j) x y e = inr ((λ h. omega arith), e)
  get_set_cases (a ∷ xs) (suc i) zero x y e = inr ((λ h. omega arith), e)
  get_set_cases (a ∷ xs) (suc i) (suc j) x y e =
      ⊎_elim (λ t. inl (ap suc t.0, t.1)) (λ t. let n = t.0 in
      inr ((λ h. n (omega arith)), t.1)) (get_set_cases xs i j x y e)

  -- what stands in a list of one element again and again is that element
  pub get_replicate : (n i : ℕ) (x y : A) → slice_get (replicate n x) i ≡ Some y → x ≡ y
  get_replicate zero i x y e = absurd (none-some y e)
  get_replicate (suc n) zero x y e = same_Some x y e
  get_replicate (suc n) (suc i) x y e = get_replicate n i x y e

  pub get_replicate_within : (n i : ℕ) (x : A) → i < n → slice_get (replicate n x) i ≡ Some x
  get_replicate_within zero i x l = absurd (omega arith)
  get_replicate_within (suc n) zero x l = refl
  get_replicate_within (suc n) (suc i) x l = get_replicate_within n i x (omega arith)

  -- an element of a list of lists
  abbrev pub cell : List (List A) → ℕ → ℕ → Option A
  cell rows m q = slice_get (get_or rows m []) q

  -- the list of lists with that element
  abbrev pub with_cell : List (List A) → ℕ → ℕ → A → List (List A)
  with_cell rows m q x = set rows m (set (get_or rows m []) q x)

  pub cell_same : (rows : List (List A)) (m q : ℕ) (x y : A) → cell rows m q ≡ Some y
      → cell (with_cell rows m q x) m q ≡ Some x
  cell_same [] m q x y e = absurd (none-some y e)
  cell_same (row ∷ rows) zero q x y e = get_set_same row q x y e
  cell_same (row ∷ rows) (suc m) q x y e = cell_same rows m q x y e

  pub cell_other : (rows : List (List A)) (m q n p : ℕ) (x : A) → (n ≡ m → p ≢ q)
      → cell (with_cell rows m q x) n p ≡ cell rows n p
  cell_other [] m q n p x h = refl
  cell_other (row ∷ rows) zero q zero p x h = get_set_other row q p x (h refl)
  cell_other (row ∷ rows) zero q (suc n) p x h = refl
  cell_other (row ∷ rows) (suc m) q zero p x h = refl
  cell_other (row ∷ rows) (suc m) q (suc n) p x h = cell_other rows m q n p x (λ e. h (ap suc e))

  pub cell_cases : (rows : List (List A)) (m q n p : ℕ) (x y : A) → cell (with_cell rows m q x) n p ≡ Some y
      → ((n ≡ m) × (p ≡ q) × (x ≡ y)) ⊎ (cell rows n p ≡ Some y)
  cell_cases [] m q n p x y e = absurd (none-some y e)
  cell_cases (row ∷ rows) zero q zero p x y e =
      ⊎_elim (λ t. inl (refl, t.0, t.1)) (λ t. inr t.1) (get_set_cases row q p x y e)
  cell_cases (row ∷ rows) zero q (suc n) p x y e = inr e
  cell_cases (row ∷ rows) (suc m) q zero p x y e = inr e
  cell_cases (row ∷ rows) (suc m) q (suc n) p x y e =
      ⊎_elim (λ t. inl (ap suc t.0, t.1, t.2)) (λ t. inr t) (cell_cases rows m q n p x y e)
