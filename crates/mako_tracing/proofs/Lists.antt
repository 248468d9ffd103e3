-- Lists in which what stands is stored again, and a list's last element.
use Rattle.std.proofs.Common.{◌≡◌, ℕ, zero, suc, ◌-◌, ◌==◌, if◌then◌else◌, Bool, true, false, List, [], ◌∷◌, ◌++◌}
use Rattle.std.proofs.Common.{length, take, get_or, set, slice_get, slice_index, Some, sym, ap, refl, arith}
use Rattle.std.proofs.lemmas.Bool.Decides.{nat_tests}
use Rattle.std.proofs.lemmas.Option.{same_Some}

-- what stands at a place, stored there again
pub set_back : {A : Type 0} (xs : List A) (i : ℕ) (x : A) → slice_get xs i ≡ Some x → set xs i x ≡ xs
set_back [] i x at = refl
set_back (y ∷ ys) zero x at = ap (λ z. z ∷ ys) (sym (same_Some y x at))
set_back (y ∷ ys) (suc i) x at = ap (λ zs. y ∷ zs) (set_back ys i x at)

-- a choice by a test of two numbers
pub if_same : {A : Type 0} (i k : ℕ) (x y : A) → i ≡ k → (if i == k then x else y) ≡ x
if_same i k x y e = on (i == k) refl
  where
    on : (b : Bool) → (i == k) ≡ b → (if b then x else y) ≡ x
    on true t = refl
    on false t = absurd (grind (arith, nat_tests))

pub if_other : {A : Type 0} (i k : ℕ) (x y : A) → ¬ (i ≡ k) → (if i == k then x else y) ≡ y
if_other i k x y d = on (i == k) refl
  where
    on : (b : Bool) → (i == k) ≡ b → (if b then x else y) ≡ y
    on true t = absurd (d (grind (arith, nat_tests)))
    on false t = refl

no_more : (xs : List ℕ) → length xs ≡ 0 → xs ≡ []
no_more [] e = refl
no_more (x ∷ xs) e = absurd (omega arith)

last_of : (xs : List ℕ) (k : ℕ) → length xs ≡ suc k → xs ≡ take k xs ++ get_or xs k 0 ∷ []
last_of [] k e = absurd (omega arith)
last_of (x ∷ xs) zero e = ap (λ zs. x ∷ zs) (no_more xs (omega arith))
last_of (x ∷ xs) (suc k) e = ap (λ zs. x ∷ zs) (last_of xs k (omega arith))

-- a list that is not empty is its front and its last element
pub front_and_last : (xs : List ℕ) → (length xs == 0) ≡ false
    → xs ≡ take (length xs - 1) xs ++ slice_index xs (length xs - 1) ∷ []
front_and_last xs some =
    let e : length xs ≡ suc (length xs - 1) = grind (arith, nat_tests) in last_of xs (length xs - 1) e
