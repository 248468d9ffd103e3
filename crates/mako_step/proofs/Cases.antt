-- Cases by a test on numbers.
use Rattle.std.proofs.Common.{◌≡◌, ◌≢◌, ℕ, suc, arith, ◌<◌, ◌≤◌, ◌==◌, Bool, true, false, nat_lt, nat_le, inl, inr}
use Rattle.std.proofs.Common.{subst, sym, refl, if◌then◌else◌}
use Rattle.std.proofs.lemmas.Bool.Decides.{leb_tells, eqb_tells}

pub by_le : (P : Bool → Type 0) (a b : ℕ) → (a ≤ b → P true) → (b < a → P false) → P (nat_le a b)
by_le P a b below above = elim (leb_tells a b) [
  | inl h ↦ subst P (sym h.0) (below h.1)
  | inr h ↦ subst P (sym h.0) (above h.1)
]

pub by_lt : (P : Bool → Type 0) (a b : ℕ) → (a < b → P true) → (b ≤ a → P false) → P (nat_lt a b)
by_lt P a b below above = by_le P (suc a) b below (λ h. above (omega (arith, h)))

pub by_eq : (P : Bool → Type 0) (a b : ℕ) → (a ≡ b → P true) → (a ≢ b → P false) → P (a == b)
by_eq P a b same other = elim (eqb_tells a b) [
  | inl h ↦ subst P (sym h.0) (same h.1)
  | inr h ↦ subst P (sym h.0) (other h.1)
]

pub by_bool : (P : Bool → Type 0) (b : Bool) → (b ≡ true → P true) → (b ≡ false → P false) → P b
by_bool P b yes_ no_ = elim b as (λ v. b ≡ v → P v) [ true ↦ yes_ | false ↦ no_ ] refl

-- the same, at a choice of two values
pub when_le : {A : Type 0} (P : A → Type 0) (x y : A) (a b : ℕ) → (a ≤ b → P x) → (b < a → P y)
    → P (if nat_le a b then x else y)
when_le P x y a b = by_le (λ v. P (if v then x else y)) a b

pub when_lt : {A : Type 0} (P : A → Type 0) (x y : A) (a b : ℕ) → (a < b → P x) → (b ≤ a → P y)
    → P (if nat_lt a b then x else y)
when_lt P x y a b = by_lt (λ v. P (if v then x else y)) a b

pub when_eq : {A : Type 0} (P : A → Type 0) (x y : A) (a b : ℕ) → (a ≡ b → P x) → (a ≢ b → P y)
    → P (if a == b then x else y)
when_eq P x y a b = by_eq (λ v. P (if v then x else y)) a b

pub when_test : {A : Type 0} (P : A → Type 0) (x y : A) (b : Bool) → (b ≡ true → P x) → (b ≡ false → P y)
    → P (if b then x else y)
when_test P x y b = by_bool (λ v. P (if v then x else y)) b
