-- Places among ascending numbers.
use Rattle.std.proofs.Common.{◌≡◌, ℕ, zero, suc, ◌+◌, ◌<◌, ◌≤◌, true, false, List, [], ◌∷◌, length, remove, get_or}
use Rattle.std.proofs.Common.{nat_le, inl, inr, refl, ap, ◌∙◌, arith}
use Rattle.std.proofs.lemmas.Bool.Decides.{leb_tells}
use Rattle.mako_replay.specs.Schedules.{first_from}
use Rattle.mako_replay.specs.Standing.{AscendsFrom, place_from}

le_is : (a b : ℕ) → a ≤ b → nat_le a b ≡ true
le_is a b h = elim (leb_tells a b) [ inl t ↦ t.0 | inr t ↦ absurd (let u = t.1 in omega arith) ]

le_is_not : (a b : ℕ) → b < a → nat_le a b ≡ false
le_is_not a b h = elim (leb_tells a b) [ inl t ↦ absurd (let u = t.1 in omega arith) | inr t ↦ t.0 ]

-- where the first is not below i, it is the one
pub none_below : (i b : ℕ) (xs : List ℕ) → AscendsFrom b xs → i ≤ b → place_from i xs ≡ 0
none_below i b [] up low = refl
none_below i b (x ∷ xs) up low = let e = le_is i x (let u = up.0 in omega arith) in rw e

pub first_at : (i otherwise : ℕ) (xs : List ℕ) → first_from i otherwise xs ≡ get_or xs (place_from i xs) otherwise
first_at i otherwise [] = refl
first_at i otherwise (x ∷ xs) = elim (leb_tells i x) [
  | inl t ↦ let e = t.0 in rw e
  | inr t ↦ let e = t.0 in rw e (first_at i otherwise xs)
]

-- every number of the list is above the bound
pub above : (b : ℕ) (xs : List ℕ) (p : ℕ) → AscendsFrom b xs → p < length xs → b ≤ get_or xs p 0
above b [] p up low = absurd (omega arith)
above b (x ∷ xs) zero up low = up.0
above b (x ∷ xs) (suc p) up low = let h = above (x + 1) xs p up.1 (omega arith) in let u = up.0 in omega arith

-- behind the number at p stands the next
pub next_place : (b : ℕ) (xs : List ℕ) (p : ℕ) → AscendsFrom b xs → p < length xs
    → place_from (get_or xs p 0 + 1) xs ≡ p + 1
next_place b [] p up low = absurd (omega arith)
next_place b (x ∷ xs) zero up low =
    let e = le_is_not (x + 1) x (omega arith) in
    let n = none_below (x + 1) (x + 1) xs up.1 (omega arith) in
    rw e (ap suc n)
next_place b (x ∷ xs) (suc p) up low =
    let h = above (x + 1) xs p up.1 (omega arith) in
    let e = le_is_not (get_or xs p 0 + 1) x (omega arith) in
    let n = next_place (x + 1) xs p up.1 (omega arith) in
    let same : suc (p + 1) ≡ suc p + 1 = omega arith in
    rw e (ap suc n ∙ same)

-- without it the next stands at p
pub gone_place : (b : ℕ) (xs : List ℕ) (p : ℕ) → AscendsFrom b xs → p < length xs
    → place_from (get_or xs p 0 + 1) (remove xs p) ≡ p
gone_place b [] p up low = absurd (omega arith)
gone_place b (x ∷ xs) zero up low = none_below (x + 1) (x + 1) xs up.1 (omega arith)
gone_place b (x ∷ xs) (suc p) up low =
    let h = above (x + 1) xs p up.1 (omega arith) in
    let e = le_is_not (get_or xs p 0 + 1) x (omega arith) in
    let n = gone_place (x + 1) xs p up.1 (omega arith) in
    rw e (ap suc n)

-- all numbers are from 0 on
pub first_place : (xs : List ℕ) → 0 ≡ place_from 0 xs
first_place [] = refl
first_place (x ∷ xs) = let e = le_is 0 x (omega arith) in rw e
