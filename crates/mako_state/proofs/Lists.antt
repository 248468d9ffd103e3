-- A list from the place of an element on.
use Rattle.std.proofs.Common.{◌≡◌, ℕ, zero, suc, ◌+◌, List, [], ◌∷◌, drop, slice_get, Some, ap, ◌∙◌, arith}
use Rattle.std.proofs.lemmas.Option.{none-some, same_Some}

drop_suc : {A : Type 0} (xs : List A) (i : ℕ) (a : A) → slice_get xs i ≡ Some a → drop i xs ≡ a ∷ drop (suc i) xs
drop_suc [] i a e = absurd (none-some a e)
drop_suc (y ∷ ys) zero a e = ap (λ b. b ∷ ys) (same_Some y a e)
drop_suc (y ∷ ys) (suc i) a e = drop_suc ys i a e

pub drop_at : {A : Type 0} (xs : List A) (i : ℕ) (a : A) → slice_get xs i ≡ Some a → drop i xs ≡ a ∷ drop (i + 1) xs
drop_at xs i a e = drop_suc xs i a e ∙ ap (λ j. a ∷ drop j xs) (let h : suc i ≡ i + 1 = omega arith in h)
