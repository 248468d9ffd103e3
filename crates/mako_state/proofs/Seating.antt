-- The lists of facets after the step of one seat.
use Rattle.std.proofs.Common.{◌≡◌, ℕ, zero, suc, List, [], ◌∷◌, map, set, slice_get, Some, sym, ap, refl, ◌∙◌}
use Rattle.std.proofs.lemmas.List.{map-set}
use Rattle.std.proofs.lemmas.Option.{same_Some, none-some}

-- an element written back
pub set_again : {A : Type 0} (xs : List A) (i : ℕ) (a : A) → slice_get xs i ≡ Some a → set xs i a ≡ xs
set_again [] i a e = refl
set_again (x ∷ xs) zero a e = ap (λ b. b ∷ xs) (sym (same_Some x a e))
set_again (x ∷ xs) (suc i) a e = ap (λ l. x ∷ l) (set_again xs i a e)

module _ {A B : Type 0} (f : A → B) where
  pub map_at : (xs : List A) (i : ℕ) (a : A) → slice_get xs i ≡ Some a → slice_get (map f xs) i ≡ Some (f a)
  map_at [] i a e = absurd (none-some a e)
  map_at (x ∷ xs) zero a e = ap (λ b. Some (f b)) (same_Some x a e)
  map_at (x ∷ xs) (suc i) a e = map_at xs i a e

  -- the facets where one seat's becomes b
  pub map_to : (xs : List A) (i : ℕ) (a : A) (b : B) → f a ≡ b → map f (set xs i a) ≡ set (map f xs) i b
  map_to xs i a b e = map-set f xs i a ∙ ap (set (map f xs) i) e

  -- and where it stays
  pub map_kept : (xs : List A) (i : ℕ) (a b : A) → slice_get xs i ≡ Some a → f b ≡ f a → map f (set xs i b) ≡ map f xs
  map_kept xs i a b here e = map_to xs i b (f a) e ∙ set_again (map f xs) i (f a) (map_at xs i a here)
