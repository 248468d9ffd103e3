-- Where an element of a list stands, in a list that is two lists joined.
use Rattle.std.proofs.Common.{◌≡◌, ◌⊎◌, inl, inr, ⊎_elim, List, [], ◌∷◌, ◌++◌, sym, ap, refl}

module _ {A : Type 0} where
  -- it stands in the first list, or in the second
  pub split_of_append : (xs ys before : List A) (x : A) (after : List A) → xs ++ ys ≡ before ++ x ∷ after
      → ((more : List A) × (xs ≡ before ++ x ∷ more) × (after ≡ more ++ ys))
      ⊎ ((more : List A) × (before ≡ xs ++ more) × (ys ≡ more ++ x ∷ after))
  split_of_append [] ys before x after e = inr (before, refl, e)
  split_of_append (a ∷ xs) ys [] x after e =
      let head : a ≡ x = cc in let tail : after ≡ xs ++ ys = cc in
      inl (xs, ap (λ (b : A). b ∷ xs) head, tail)
  split_of_append (a ∷ xs) ys (b ∷ before) x after e =
      let head : a ≡ b = cc in let tail : xs ++ ys ≡ before ++ x ∷ after = cc in
      ⊎_elim (λ t. inl (t.0, (λ i. head i ∷ t.1 i), t.2)) (λ t. inr (t.0, (λ i. sym head i ∷ t.1 i), t.2))
      (split_of_append xs ys before x after tail)
