-- Lists read by `get_elem?`, and a sum over a list of which one item changes.
use Rattle.std.proofs.Common.{◌≡◌, ◌≢◌, ℕ, zero, suc, ◌+◌, ◌<◌, ◌≤◌, List, [], ◌∷◌, length, set, get_or, sum_by, sym}
use Rattle.std.proofs.Common.{refl, ap, ◌∙◌, subst, arith}
use mathlib.Core.Option.{some, some-injective, some-ne-none}
use lib.ListN.{get_elem?}
use Rattle.atomic_table.proofs.Lists.{set_else}
use Rattle.std.proofs.lemmas.List.Sums.{sum_by-set, get_or-le-sum_by}

module _ {A : Type 0} where
  pub there_below : (l : List A) (i : ℕ) (a : A) → get_elem? l i ≡ some a → i < length l
  there_below [] i a e = absurd (some-ne-none a (sym e))
  there_below (x ∷ xs) zero a e = omega arith
  there_below (x ∷ xs) (suc i) a e = let h = there_below xs i a e in omega arith

  pub index_of : (l : List A) (i : ℕ) (a d : A) → get_elem? l i ≡ some a → get_or l i d ≡ a
  index_of [] i a d e = absurd (some-ne-none a (sym e))
  index_of (x ∷ xs) zero a d e = some-injective x a e
  index_of (x ∷ xs) (suc i) a d e = index_of xs i a d e

  pub sum_by-set_at : (f : A → ℕ) (l : List A) (i : ℕ) (a b : A) → get_elem? l i ≡ some a
      → sum_by f (set l i b) + f a ≡ sum_by f l + f b
  sum_by-set_at f l i a b e =
      subst (λ x. sum_by f (set l i b) + f x ≡ sum_by f l + f b) (index_of l i a a e)
      (sum_by-set f l i b a (there_below l i a e))

  pub at_most_sum_by : (f : A → ℕ) (l : List A) (i : ℕ) (a : A) → get_elem? l i ≡ some a → f a ≤ sum_by f l
  at_most_sum_by f l i a e =
      subst (λ x. f x ≤ sum_by f l) (index_of l i a a e) (get_or-le-sum_by f l i a (there_below l i a e))

  -- two items weigh no more than all do
  pub two_of_sum_by : (f : A → ℕ) (z : A) → f z ≡ 0 → (l : List A) (i j : ℕ) (a b : A) → j ≢ i → get_elem? l i ≡ some a
      → get_elem? l j ≡ some b → f a + f b ≤ sum_by f l
  two_of_sum_by f z none l i j a b ne ea eb =
      let s = sum_by-set_at f l i a z ea in let t = at_most_sum_by f (set l i z) j b (set_else l i j z ne ∙ eb) in
      omega (arith, s, t, none)

  pub set_get : (l : List A) (i : ℕ) (d : A) → set l i (get_or l i d) ≡ l
  set_get [] i d = refl
  set_get (x ∷ xs) zero d = refl
  set_get (x ∷ xs) (suc i) d = ap (λ (ys : List A). x ∷ ys) (set_get xs i d)
