-- A sum over names of which none stands twice depends on the names alone.
use Rattle.std.proofs.Common.{◌≡◌, ℕ, ◌+◌, ◌⊎◌, inl, inr, ⊎_elim, List, [], ◌∷◌, ◌++◌, Contains, sum_by, sym, ap, subst}
use Rattle.std.proofs.Common.{refl, ◌∙◌, arith}
use Rattle.std.proofs.lemmas.List.Sums.{sum_by-cons, sum_by-append}
use Rattle.std.proofs.lemmas.List.Elements.{Contains-append_cases, Contains-append_left, Contains-append_right}
use Rattle.mako_words.specs.declared.name.Name.{Name}
use Rattle.mako_shape.specs.declared.numbers.Numbers.{Numbers}
use Rattle.mako_model.specs.declared.point.Point.{Point}
use Rattle.mako_model.specs.Legal.{Facts, state_of}
use Rattle.mako_phases.proofs.Members.{no_member, head_or, first_in, later_in}
use Rattle.mako_phases.specs.Lives.{record_size, AreOnce, IsCounted, IsSum}

split_at : (ys : List Name) (x : Name) → Contains ys x → (a : List Name) × (b : List Name) × (ys ≡ a ++ x ∷ b)
split_at [] x c = absurd (no_member x c)
split_at (y ∷ ys) x c =
    ⊎_elim (λ e. ([], ys, λ i. e i ∷ ys))
    (λ more. let h = split_at ys x more in (y ∷ h.0, h.1, ap (λ (l : List Name). y ∷ l) h.2)) (head_or ys y x c)

-- who stands beside the one in the middle
beside : (a b : List Name) (x y : Name) → Contains (a ++ b) y → Contains (a ++ x ∷ b) y
beside a b x y c =
    ⊎_elim (λ l. Contains-append_left a (x ∷ b) y l) (λ r. Contains-append_right a (x ∷ b) y (later_in x b y r))
    (Contains-append_cases a b y c)

beside_or : (a b : List Name) (x y : Name) → Contains (a ++ x ∷ b) y → Contains (a ++ b) y ⊎ (x ≡ y)
beside_or a b x y c =
    ⊎_elim (λ l. inl (Contains-append_left a b y l))
    (λ r. ⊎_elim (λ e. inr e) (λ more. inl (Contains-append_right a b y more)) (head_or b x y r))
    (Contains-append_cases a (x ∷ b) y c)

once_split : (a b : List Name) (x : Name) → AreOnce (a ++ x ∷ b) → AreOnce (a ++ b) × (¬ Contains (a ++ b) x)
once_split [] b x once = (once.1, once.0)
once_split (k ∷ a) b x once =
    let rest = once_split a b x once.1 in (
      ((λ c. once.0 (beside a b x k c)), rest.0),
      (λ c. ⊎_elim
          (λ e. once.0 (subst (Contains (a ++ x ∷ b)) (sym e) (Contains-append_right a (x ∷ b) x (first_in x b))))
          (λ more. rest.1 more) (head_or (a ++ b) k x c)),
    )

sum_split : (f : Name → ℕ) (a b : List Name) (x : Name) → sum_by f (a ++ x ∷ b) ≡ f x + sum_by f (a ++ b)
sum_split f a b x =
    let p = sum_by-append f a (x ∷ b) in
    let q = sum_by-append f a b in
    let r = sum_by-cons f x b in
    omega arith

once_sum : (f : Name → ℕ) (xs ys : List Name) → AreOnce xs → AreOnce ys → ((y : Name) → Contains xs y → Contains ys y)
    → ((y : Name) → Contains ys y → Contains xs y) → sum_by f xs ≡ sum_by f ys
once_sum f [] [] a b to back = refl
once_sum f [] (y ∷ ys) a b to back = absurd (no_member y (back y (first_in y ys)))
once_sum f (x ∷ xs) ys a b to back =
    let h = split_at ys x (to x (first_in x xs)) in
    let parts = once_split h.0 h.1 x (subst AreOnce h.2 b) in
    let rest = once_sum f xs (h.0 ++ h.1) a.1 parts.0
    (λ y c.
    ⊎_elim (λ m. m) (λ e. absurd (a.0 (subst (Contains xs) (sym e) c)))
    (beside_or h.0 h.1 x y (subst (λ (l : List Name). Contains l y) h.2 (to y (later_in x xs y c)))))
    (λ y c.
    ⊎_elim (λ e. absurd (parts.1 (subst (Contains (h.0 ++ h.1)) (sym e) c))) (λ m. m)
    (head_or xs x y (back y (subst (λ (l : List Name). Contains l y) (sym h.2) (beside h.0 h.1 x y c))))) in
    let p = sum_split f h.0 h.1 x in
    let q = sum_by-cons f x xs in
    let r : sum_by f ys ≡ sum_by f (h.0 ++ x ∷ h.1) = ap (sum_by f) h.2 in
    omega arith

pub sums_one : (n : Numbers) (w : Facts) (words : List ℕ) (before : List Point) (cycle t a b : ℕ)
    → IsSum w before (IsCounted n words before cycle t) a → IsSum w before (IsCounted n words before cycle t) b → a ≡ b
sums_one n w words before cycle t a b x y =
    sym x.sum_is
    ∙ once_sum (record_size (state_of w before)) x.names y.names x.once y.once
    (λ z c. (y.each z).1 ((x.each z).0 c)) (λ z c. (x.each z).1 ((y.each z).0 c)) ∙ y.sum_is
