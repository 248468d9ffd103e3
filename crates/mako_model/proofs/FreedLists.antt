-- The names that a cycle freed are one list.
use Rattle.std.proofs.Common.{◌≡◌, ℕ, ◌<◌, ◌⊎◌, inl, inr, ⊎_elim, List, [], ◌∷◌, Contains, Less, Equal, sym, subst, ap}
use Rattle.std.proofs.Common.{refl, ◌∙◌, arith}
use Rattle.std.specs.List.Sorted.{IsStrictlySortedBy}
use Rattle.std.specs.Ordering.{ordering_reverse}
use Rattle.std.proofs.lemmas.Cmp.{tied_itself}
use Rattle.std.proofs.lemmas.List.Elements.{All-contains, Contains-append_right}
use Rattle.std.proofs.lemmas.Map.Keys.{sorted_tail}
use Rattle.std.proofs.lemmas.Map.Made.{Contains-tail}
use Rattle.std.proofs.lemmas.Map.Views.{All-after_first}
use Rattle.mako_words.specs.declared.name.Name.{Name}
use Rattle.mako_words.specs.Names.{name_cmp}
use Rattle.mako_words.proofs.NamesInOrder.{names_total}
use Rattle.mako_model.specs.Legal.{Facts}
use Rattle.mako_model.specs.declared.point.Point.{Point}
use Rattle.mako_model.specs.Dead.{AreFreed}
use Rattle.mako_model.proofs.Lookups.{name_cases}

less_after : (x : Name) (xs : List Name) (z : Name) → IsStrictlySortedBy name_cmp (x ∷ xs) → Contains xs z
    → name_cmp x z ≡ Less
less_after x xs z rising c = All-contains (λ q. name_cmp x q ≡ Less) xs z (All-after_first name_cmp x xs rising) c

not_less : (x : Name) → name_cmp x x ≡ Less → ⊥
not_less x e = let same : name_cmp x x ≡ Equal = tied_itself names_total x in cc

not_both : (x y : Name) → name_cmp x y ≡ Less → name_cmp y x ≡ Less → ⊥
not_both x y e f = let turned = names_total.antisymm x y ∙ ap ordering_reverse f in cc

pub first_in : (x : Name) (xs : List Name) → Contains (x ∷ xs) x
first_in x xs = (0, omega arith, refl)

pub rest_in : (x : Name) (xs : List Name) (z : Name) → Contains xs z → Contains (x ∷ xs) z
rest_in x xs z c = Contains-append_right (x ∷ []) xs z c

first_or_less : (x y : Name) (ys : List Name) → IsStrictlySortedBy name_cmp (y ∷ ys) → Contains (y ∷ ys) x → (x ≡ y)
    ⊎ (name_cmp y x ≡ Less)
first_or_less x y ys rising c = ⊎_elim (λ t. inl t.0) (λ t. let n = t.0 in
    inr (less_after y ys x rising (Contains-tail y ys x (λ e. n (sym e)) c))) (name_cases x y)

same_first : (x y : Name) (xs ys : List Name) → IsStrictlySortedBy name_cmp (x ∷ xs)
    → IsStrictlySortedBy name_cmp (y ∷ ys) → Contains (y ∷ ys) x → Contains (x ∷ xs) y → x ≡ y
same_first x y xs ys a b c d =
    ⊎_elim (λ e. e) (λ e. ⊎_elim (λ f. sym f) (λ f. absurd (not_both x y f e)) (first_or_less y x xs a d))
    (first_or_less x y ys b c)

-- what is in one rest is in the other
rest_of : (x y : Name) (xs ys : List Name) → IsStrictlySortedBy name_cmp (x ∷ xs) → x ≡ y
    → ((z : Name) → Contains (x ∷ xs) z → Contains (y ∷ ys) z) → (z : Name) → Contains xs z → Contains ys z
rest_of x y xs ys a e to z c =
    Contains-tail y ys z (λ f. not_less x (subst (λ q. name_cmp x q ≡ Less) (sym (e ∙ f)) (less_after x xs z a c)))
    (to z (rest_in x xs z c))

-- rising lists with the same names are one
pub rising_once : (xs ys : List Name) → IsStrictlySortedBy name_cmp xs → IsStrictlySortedBy name_cmp ys
    → ((x : Name) → Contains xs x → Contains ys x) → ((x : Name) → Contains ys x → Contains xs x) → xs ≡ ys
rising_once [] [] a b to back = refl
rising_once [] (y ∷ ys) a b to back = let c = back y (first_in y ys) in let l : c.0 < 0 = c.1 in absurd (omega arith)
rising_once (x ∷ xs) [] a b to back = let c = to x (first_in x xs) in let l : c.0 < 0 = c.1 in absurd (omega arith)
rising_once (x ∷ xs) (y ∷ ys) a b to back =
    let e : x ≡ y = same_first x y xs ys a b (to x (first_in x xs)) (back y (first_in y ys)) in
    let rest : xs ≡ ys =
    rising_once xs ys (sorted_tail name_cmp x xs a) (sorted_tail name_cmp y ys b) (rest_of x y xs ys a e to)
    (rest_of y x ys xs b (sym e) back) in
    λ i. e i ∷ rest i

pub freed_once : (w : Facts) (history : List Point) (cycle : ℕ) (a b : List Name) → AreFreed w history cycle a
    → AreFreed w history cycle b → a ≡ b
freed_once w history cycle a b x y =
    rising_once a b x.rising y.rising (λ n c. (y.each n).1 ((x.each n).0 c)) (λ n c. (x.each n).1 ((y.each n).0 c))
