-- Members of lists.
use Rattle.std.proofs.Common.{◌≡◌, ◌<◌, ◌⊎◌, inl, inr, ⊎_elim, List, [], ◌∷◌, Contains, arith}
use Rattle.std.proofs.lemmas.List.Elements.{Contains-append_cases, Contains-append_left, Contains-append_right}
use Rattle.std.proofs.lemmas.List.Elements.{Contains-push, Contains-push_cases}

pub no_member : {A : Type 0} (x : A) → Contains [] x → ⊥
no_member x c = let l : c.0 < 0 = c.1 in omega arith

pub head_or : {A : Type 0} (xs : List A) (x y : A) → Contains (x ∷ xs) y → (x ≡ y) ⊎ Contains xs y
head_or xs x y c =
    ⊎_elim
    (λ first. ⊎_elim (λ none. absurd (no_member y none)) (λ e. inl e) (Contains-push_cases [] x y first))
    (λ more. inr more) (Contains-append_cases (x ∷ []) xs y c)

pub first_in : {A : Type 0} (x : A) (xs : List A) → Contains (x ∷ xs) x
first_in x xs = Contains-append_left (x ∷ []) xs x (Contains-push [] x)

pub later_in : {A : Type 0} (k : A) (xs : List A) (x : A) → Contains xs x → Contains (k ∷ xs) x
later_in k xs x c = Contains-append_right (k ∷ []) xs x c
