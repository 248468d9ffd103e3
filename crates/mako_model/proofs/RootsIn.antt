-- The roots that rows give, after one root changed.
use Rattle.std.proofs.Common.{◌≡◌, ℕ, zero, suc, ◌+◌, ◌<◌, List, [], ◌∷◌, ◌++◌, map, length, get_or, set, replicate}
use Rattle.std.proofs.Common.{Vec, Global, sym, ap, refl, ◌∙◌, arith, suc-add}
use Rattle.std.specs.Vec.{with_item}
use Rattle.std.proofs.lemmas.List.{map-set}
use Rattle.mako_words.specs.declared.value.Value.{Value}

abbrev Row : Type 0
Row = Vec Value Global

row_in : (rows : List Row) (m : ℕ) (row : Row) → m < length rows → row ≡ get_or rows m row
    → get_or (map (λ (r : Row). r.items) rows) m [] ≡ row.items
row_in [] m row l is = absurd (omega arith)
row_in (r ∷ rows) zero row l is = ap (λ (x : Row). x.items) (sym is)
row_in (r ∷ rows) (suc m) row l is = row_in rows m row (omega arith) is

-- one root changed in the rows changes one in the roots
pub set_in : (rows : List Row) (m q : ℕ) (row : Row) (v : Value) → m < length rows → row ≡ get_or rows m row
    → map (λ (r : Row). r.items) (set rows m (with_item row q v)) ≡ set (map (λ (r : Row). r.items) rows) m
    (set (get_or (map (λ (r : Row). r.items) rows) m []) q v)
set_in rows m q row v l is =
    map-set (λ (r : Row). r.items) rows m (with_item row q v)
    ∙ ap (λ items. set (map (λ (r : Row). r.items) rows) m (set items q v)) (sym (row_in rows m row l is))

-- one element again
pub replicate_push : {A : Type 0} (n : ℕ) (x : A) → replicate n x ++ x ∷ [] ≡ replicate (n + 1) x
replicate_push zero x = refl
replicate_push (suc n) x = (λ i. x ∷ replicate_push n x i) ∙ ap (λ (k : ℕ). replicate k x) (sym (suc-add n 1))

pub row_more : (items items' : List Value) (k : ℕ) (first rest : Value) → items ≡ first ∷ replicate k rest
    → items' ≡ items ++ rest ∷ [] → items' ≡ first ∷ replicate (k + 1) rest
row_more items items' k first rest is more =
    more ∙ ap (λ (vs : List Value). vs ++ rest ∷ []) is ∙ ap (λ (vs : List Value). first ∷ vs) (replicate_push k rest)
