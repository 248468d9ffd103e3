-- Lists of numbers: one of them changes, and two lists compared place by place.
use Rattle.std.proofs.Common.{◌≡◌, ℕ, suc, ◌+◌, ◌-◌, ◌*◌, ◌<◌, ◌≤◌, List, [], ◌∷◌, ◌++◌, length, set, get_or, drop, sum}
use Rattle.std.proofs.Common.{sym, refl, ap, ◌∙◌, subst, arith, suc-mul, get_or-set_same, get_or-set_other, ext_get_or}
use mathlib.Core.Logic.{dite}
use native.Mathlib.Decide.{ℕ_discrete}
use Rattle.std.proofs.lemmas.List.Sums.{sum_by-set, sum_by-cons, get_or-le-sum_by}
use Rattle.mako_count.specs.Counting.{IsBelow, IsUnchanged}

abbrev itself : ℕ → ℕ
itself n = n

pub sum-cons : (x : ℕ) (xs : List ℕ) → sum (x ∷ xs) ≡ x + sum xs
sum-cons x xs = sum_by-cons itself x xs

-- the number at a place is one more, or one less
abbrev pub up : List ℕ → ℕ → List ℕ
up l i = set l i (get_or l i 0 + 1)

abbrev pub down : List ℕ → ℕ → List ℕ
down l i = set l i (get_or l i 0 - 1)

pub sum-up : (l : List ℕ) (i : ℕ) → i < length l → sum (up l i) ≡ sum l + 1
sum-up l i lt = let x : ℕ = get_or l i 0 in
    let e : sum (up l i) + x ≡ sum l + (x + 1) = sum_by-set itself l i (x + 1) 0 lt in omega arith

pub sum-down : (l : List ℕ) (i : ℕ) → i < length l → 0 < get_or l i 0 → sum (down l i) + 1 ≡ sum l
sum-down l i lt some = let x : ℕ = get_or l i 0 in
    let e : sum (down l i) + x ≡ sum l + (x - 1) = sum_by-set itself l i (x - 1) 0 lt in omega arith

pub at_most_sum : (l : List ℕ) (i : ℕ) → i < length l → get_or l i 0 ≤ sum l
at_most_sum l i lt = get_or-le-sum_by itself l i 0 lt

pub below-up : (l : List ℕ) (i : ℕ) → i < length l → IsBelow l (up l i)
below-up l i lt j = dite (ℕ_discrete j i)
    (λ e. subst (λ k. get_or l k 0 ≤ get_or (up l i) k 0) (sym e)
    (rw (get_or-set_same l i (get_or l i 0 + 1) 0 lt) (omega arith)))
    (λ ne. rw (get_or-set_other l i j (get_or l i 0 + 1) 0 ne) (omega arith))

-- a bound on each number is a bound on the sum
pub sum_bound : (b : ℕ) (l : List ℕ) → ((i : ℕ) → get_or l i 0 ≤ b) → sum l ≤ length l * b
sum_bound b [] h = omega arith
sum_bound b (x ∷ xs) h =
    let rest : sum xs ≤ length xs * b = sum_bound b xs (λ i. h (suc i)) in let here : x ≤ b = h 0 in
    let whole = sum-cons x xs in let more = suc-mul (length xs) b in omega (arith, rest, here, whole, more)

sum_le : (xs ys : List ℕ) → length xs ≡ length ys → ((i : ℕ) → i < length ys → get_or xs i 0 ≤ get_or ys i 0)
    → sum xs ≤ sum ys
sum_le [] [] e h = omega arith
sum_le [] (y ∷ ys) e h = absurd (omega arith)
sum_le (x ∷ xs) [] e h = absurd (omega arith)
sum_le (x ∷ xs) (y ∷ ys) e h =
    let rest : sum xs ≤ sum ys = sum_le xs ys (omega arith) (λ i lt. h (suc i) (omega arith)) in
    let here : x ≤ y = h 0 (omega arith) in
    let a = sum-cons x xs in let b = sum-cons y ys in omega (arith, rest, here, a, b)

-- numbers that have not fallen, with the same sum, are the same
pub same_by_sum : (xs ys : List ℕ) → length xs ≡ length ys → ((i : ℕ) → i < length ys → get_or xs i 0 ≤ get_or ys i 0)
    → sum ys ≡ sum xs → ys ≡ xs
same_by_sum [] [] e h s = refl
same_by_sum [] (y ∷ ys) e h s = absurd (omega arith)
same_by_sum (x ∷ xs) [] e h s = absurd (omega arith)
same_by_sum (x ∷ xs) (y ∷ ys) e h s =
    let len : length xs ≡ length ys = omega arith in let tail : (i : ℕ) → i < length ys
    → get_or xs i 0 ≤ get_or ys i 0 = λ i lt. h (suc i) (omega arith) in
    let le : sum xs ≤ sum ys = sum_le xs ys len tail in let here : x ≤ y = h 0 (omega arith) in
    let a : sum (x ∷ xs) ≡ x + sum xs = sum-cons x xs in let b : sum (y ∷ ys) ≡ y + sum ys = sum-cons y ys in
    let head : y ≡ x = omega (arith, le, here, a, b, s) in
    let rest : sum ys ≡ sum xs = omega (arith, le, here, a, b, s) in
    λ i. head i ∷ same_by_sum xs ys len tail rest i

-- words that were read, have risen, and now end in what was read have not changed
pub still_unchanged : (first later words risen : List ℕ) → length words ≡ length risen → IsBelow words risen
    → IsBelow first words → IsUnchanged first later risen → IsUnchanged first later words
still_unchanged first [] words risen len up below e =
    let same : risen ≡ words = ext_get_or 0 risen words (sym len) (λ i lt. let a = up i in let b = below i in
    let c : get_or risen i 0 ≡ get_or first i 0 = ap (λ l. get_or l i 0) e in omega arith) in
    sym same ∙ e
still_unchanged first (x ∷ xs) [] [] len up below e = e
still_unchanged first (x ∷ xs) [] (y ∷ ys) len up below e = absurd (omega arith)
still_unchanged first (x ∷ xs) (y ∷ ys) [] len up below e = absurd (omega arith)
still_unchanged [] (x ∷ xs) (w ∷ ws) (y ∷ ys) len up below e = cc
still_unchanged (a ∷ as_) (x ∷ xs) (w ∷ ws) (y ∷ ys) len up below e =
    let head : x ≡ a = cc in let tail : xs ++ drop (length xs) ys ≡ as_ = cc in
    let rest = still_unchanged as_ xs ws ys (omega arith) (λ i. up (suc i)) (λ i. below (suc i)) tail in
    λ i. head i ∷ rest i
