-- A row of areas that follow each other without gaps: a word lies in one area, at one offset.
use Rattle.std.proofs.Common.{◌≡◌, ℕ, zero, suc, ◌+◌, ◌-◌, ◌<◌, List, [], ◌∷◌, get_or, take, refl, ap, inl, inr, arith}
use Rattle.std.specs.List.{sum}
use Rattle.std.proofs.lemmas.List.Sums.{sum_by-cons}
use Rattle.std.proofs.lemmas.Bool.{cases_lt}

-- the sum of a list from its first element on
pub sum-cons : (x : ℕ) (xs : List ℕ) → sum (x ∷ xs) ≡ x + sum xs
sum-cons x xs = sum_by-cons (λ y. y) x xs

-- a word of an area is one of all words
pub cell-below : (sizes : List ℕ) (area a : ℕ) → a < get_or sizes area 0 → sum (take area sizes) + a < sum sizes
cell-below [] area a h = absurd (omega arith)
cell-below (s ∷ sizes) zero a h = omega (arith, sum-cons s sizes)
cell-below (s ∷ sizes) (suc area) a h =
    omega (arith, sum-cons s (take area sizes), sum-cons s sizes, cell-below sizes area a h)

-- two words that are one lie in one area, at one offset
pub one_cell : (sizes : List ℕ) (i j a b : ℕ) → a < get_or sizes i 0 → b < get_or sizes j 0 →
    sum (take i sizes) + a ≡ sum (take j sizes) + b → (i ≡ j) × (a ≡ b)
one_cell [] i j a b h k e = absurd (omega arith)
one_cell (s ∷ sizes) zero zero a b h k e = (refl, omega arith)
one_cell (s ∷ sizes) zero (suc j) a b h k e = absurd (omega (arith, sum-cons s (take j sizes)))
one_cell (s ∷ sizes) (suc i) zero a b h k e = absurd (omega (arith, sum-cons s (take i sizes)))
one_cell (s ∷ sizes) (suc i) (suc j) a b h k e =
    let rest : sum (take i sizes) + a ≡ sum (take j sizes) + b =
    omega (arith, sum-cons s (take i sizes), sum-cons s (take j sizes)) in
    let both : (i ≡ j) × (a ≡ b) = one_cell sizes i j a b h k rest in
    (ap suc both.0, both.1)

-- each word lies in some area
pub cell-of : (sizes : List ℕ) (w : ℕ) → w < sum sizes →
    (area : ℕ) × ((a : ℕ) × ((a < get_or sizes area 0) × (sum (take area sizes) + a ≡ w)))
cell-of [] w h = absurd (omega arith)
cell-of (s ∷ sizes) w h = elim (cases_lt w s) [
  | inl below ↦ (0, (w, (below, omega arith)))
  | inr above ↦
      let rest : (area : ℕ) × ((a : ℕ) × ((a < get_or sizes area 0) × (sum (take area sizes) + a ≡ w - s))) =
      cell-of sizes (w - s) (omega (arith, sum-cons s sizes)) in
      (suc rest.0, (rest.1.0, (rest.1.1.0, omega (arith, sum-cons s (take rest.0 sizes), rest.1.1.1))))
]
