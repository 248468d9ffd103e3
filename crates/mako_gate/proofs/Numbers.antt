-- The parts of one view in the numbers of gates.
use Rattle.std.proofs.Common.{◌≡◌, ◌≢◌, ℕ, ◌+◌, ◌*◌, ◌<◌, ◌≤◌, ◌==◌, ◌&&◌, nat_le, nat_lt, ◌⊎◌, inl, inr, Bool, true}
use Rattle.std.proofs.Common.{false, eq-eqb, ne_eqb, ap, refl, arith}
use Rattle.std.proofs.lemmas.Bool.{cases_eq, cases_lt}
use Rattle.std.proofs.lemmas.Bool.Decides.{nat_tests}
use Rattle.mako_gate.specs.Bits.{shut_bit}
use Rattle.mako_gate.specs.Sums.{counted}
use Rattle.mako_gate.specs.Standings.{Standing, away, turned_away, at_tablet, with_turn, Watch, rests, pauses}
use Rattle.mako_gate.specs.Standings.{GateFacet, arrived, admitted, holds_turn, shut_by, drained_by, arrived_own}
use Rattle.mako_gate.specs.Standings.{admitted_own, shut_own, drained_own}

pub counted_le : (b : Bool) (z : ℕ) → counted b z ≤ z
counted_le true z = omega arith
counted_le false z = omega arith

pub counted_mono : (b : Bool) (y z : ℕ) → y ≤ z → counted b y ≤ counted b z
counted_mono true y z h = h
counted_mono false y z h = omega arith

pub counted_zero : (b : Bool) → counted b 0 ≡ 0
counted_zero true = refl
counted_zero false = refl

pub counted_times : (b : Bool) → counted b shut_bit ≡ shut_bit * counted b 1
counted_times true = refl
counted_times false = refl

pub times_counted : (b : Bool) (z : ℕ) → counted b 1 * z ≡ counted b z
times_counted true z = omega arith
times_counted false z = omega arith

pub count_at : (a b z : ℕ) → a ≡ b → counted (a == b) z ≡ z
count_at a b z e = ap (λ q. counted q z) (eq-eqb a b e)

pub count_off : (a b z : ℕ) → a ≢ b → counted (a == b) z ≡ 0
count_off a b z d = ap (λ q. counted q z) (ne_eqb a b d)

-- ---- standings and watches

pub arrived_le : (t : ℕ) (s : Standing) → arrived t s ≤ arrived_own s
arrived_le t (turned_away u) = counted_le (u == t) 1
arrived_le t (at_tablet u) = counted_le (u == t) 1
arrived_le t (with_turn u) = counted_le (u == t) 1
arrived_le t s = omega arith

pub arrived_own_le : (s : Standing) → arrived_own s ≤ 1
arrived_own_le away = omega arith
arrived_own_le s = omega arith

pub admitted_le : (t : ℕ) (s : Standing) → admitted t s ≤ arrived t s
admitted_le t away = omega arith
admitted_le t s = omega arith

pub holds_le : (t : ℕ) (s : Standing) → holds_turn t s ≤ admitted t s
holds_le t away = omega arith
holds_le t s = omega arith

pub own_le : (s : Standing) → admitted_own s ≤ arrived_own s
own_le away = omega arith
own_le s = omega arith

-- who is admitted at a tablet is admitted at its own gate
pub admitted_own_le : (t : ℕ) (s : Standing) → admitted t s ≤ admitted_own s
admitted_own_le t (at_tablet u) = counted_le (u == t) 1
admitted_own_le t (with_turn u) = counted_le (u == t) 1
admitted_own_le t s = omega arith

pub drained_le : (t : ℕ) (w : Watch) → drained_by t w ≤ shut_by t w
drained_le t rests = omega arith
drained_le t w = omega arith

pub drained_own_le : (k : ℕ) (w : Watch) → drained_own k w ≤ shut_own k w
drained_own_le k (pauses low high drained) = counted_le (nat_lt k drained) (counted (nat_le low k && nat_lt k high) 1)
drained_own_le k w = omega arith

pub holds_named : (t : ℕ) (g : GateFacet) → holds_turn t g.standing ≤ holds_turn t g.standing * (g.number + 1)
holds_named t g = grind arith

-- ---- the gates of a pause

pub between_is : (low high k : ℕ) → low ≤ k → k < high → counted (nat_le low k && nat_lt k high) 1 ≡ 1
between_is low high k a b = ap (λ q. counted q 1) (test low high k a b)
  where
    test : (low high k : ℕ) → low ≤ k → k < high → (nat_le low k && nat_lt k high) ≡ true
    test low high k a b = grind (arith, nat_tests)

pub between_not : (low high k : ℕ) → (k < low) ⊎ (high ≤ k) → counted (nat_le low k && nat_lt k high) 1 ≡ 0
between_not low high k a = ap (λ q. counted q 1) (test low high k a)
  where
    test : (low high k : ℕ) → (k < low) ⊎ (high ≤ k) → (nat_le low k && nat_lt k high) ≡ false
    test low high k a = grind (arith, nat_tests)

pub below_is : (k m z : ℕ) → k < m → counted (nat_lt k m) z ≡ z
below_is k m z l = ap (λ q. counted q z) (test k m l)
  where
    test : (k m : ℕ) → k < m → nat_lt k m ≡ true
    test k m l = grind (arith, nat_tests)

pub below_not : (k m z : ℕ) → m ≤ k → counted (nat_lt k m) z ≡ 0
below_not k m z l = ap (λ q. counted q z) (test k m l)
  where
    test : (k m : ℕ) → m ≤ k → nat_lt k m ≡ false
    test k m l = grind (arith, nat_tests)

-- one more gate is shut
pub shut_more : (low m k : ℕ) → low ≤ m →
    counted (nat_le low k && nat_lt k (m + 1)) 1 ≡ counted (nat_le low k && nat_lt k m) 1 + counted (m == k) 1
shut_more low m k h = elim (cases_lt k low) [
  | inl l ↦ omega (
    arith,
    between_not low (m + 1) k (inl l),
    between_not low m k (inl l),
    count_off m k 1
        (λ e. omega arith),
  )
  | inr a ↦ elim (cases_lt k m) [
    | inl l ↦ omega (
      arith,
      between_is low (m + 1) k a (omega arith),
      between_is low m k a l,
      count_off m k 1
          (λ e. omega arith),
    )
    | inr r ↦ elim (cases_eq m k) [
      | inl e ↦ omega (arith, between_is low (m + 1) k a (omega arith), between_not low m k (inr r), count_at m k 1 e)
      | inr d ↦ (let ne : m ≢ k = d in
          omega (arith, between_not low (m + 1) k (inr (omega arith)), between_not low m k (inr r), count_off m k 1 d))
    ]
  ]
]

-- and one is reopened
pub shut_less : (m top k : ℕ) → m < top →
    counted (nat_le m k && nat_lt k top) 1 ≡ counted (nat_le (m + 1) k && nat_lt k top) 1 + counted (m == k) 1
shut_less m top k h = elim (cases_lt k m) [
  | inl l ↦ omega (
    arith,
    between_not (m + 1) top k (inl (omega arith)),
    between_not m top k (inl l),
    count_off m k 1
        (λ e. omega arith),
  )
  | inr r ↦ elim (cases_eq m k) [
    | inl e ↦ omega (
      arith,
      between_not (m + 1) top k (inl (omega arith)),
      between_is m top k r (omega arith),
      count_at m k 1 e,
    )
    | inr d ↦ (let ne : m ≢ k = d in elim (cases_lt k top) [
      | inl l ↦ omega (arith, between_is (m + 1) top k (omega arith) l, between_is m top k r l, count_off m k 1 d)
      | inr q ↦ omega (arith, between_not (m + 1) top k (inr q), between_not m top k (inr q), count_off m k 1 d)
    ])
  ]
]

-- one more is drained
pub drained_more : (low m top k : ℕ) → low ≤ m → m < top →
    drained_own k (pauses low top (m + 1)) ≡ drained_own k (pauses low top m) + counted (m == k) 1
drained_more low m top k a h = elim (cases_lt k m) [
  | inl l ↦ omega (
    arith,
    below_is k (m + 1) whole (omega arith),
    below_is k m whole l,
    count_off m k 1
        (λ e. omega arith),
  )
  | inr r ↦ elim (cases_eq m k) [
    | inl e ↦ omega (
      arith,
      below_is k (m + 1) whole (omega arith),
      below_not k m whole r,
      count_at m k 1 e,
      between_is low top k (omega arith) (omega arith),
    )
    | inr d ↦ (let ne : m ≢ k = d in
        omega (arith, below_not k (m + 1) whole (omega arith), below_not k m whole r, count_off m k 1 d))
  ]
]
  where
    whole : ℕ
    whole = counted (nat_le low k && nat_lt k top) 1
