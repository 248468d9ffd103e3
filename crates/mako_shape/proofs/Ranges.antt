-- The first number out of range, against all of them in range.
use Rattle.std.proofs.Common.{◌≡◌, ℕ, ◌≤◌, not, List, [], ◌∷◌, length, refl, Some, None, Result, Ok, Err, ap, subst}
use Rattle.std.proofs.Common.{arith}
use Rattle.std.specs.List.{position, position_or_len}
use Rattle.std.proofs.lemmas.Bool.Decides.{nat_tests}
use Rattle.std.proofs.lemmas.List.Sums.{prefix_len-le-length}
use Rattle.mako_shape.specs.declared.numbers.Numbers.{Numbers}
use Rattle.mako_shape.specs.declared.fault.ShapeFault.{ShapeFault}
use Rattle.mako_shape.specs.declared.fault.ShapeFault.TheVariants.{OutOfRange, TooManyEntries, TooManyWords}
use Rattle.mako_shape.specs.Limits.{is_outside, EachInRange, AllInRange, IsFault, IsShape, tested}

-- a list whose numbers are in range has no first number out of range
pub in_range-none : (ts : List (ℕ × (ℕ × ℕ))) → EachInRange ts → position_or_len is_outside ts ≡ length ts
in_range-none [] h = omega arith
in_range-none (t ∷ ts) h = grind (arith, nat_tests, in_range-none ts h.2)

-- and the other way round
pub in_range-from_none : (ts : List (ℕ × (ℕ × ℕ))) → position_or_len is_outside ts ≡ length ts → EachInRange ts
in_range-from_none [] e = tt
in_range-from_none (t ∷ ts) e =
    let low : t.1.0 ≤ t.0 = grind (arith, nat_tests) in
    let high : t.0 ≤ t.1.1 = grind (arith, nat_tests) in
    let rest : position_or_len is_outside ts ≡ length ts = grind (arith, nat_tests) in
    (low, high, in_range-from_none ts rest)

-- where there is no first number out of range, all are in range
pub in_range-from_no_first : (ts : List (ℕ × (ℕ × ℕ))) → position is_outside ts ≡ None → EachInRange ts
in_range-from_no_first ts e =
    let none : position_or_len is_outside ts ≡ length ts =
    grind (arith, nat_tests, prefix_len-le-length (λ t. not (is_outside t)) ts) in
    in_range-from_none ts none

pub all_in_range : (n : Numbers) → position is_outside (tested n) ≡ None → AllInRange n
all_in_range n e = record { each = in_range-from_no_first (tested n) e }

-- with all numbers in range there is no first one out of range
pub in_range-no_first : (ts : List (ℕ × (ℕ × ℕ))) (place : ℕ) → EachInRange ts → position is_outside ts ≡ Some place → ⊥
in_range-no_first ts place h e = let none : position_or_len is_outside ts ≡ length ts = in_range-none ts h in
    grind (arith, nat_tests)

-- the numbers have one fault at most
pub one_fault : (n : Numbers) (f g : ShapeFault) → IsFault n f → IsFault n g → f ≡ g
one_fault n (OutOfRange a) (OutOfRange b) h k = let e : Some a ≡ Some b = cc in cc
one_fault n (OutOfRange a) TooManyEntries h k = absurd (in_range-no_first (tested n) a k.0.each h)
one_fault n (OutOfRange a) TooManyWords h k = absurd (in_range-no_first (tested n) a k.0.each h)
one_fault n TooManyEntries (OutOfRange b) h k = absurd (in_range-no_first (tested n) b h.0.each k)
one_fault n TooManyEntries TooManyEntries h k = refl
one_fault n TooManyEntries TooManyWords h k = absurd (omega arith)
one_fault n TooManyWords (OutOfRange b) h k = absurd (in_range-no_first (tested n) b h.0.each k)
one_fault n TooManyWords TooManyEntries h k = absurd (omega arith)
one_fault n TooManyWords TooManyWords h k = refl

-- a geometry has none
pub no_fault : (n : Numbers) (f : ShapeFault) → IsShape n → IsFault n f → ⊥
no_fault n (OutOfRange place) h k = in_range-no_first (tested n) place h.in_range.each k
no_fault n TooManyEntries h k = omega arith
no_fault n TooManyWords h k = omega arith

-- the answer that is a fault of the numbers is this answer for that fault alone
pub answer-fault : (A : Type 0) (n : Numbers) (f : ShapeFault) → IsFault n f → (g : ShapeFault) →
    let answer : Result A ShapeFault = Err f in
    let other : Result A ShapeFault = Err g in
    (answer ≡ other → IsFault n g) × (IsFault n g → answer ≡ other)
answer-fault A n f h g = (
  λ e. let same : f ≡ g = cc in subst (IsFault n) same h,
  λ k. ap Err (one_fault n f g h k),
)

-- the answer for a geometry is that for no fault
pub answer-shape : (A : Type 0) (v : A) (n : Numbers) → IsShape n → (g : ShapeFault) →
    let answer : Result A ShapeFault = Ok v in
    let other : Result A ShapeFault = Err g in
    (answer ≡ other → IsFault n g) × (IsFault n g → answer ≡ other)
answer-shape A v n h g = (λ e. cc, λ k. absurd (no_fault n g h k))
