-- Sums below a number and over a tablet: one changed entry is one changed term.
use Rattle.std.proofs.Common.{◌≡◌, ◌≢◌, ℕ, zero, suc, ◌+◌, ◌*◌, ◌%◌, ◌<◌, ◌≤◌, ◌⊎◌, inl, inr, ⊎_elim, Bool, true, false}
use Rattle.std.proofs.Common.{◌&&◌, eqb, eq-eqb, ne_eqb, refl, sym, ap, ◌∙◌, subst, arith}
use Rattle.std.proofs.lemmas.Bool.{cases_eq}
use Rattle.mako_shape.specs.declared.numbers.Numbers.{Numbers}
use Rattle.mako_shape.specs.Belongings.{tablet_of_entry}
use Rattle.mako_shape.proofs.Rows.{mod-below, row-and-column}
use Rattle.mako_shape.proofs.BelongingLaws.{parts_belong}
use Rattle.mako_layout.specs.Sums.{sum_below, over_tablet}
use Rattle.mako_layout.specs.Layouts.{entries_of}
use Rattle.mako_gate.specs.Sums.{counted}
use Rattle.mako_gate.specs.Changes.{tablets_of}
use Rattle.mako_gate.proofs.Numbers.{count_at, count_off}

pub sum_below_same : (n : ℕ) (f g : ℕ → ℕ) → ((k : ℕ) → k < n → f k ≡ g k) → sum_below n f ≡ sum_below n g
sum_below_same zero f g h = refl
sum_below_same (suc n) f g h = let r = sum_below_same n f g (λ k l. h k (omega arith)) in let e = h n (omega arith) in
    omega arith

-- f and g differ at x alone
pub sum_below_one : (n : ℕ) (f g : ℕ → ℕ) (x : ℕ) → x < n → ((k : ℕ) → k < n → k ≢ x → f k ≡ g k) →
    sum_below n f + g x ≡ sum_below n g + f x
sum_below_one zero f g x l h = absurd (omega arith)
sum_below_one (suc n) f g x l h = ⊎_elim
    (λ (e : x ≡ n). let r = sum_below_same n f g (λ k m. h k (omega arith) (λ d. omega arith)) in rw e (omega arith))
    (λ (d : x ≡ n → ⊥). let r = sum_below_one n f g x (let d' : x ≢ n = d in omega arith) (λ k m. h k (omega arith))
    in let e = h n (omega arith) (λ e. d (sym e)) in omega arith)
    (cases_eq x n)

pub sum_below_le : (n : ℕ) (f g : ℕ → ℕ) → ((k : ℕ) → k < n → f k ≤ g k) → sum_below n f ≤ sum_below n g
sum_below_le zero f g h = omega arith
sum_below_le (suc n) f g h = let r = sum_below_le n f g (λ k l. h k (omega arith)) in let e = h n (omega arith) in
    omega arith

-- and by so much more at x
pub sum_below_le_at : (n : ℕ) (f g : ℕ → ℕ) (x d : ℕ) → x < n → ((k : ℕ) → k < n → f k ≤ g k) → f x + d ≤ g x →
    sum_below n f + d ≤ sum_below n g
sum_below_le_at zero f g x d l h m = absurd (omega arith)
sum_below_le_at (suc n) f g x d l h m = ⊎_elim
    (λ (e : x ≡ n). let r = sum_below_le n f g (λ k l. h k (omega arith)) in let m' : f n + d ≤ g n = rw e at m in
    omega arith)
    (λ (e : x ≡ n → ⊥). let ne : x ≢ n = e in
    let r = sum_below_le_at n f g x d (omega arith) (λ k l. h k (omega arith)) m in let t = h n (omega arith) in
    omega arith)
    (cases_eq x n)

pub term_below : (n : ℕ) (f : ℕ → ℕ) (x : ℕ) → x < n → f x ≤ sum_below n f
term_below zero f x l = absurd (omega arith)
term_below (suc n) f x l = ⊎_elim
    (λ (e : x ≡ n). rw e (omega arith))
    (λ (e : x ≡ n → ⊥). let ne : x ≢ n = e in let r = term_below n f x (omega arith) in omega arith)
    (cases_eq x n)

-- two terms
pub terms_below : (n : ℕ) (f : ℕ → ℕ) (x y : ℕ) → x < n → y < n → x ≢ y → f x + f y ≤ sum_below n f
terms_below zero f x y l m d = absurd (omega arith)
terms_below (suc n) f x y l m d = ⊎_elim
    (λ (e : x ≡ n). let r = term_below n f y (omega arith) in rw e (omega arith))
    (λ (e : x ≡ n → ⊥). let ne : x ≢ n = e in ⊎_elim
    (λ (c : y ≡ n). let r = term_below n f x (omega arith) in rw c (omega arith))
    (λ (c : y ≡ n → ⊥). let nc : y ≢ n = c in let r = terms_below n f x y (omega arith) (omega arith) d in omega arith)
    (cases_eq y n))
    (cases_eq x n)

pub sum_below_none : (n : ℕ) (f : ℕ → ℕ) → ((k : ℕ) → k < n → f k ≡ 0) → sum_below n f ≡ 0
sum_below_none zero f h = refl
sum_below_none (suc n) f h = let r = sum_below_none n f (λ k l. h k (omega arith)) in let e = h n (omega arith) in
    omega arith

-- a sum of two
pub sum_below_both : (n : ℕ) (f g : ℕ → ℕ) → sum_below n (λ k. f k + g k) ≡ sum_below n f + sum_below n g
sum_below_both zero f g = refl
sum_below_both (suc n) f g = let r = sum_below_both n f g in omega arith

module _ (n : Numbers) (t : ℕ) (within : t < tablets_of n) where
  pub over_same : (f g : ℕ → ℕ) → ((y : ℕ) → y < entries_of n → tablet_of_entry n y ≡ t → f y ≡ g y) →
      over_tablet n t f ≡ over_tablet n t g
  over_same f g h = sum_below_same n.entries _ _
      (λ i l. h (t * n.entries + i) (parts_belong.entry_in_range n t i within l) (parts_belong.entry n t i l))

  pub over_le : (f g : ℕ → ℕ) → ((y : ℕ) → y < entries_of n → tablet_of_entry n y ≡ t → f y ≤ g y) →
      over_tablet n t f ≤ over_tablet n t g
  over_le f g h = sum_below_le n.entries _ _
      (λ i l. h (t * n.entries + i) (parts_belong.entry_in_range n t i within l) (parts_belong.entry n t i l))

  pub over_none : (f : ℕ → ℕ) → ((y : ℕ) → y < entries_of n → tablet_of_entry n y ≡ t → f y ≡ 0) → over_tablet n t f ≡ 0
  over_none f h = sum_below_none n.entries _
      (λ i l. h (t * n.entries + i) (parts_belong.entry_in_range n t i within l) (parts_belong.entry n t i l))

  -- an entry of the tablet is its place among the tablet's
  place : (x : ℕ) → tablet_of_entry n x ≡ t → t * n.entries + x % n.entries ≡ x
  place x e = ap (λ u. u * n.entries + x % n.entries) (sym e) ∙ row-and-column x n.entries

  pub over_one : (f g : ℕ → ℕ) (x : ℕ) → x < entries_of n → tablet_of_entry n x ≡ t →
      ((y : ℕ) → y < entries_of n → y ≢ x → f y ≡ g y) → over_tablet n t f + g x ≡ over_tablet n t g + f x
  over_one f g x l e h =
      let p : t * n.entries + x % n.entries ≡ x = place x e in
      let one = sum_below_one n.entries (λ i. f (t * n.entries + i)) (λ i. g (t * n.entries + i)) (x % n.entries)
      (mod-below x n.entries (tablets_of n) l)
      (λ k m d. h (t * n.entries + k) (parts_belong.entry_in_range n t k within m)
      (λ s. d (let q : t * n.entries + k ≡ x = s in omega arith))) in
      subst (λ y. over_tablet n t f + g y ≡ over_tablet n t g + f y) p one

  pub over_le_at : (f g : ℕ → ℕ) (x d : ℕ) → x < entries_of n → tablet_of_entry n x ≡ t →
      ((y : ℕ) → y < entries_of n → tablet_of_entry n y ≡ t → f y ≤ g y) → f x + d ≤ g x →
      over_tablet n t f + d ≤ over_tablet n t g
  over_le_at f g x d l e h m =
      let p : t * n.entries + x % n.entries ≡ x = place x e in
      sum_below_le_at n.entries (λ i. f (t * n.entries + i)) (λ i. g (t * n.entries + i)) (x % n.entries) d
      (mod-below x n.entries (tablets_of n) l)
      (λ i k. h (t * n.entries + i) (parts_belong.entry_in_range n t i within k) (parts_belong.entry n t i k))
      (subst (λ y. f y + d ≤ g y) (sym p) m)

-- a counted number is there where both tests hold, and 0 where they do not
pub counted_cases : (t : Bool) (a b z : ℕ) →
    ((t ≡ true) × (a ≡ b) × (counted (t && eqb a b) z ≡ z)) ⊎ ((t ≡ true → a ≢ b) × (counted (t && eqb a b) z ≡ 0))
counted_cases true a b z = ⊎_elim (λ e. inl (refl, e, ap (λ q. counted q z) (eq-eqb a b e)))
    (λ d. inr ((λ _. d), ap (λ q. counted q z) (ne_eqb a b d))) (cases_eq a b)
counted_cases false a b z = inr ((λ e. absurd (cc)), refl)

pub counted_is : (t : Bool) (a b z : ℕ) → t ≡ true → a ≡ b → counted (t && eqb a b) z ≡ z
counted_is t a b z h e = ⊎_elim (λ c. c.2) (λ c. absurd (c.0 h e)) (counted_cases t a b z)

pub counted_not : (t : Bool) (a b z : ℕ) → (t ≡ true → a ≢ b) → counted (t && eqb a b) z ≡ 0
counted_not t a b z h = ⊎_elim (λ c. absurd (h c.0 c.1)) (λ c. c.1) (counted_cases t a b z)

pub one_same : (a b c d : ℕ) → (a ≡ b → c ≡ d) → (c ≡ d → a ≡ b) → counted (eqb a b) 1 ≡ counted (eqb c d) 1
one_same a b c d f g = ⊎_elim (λ e. count_at a b 1 e ∙ sym (count_at c d 1 (f e)))
    (λ ne. count_off a b 1 ne ∙ sym (count_off c d 1 (λ e. ne (g e)))) (cases_eq a b)
