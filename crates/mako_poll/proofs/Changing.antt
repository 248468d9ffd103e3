-- What a step of a server leaves of the words that others read.
use Rattle.std.proofs.Common.{◌≡◌, ◌≢◌, ℕ, ◌<◌, ◌⊎◌, inl, inr, ap, ◌∙◌}
use Rattle.std.proofs.lemmas.Bool.{cases_eq}
use Rattle.mako_shape.specs.declared.numbers.Numbers.{Numbers}
use Rattle.mako_shape.specs.Places.{Place, flags, work, ghost, index, Within}
use Rattle.mako_shape.proofs.PlaceLaws.{one_place}
use Rattle.mako_ring.specs.Facets.{IsPolled}
use Rattle.mako_poll.specs.Steps.{Untouched, Wrote}

-- two places in range are one or two
pub same_place : (n : Numbers) (p q : Place) → Within n p → Within n q → (q ≡ p) ⊎ (q ≢ p)
same_place n p q in_p in_q = elim (cases_eq (index n q) (index n p)) [
  | inl e ↦ inl (one_place n q p in_q in_p e)
  | inr d ↦ inr (λ e. d (ap (index n) e))
]

-- where a 0 is written, what was 0 is 0
pub zero_stays : (n : Numbers) (word after : Place → ℕ) (p q : Place) → Wrote n word after p 0 → Within n p → IsPolled q
    → Within n q → word q ≡ 0 → after q ≡ 0
zero_stays n word after p q wrote in_p is in_q z = elim (same_place n p q in_p in_q) [
  | inl e ↦ ap after e ∙ wrote.there
  | inr d ↦ wrote.else q is in_q d ∙ z
]

-- what server i leaves of the words of others
pub record Changes (n : Numbers) (word after : Place → ℕ) (i : ℕ) : Type 0 where
  pub flags_other : (j : ℕ) → j < n.servers → j ≢ i → after (flags j) ≡ word (flags j)
  pub sent_zero : (j r k : ℕ) → j < n.servers → j ≢ i → r < n.servers → k < n.ring → word (ghost j r k) ≡ 0
      → after (ghost j r k) ≡ 0
  pub own_zero : (k : ℕ) → k < n.ring → word (ghost i i k) ≡ 0 → after (ghost i i k) ≡ 0
  pub works_zero : (r k : ℕ) → r < n.servers → k < n.ring → word (work r k) ≡ 0 → after (work r k) ≡ 0
  pub works_other : (r k : ℕ) → r < n.servers → r ≢ i → k < n.ring → after (work r k) ≡ word (work r k)
  pub filled_other : (a j k : ℕ) → a < n.servers → j < n.servers → j ≢ i → k < n.ring → word (ghost a j k) ≢ 0
      → after (ghost a j k) ≡ word (ghost a j k)
  pub rings_other : (a b k : ℕ) → a < n.servers → b < n.servers → a ≢ i → b ≢ i → k < n.ring
      → after (ghost a b k) ≡ word (ghost a b k)

module _ (n : Numbers) (word after : Place → ℕ) (i : ℕ) (here : i < n.servers) where
  pub changes_none : Untouched n word after → Changes n word after i
  changes_none same = record {
    flags_other = λ j lj d. same (flags j) tt lj;
    sent_zero = λ j r k lj d lr lk z. same (ghost j r k) tt (lj, lr, lk) ∙ z;
    own_zero = λ k lk z. same (ghost i i k) tt (here, here, lk) ∙ z;
    works_zero = λ r k lr lk z. same (work r k) tt (lr, lk) ∙ z;
    works_other = λ r k lr d lk. same (work r k) tt (lr, lk);
    filled_other = λ a j k la lj d lk f. same (ghost a j k) tt (la, lj, lk);
    rings_other = λ a b k la lb da db lk. same (ghost a b k) tt (la, lb, lk);
  }

  pub changes_flags : (x : ℕ) → Wrote n word after (flags i) x → Changes n word after i
  changes_flags x w = record {
    flags_other = λ j lj d. w.else (flags j) tt lj (λ e. d (cc));
    sent_zero = λ j r k lj d lr lk z. w.else (ghost j r k) tt (lj, lr, lk) (λ e. cc) ∙ z;
    own_zero = λ k lk z. w.else (ghost i i k) tt (here, here, lk) (λ e. cc) ∙ z;
    works_zero = λ r k lr lk z. w.else (work r k) tt (lr, lk) (λ e. cc) ∙ z;
    works_other = λ r k lr d lk. w.else (work r k) tt (lr, lk) (λ e. cc);
    filled_other = λ a j k la lj d lk f. w.else (ghost a j k) tt (la, lj, lk) (λ e. cc);
    rings_other = λ a b k la lb da db lk. w.else (ghost a b k) tt (la, lb, lk) (λ e. cc);
  }

  -- a put into an empty slot
  pub changes_put : (r k x : ℕ) → r ≢ i → word (ghost i r k) ≡ 0 → Wrote n word after (ghost i r k) x
      → Changes n word after i
  changes_put r k x other free w = record {
    flags_other = λ j lj d. w.else (flags j) tt lj (λ e. cc);
    sent_zero = λ j q l lj d lr lk z. w.else (ghost j q l) tt (lj, lr, lk) (λ e. d (cc)) ∙ z;
    own_zero = λ l lk z. w.else (ghost i i l) tt (here, here, lk) (λ e. other (cc)) ∙ z;
    works_zero = λ q l lr lk z. w.else (work q l) tt (lr, lk) (λ e. cc) ∙ z;
    works_other = λ q l lr d lk. w.else (work q l) tt (lr, lk) (λ e. cc);
    filled_other = λ a j l la lj d lk f. w.else (ghost a j l) tt (la, lj, lk) (λ e. f (ap word e ∙ free));
    rings_other = λ a b l la lb da db lk. w.else (ghost a b l) tt (la, lb, lk) (λ e. da (cc));
  }

  -- a take
  pub changes_work : (k : ℕ) → k < n.ring → Wrote n word after (work i k) 0 → Changes n word after i
  changes_work k lt w = record {
    flags_other = λ j lj d. w.else (flags j) tt lj (λ e. cc);
    sent_zero = λ j q l lj d lr lk z. w.else (ghost j q l) tt (lj, lr, lk) (λ e. cc) ∙ z;
    own_zero = λ l lk z. w.else (ghost i i l) tt (here, here, lk) (λ e. cc) ∙ z;
    works_zero = λ q l lr lk z. zero_stays n word after (work i k) (work q l) w (here, lt) tt (lr, lk) z;
    works_other = λ q l lr d lk. w.else (work q l) tt (lr, lk) (λ e. d (cc));
    filled_other = λ a j l la lj d lk f. w.else (ghost a j l) tt (la, lj, lk) (λ e. cc);
    rings_other = λ a b l la lb da db lk. w.else (ghost a b l) tt (la, lb, lk) (λ e. cc);
  }

  pub changes_take : (b k : ℕ) → b < n.servers → k < n.ring → Wrote n word after (ghost b i k) 0
      → Changes n word after i
  changes_take b k lb lt w = record {
    flags_other = λ j lj d. w.else (flags j) tt lj (λ e. cc);
    sent_zero = λ j q l lj d lr lk z. zero_stays n word after (ghost b i k) (ghost j q l) w (lb, here, lt) tt
        (lj, lr, lk) z;
    own_zero = λ l lk z. zero_stays n word after (ghost b i k) (ghost i i l) w (lb, here, lt) tt (here, here, lk) z;
    works_zero = λ q l lr lk z. w.else (work q l) tt (lr, lk) (λ e. cc) ∙ z;
    works_other = λ q l lr d lk. w.else (work q l) tt (lr, lk) (λ e. cc);
    filled_other = λ a j l la lj d lk f. w.else (ghost a j l) tt (la, lj, lk) (λ e. d (cc));
    rings_other = λ a c l la lc da dc lk. w.else (ghost a c l) tt (la, lc, lk) (λ e. dc (cc));
  }
