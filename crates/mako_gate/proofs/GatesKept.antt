-- Gates and turns are kept by one view's step.
use Rattle.std.proofs.Common.{◌≡◌, ℕ, ◌+◌, ◌*◌, ◌<◌, ◌≤◌, ◌==◌, inl, inr, List, set, slice_get, sum_by, Some, sym, ◌∙◌}
use Rattle.std.proofs.Common.{subst, arith}
use Rattle.std.proofs.lemmas.List.Sums.{sum_by-le-sum_by}
use Rattle.std.proofs.lemmas.Bool.{cases_lt}
use Rattle.mako_shape.specs.declared.numbers.Numbers.{Numbers}
use Rattle.mako_shape.specs.Places.{Place, mutator_gate, tablet_gate}
use Rattle.mako_gate.specs.Bits.{shut_bit}
use Rattle.mako_gate.specs.Sums.{counted}
use Rattle.mako_gate.specs.Changes.{tablets_of}
use Rattle.mako_gate.specs.Standings.{GateFacet, arrived, admitted, holds_turn, shut_by, drained_by, arrived_own}
use Rattle.mako_gate.specs.Standings.{admitted_own, shut_own, drained_own}
use Rattle.mako_gate.specs.Gates.{Gate, Gates}
use Rattle.mako_gate.specs.GateSteps.{Moves, GateStep}
use Rattle.mako_gate.proofs.Lists.{at_set, sum_at, le_sum, sum_seated}
use Rattle.mako_gate.proofs.Numbers.{counted_le, counted_mono, arrived_le, arrived_own_le, admitted_le, holds_le}
use Rattle.mako_gate.proofs.Numbers.{own_le, drained_le, drained_own_le, holds_named}

-- the numbers of one gate after the step
pub gate_moved : (M W V A B I O S U D E a b m o s u d e : ℕ) → M < shut_bit → Gate M W A I S D
    → Moves W V a b m o s u d e →
    B + a ≡ A + b → O + m ≡ I + o → U + s ≡ S + u → E + d ≡ D + e → O ≤ B → E ≤ U → B ≤ M →
    a ≤ A → m ≤ I → s ≤ S → d ≤ D → Gate M V B O U E
gate_moved M W V A B I O S U D E a b m o s u d e many g p ha hm hs hd hob heu few la lm ls ld = record {
  word_is = omega (arith, g.word_is, p.word);
  few = few;
  once = omega (arith, g.word_is, g.few, g.once, p.shut);
  within = hob;
  kept = heu;
  nobody = λ h. elim (cases_lt 0 D) [
    | inl some ↦ (let z : I ≡ 0 = g.nobody some in
        omega (arith, g.word_is, g.few, g.once, g.within, g.kept, p.admits, p.drains))
    | inr none ↦ omega (arith, g.word_is, g.few, g.once, g.within, g.kept, p.admits, p.drains)
  ];
}

module _ (n : Numbers) (W V : Place → ℕ) (gs : List GateFacet) (o : Gates n W gs)
    (i : ℕ) (f g : GateFacet) (here : slice_get gs i ≡ Some f) (p : GateStep n W V i f g) where
  mutator_after : (j : ℕ) (x : GateFacet) → slice_get (set gs i g) j ≡ Some x → 1 ≤ arrived_own x.standing
      → x.number < n.mutators
  mutator_after j x at one = elim (at_set gs i j g x at) [
    | inl c ↦ subst (λ (y : GateFacet). y.number < n.mutators) c.1
        (p.mutator (subst (λ (y : GateFacet). 1 ≤ arrived_own y.standing) (sym c.1) one))
    | inr c ↦ o.mutator j x c.1 one
  ]

  seat_after : (j : ℕ) (x : GateFacet) → slice_get (set gs i g) j ≡ Some x → 1 ≤ arrived_own x.standing → x.number ≡ j
  seat_after j x at one = elim (at_set gs i j g x at) [
    | inl c ↦ subst (λ (y : GateFacet). y.number ≡ j) c.1
        (p.seat (subst (λ (y : GateFacet). 1 ≤ arrived_own y.standing) (sym c.1) one) ∙ sym c.0)
    | inr c ↦ o.seat j x c.1 one
  ]

  few_after : (k : GateFacet → ℕ) → ((x : GateFacet) → k x ≤ arrived_own x.standing)
      → sum_by k (set gs i g) ≤ n.mutators
  few_after k h = sum_seated k (set gs i g) n.mutators (λ x. omega (arith, h x, arrived_own_le x.standing))
      (λ j x at one. let l = h x in
      let m = mutator_after j x at (omega arith) in
      let s = seat_after j x at (omega arith) in
      omega arith)

  once_after : (t : ℕ) → t < tablets_of n → sum_by (λ (x : GateFacet). holds_turn t x.standing) (set gs i g) ≤ 1
  once_after t h =
      let a = sum_at (λ (x : GateFacet). holds_turn t x.standing) gs i f g here in
      let b = sum_by-le-sum_by (λ (x : GateFacet). holds_turn t x.standing)
      (λ (x : GateFacet). holds_turn t x.standing * (x.number + 1)) gs (holds_named t) in
      let c = holds_le t g.standing in
      let d = admitted_le t g.standing in
      let e = arrived_le t g.standing in
      let e2 = arrived_own_le g.standing in
      let w = o.turns t h in
      let z = o.holder t h in
      let q = p.holder t h in
      omega arith

  pub gates_kept : Gates n V (set gs i g)
  gates_kept = record {
    many = o.many;
    tablets = λ t h. gate_moved n.mutators (W (tablet_gate t))
        (V (tablet_gate t)) _ _ _ _ _ _ _ _ _ _ _ _ _ _ _ _ o.many (o.tablets t h) (p.tablets t h)
        (sum_at (λ (x : GateFacet). arrived t x.standing) gs i f g here)
        (sum_at (λ (x : GateFacet). admitted t x.standing) gs i f g here)
        (sum_at (λ (x : GateFacet). shut_by t x.watch) gs i f g here)
        (sum_at (λ (x : GateFacet). drained_by t x.watch) gs i f g here)
        (sum_by-le-sum_by (λ (x : GateFacet). admitted t x.standing) (λ (x : GateFacet). arrived t x.standing)
        (set gs i g) (λ x. admitted_le t x.standing))
        (sum_by-le-sum_by (λ (x : GateFacet). drained_by t x.watch) (λ (x : GateFacet). shut_by t x.watch) (set gs i g)
        (λ x. drained_le t x.watch))
        (few_after (λ (x : GateFacet). arrived t x.standing) (λ x. arrived_le t x.standing))
        (le_sum (λ (x : GateFacet). arrived t x.standing) gs i f here)
        (le_sum (λ (x : GateFacet). admitted t x.standing) gs i f here)
        (le_sum (λ (x : GateFacet). shut_by t x.watch) gs i f here)
        (le_sum (λ (x : GateFacet). drained_by t x.watch) gs i f here);
    owns = λ k h. gate_moved n.mutators (W (mutator_gate k)) (V (mutator_gate k)) _ _ _ _ _ _ _ _ _ _ _ _ _ _ _ _ o.many
        (o.owns k h) (p.owns k h)
        (sum_at (λ (x : GateFacet). counted (x.number == k) (arrived_own x.standing)) gs i f g here)
        (sum_at (λ (x : GateFacet). counted (x.number == k) (admitted_own x.standing)) gs i f g here)
        (sum_at (λ (x : GateFacet). shut_own k x.watch) gs i f g here)
        (sum_at (λ (x : GateFacet). drained_own k x.watch) gs i f g here)
        (sum_by-le-sum_by (λ (x : GateFacet). counted (x.number == k) (admitted_own x.standing))
        (λ (x : GateFacet). counted (x.number == k) (arrived_own x.standing)) (set gs i g)
        (λ x. counted_mono (x.number == k) (admitted_own x.standing) (arrived_own x.standing) (own_le x.standing)))
        (sum_by-le-sum_by (λ (x : GateFacet). drained_own k x.watch) (λ (x : GateFacet). shut_own k x.watch)
        (set gs i g) (λ x. drained_own_le k x.watch))
        (few_after (λ (x : GateFacet). counted (x.number == k) (arrived_own x.standing))
        (λ x. counted_le (x.number == k) (arrived_own x.standing)))
        (le_sum (λ (x : GateFacet). counted (x.number == k) (arrived_own x.standing)) gs i f here)
        (le_sum (λ (x : GateFacet). counted (x.number == k) (admitted_own x.standing)) gs i f here)
        (le_sum (λ (x : GateFacet). shut_own k x.watch) gs i f here)
        (le_sum (λ (x : GateFacet). drained_own k x.watch) gs i f here);
    turns = λ t h. omega (
      arith,
      o.turns t h,
      p.turns t h,
      sum_at (λ (x : GateFacet). holds_turn t x.standing * (x.number + 1)) gs i f g here,
      le_sum (λ (x : GateFacet). holds_turn t x.standing * (x.number + 1)) gs i f here,
    );
    holder = once_after;
    mutator = mutator_after;
    seat = seat_after;
    shutter = λ j t x at one. elim (at_set gs i j g x at) [
      | inl c ↦ (let at_g : 1 ≤ shut_by t g.watch = subst (λ (y : GateFacet). 1 ≤ shut_by t y.watch) (sym c.1) one in
          elim (p.shutter t at_g) [ inl was ↦ c.0 ∙ o.shutter i t f here was | inr is ↦ c.0 ∙ is ])
      | inr c ↦ o.shutter j t x c.1 one
    ];
    pauser = λ j k x at one. elim (at_set gs i j g x at) [
      | inl c ↦ (let at_g : 1 ≤ shut_own k g.watch = subst (λ (y : GateFacet). 1 ≤ shut_own k y.watch) (sym c.1) one in
          elim (p.pauser k at_g) [ inl was ↦ c.0 ∙ o.pauser i k f here was | inr is ↦ c.0 ∙ is ])
      | inr c ↦ o.pauser j k x c.1 one
    ];
  }
