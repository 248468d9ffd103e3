-- What a view finds in the words of gates and turns, and what its acts make of them.
use Rattle.std.proofs.Common.{◌≡◌, ℕ, ◌+◌, ◌-◌, ◌*◌, ◌^◌, ◌<◌, ◌≤◌, ◌==◌, inl, inr, true, false, List, set, slice_get}
use Rattle.std.proofs.Common.{sum_by, Some, eq-eqb, sym, ap, ◌∙◌, refl, arith}
use Rattle.std.specs.Prelude.{bit_and}
use Rattle.std.proofs.lemmas.Bool.{cases_lt}
use Rattle.std.proofs.lemmas.Bool.Decides.{nat_tests}
use Rattle.std.proofs.lemmas.Option.{same_Some}
use Rattle.mako_words.specs.Gates.{is_shut, count_of}
use Rattle.mako_words.specs.Words.{all_but}
use Rattle.mako_words.proofs.GateWords.{or_shut, and_open}
use Rattle.mako_shape.specs.declared.numbers.Numbers.{Numbers}
use Rattle.mako_shape.specs.Places.{Place, mutator_gate, tablet_gate, turn}
use Rattle.mako_shape.specs.Belongings.{server_of_tablet}
use Rattle.mako_step.specs.Acts.{after_op}
use Rattle.mako_step.specs.declared.act.Op.TheVariants.{Add, Sub, Or, And}
use Rattle.mako_gate.specs.Bits.{shut_bit}
use Rattle.mako_gate.specs.Sums.{counted}
use Rattle.mako_gate.specs.Changes.{tablets_of}
use Rattle.mako_gate.specs.Standings.{away, GateFacet, arrived, holds_turn, shut_by, arrived_own, shut_own}
use Rattle.mako_gate.specs.Gates.{Gate, Gates}
use Rattle.mako_gate.proofs.Lists.{sum_at, le_sum, some_term, none_along}

-- ---- words of gates

pub clear : (w : ℕ) → is_shut w ≡ false → w < shut_bit
clear w e = grind (arith, nat_tests)

pub set_bit : (w : ℕ) → shut_bit ≤ w → is_shut w ≡ true
set_bit w e = grind (arith, nat_tests)

-- a gate's word is below bit 17, so that sums and differences are those of numbers
pub below : (M W A I S D : ℕ) → M < 2 ^ 16 → Gate M W A I S D → W < 2 ^ 17
below M W A I S D many g = omega (arith, g.word_is, g.few, g.once)

pub one_more : (w : ℕ) → w < 2 ^ 17 → after_op (Add 1) w ≡ w + 1
one_more w h = omega arith

pub one_less : (w : ℕ) → w < 2 ^ 17 → 1 ≤ w → after_op (Sub 1) w + 1 ≡ w
one_less w h one = omega arith

pub shut_more : (w : ℕ) → w < shut_bit → after_op (Or shut_bit) w ≡ w + shut_bit
shut_more w h = or_shut w h

pub shut_less : (w : ℕ) → shut_bit ≤ w → w < 2 ^ 17 → after_op (And (all_but shut_bit)) w + shut_bit ≡ w
shut_less w low high =
    let e : w ≡ (w - shut_bit) + shut_bit = omega arith in
    let a : after_op (And (all_but shut_bit)) w ≡ w - shut_bit =
    ap (λ y. bit_and y (all_but shut_bit)) e ∙ and_open (w - shut_bit) (omega arith) in
    omega arith

-- ---- what a view finds

module _ (n : Numbers) (W : Place
    → ℕ) (gs : List GateFacet) (o : Gates n W gs) (i : ℕ) (g : GateFacet) (here : slice_get gs i ≡ Some g) where
  -- a tablet's gate that its server has not shut is open
  pub stands_open : (u : ℕ) → u < tablets_of n → i ≡ n.mutators + server_of_tablet n u → shut_by u g.watch ≡ 0
      → W (tablet_gate u) < shut_bit
  stands_open u h seat none = elim (cases_lt 0 (sum_by (λ (x : GateFacet). shut_by u x.watch) gs)) [
    | inl l ↦ (let m = some_term (λ (x : GateFacet). shut_by u x.watch) gs l in
        let same : m.0 ≡ i = o.shutter m.0 u m.1 m.2 m.3 ∙ sym seat in
        let one : g ≡ m.1 = same_Some g m.1 (sym here ∙ ap (slice_get gs) (sym same) ∙ m.2) in
        absurd (let z = ap (λ (x : GateFacet). shut_by u x.watch) one in let p = m.3 in omega arith))
    | inr z ↦ (let q = o.tablets u h in omega (arith, q.word_is, q.few, o.many))
  ]

  -- a word with count 0 that is found by the server that keeps the gate shut is that of the shut gate alone
  pub count_zero : (u : ℕ) → u < tablets_of n → 1 ≤ shut_by u g.watch → count_of (W (tablet_gate u)) ≡ 0
      → W (tablet_gate u) ≡ shut_bit
  count_zero u h one none =
      let a = le_sum (λ (x : GateFacet). shut_by u x.watch) gs i g here in
      let q = o.tablets u h in omega (arith, q.word_is, q.few, q.once, o.many)

  -- who has arrived is counted, and who keeps a gate shut finds its bit
  pub arrived_word : (u : ℕ) → u < tablets_of n → 1 ≤ arrived u g.standing → 1 ≤ W (tablet_gate u)
  arrived_word u h one = let a = le_sum (λ (x : GateFacet). arrived u x.standing) gs i g here in
      omega (arith, (o.tablets u h).word_is)

  pub shut_word : (u : ℕ) → u < tablets_of n → 1 ≤ shut_by u g.watch → shut_bit ≤ W (tablet_gate u)
  shut_word u h one = let a = le_sum (λ (x : GateFacet). shut_by u x.watch) gs i g here in
      omega (arith, (o.tablets u h).word_is)

  -- the same at the mutators' gates, which the collector shuts
  pub own_open : (u : ℕ) → u < n.mutators → i ≡ n.mutators + n.servers → shut_own u g.watch ≡ 0
      → W (mutator_gate u) < shut_bit
  own_open u h seat none = elim (cases_lt 0 (sum_by (λ (x : GateFacet). shut_own u x.watch) gs)) [
    | inl l ↦ (let m = some_term (λ (x : GateFacet). shut_own u x.watch) gs l in
        let same : m.0 ≡ i = o.pauser m.0 u m.1 m.2 m.3 ∙ sym seat in
        let one : g ≡ m.1 = same_Some g m.1 (sym here ∙ ap (slice_get gs) (sym same) ∙ m.2) in
        absurd (let z = ap (λ (x : GateFacet). shut_own u x.watch) one in let p = m.3 in omega arith))
    | inr z ↦ (let q = o.owns u h in omega (arith, q.word_is, q.few, o.many))
  ]

  pub own_count_zero : (u : ℕ) → u < n.mutators → 1 ≤ shut_own u g.watch → count_of (W (mutator_gate u)) ≡ 0
      → W (mutator_gate u) ≡ shut_bit
  own_count_zero u h one none =
      let a = le_sum (λ (x : GateFacet). shut_own u x.watch) gs i g here in
      let q = o.owns u h in omega (arith, q.word_is, q.few, q.once, o.many)

  pub own_arrived_word : g.number < n.mutators → 1 ≤ arrived_own g.standing → 1 ≤ W (mutator_gate g.number)
  own_arrived_word h one =
      let a = le_sum (λ (x : GateFacet). counted (x.number == g.number) (arrived_own x.standing)) gs i g here in
      let e : counted (g.number == g.number) (arrived_own g.standing) ≡ arrived_own g.standing =
      ap (λ q. counted q (arrived_own g.standing)) (eq-eqb g.number g.number refl) in
      omega (arith, (o.owns g.number h).word_is)

  pub own_shut_word : (u : ℕ) → u < n.mutators → 1 ≤ shut_own u g.watch → shut_bit ≤ W (mutator_gate u)
  own_shut_word u h one = let a = le_sum (λ (x : GateFacet). shut_own u x.watch) gs i g here in
      omega (arith, (o.owns u h).word_is)

  -- a turn word names its holder
  pub held_word : (u : ℕ) → u < tablets_of n → holds_turn u g.standing ≡ 1 → W (turn u) ≡ g.number + 1
  held_word u h one =
      let z : GateFacet = record g { standing = away } in
      let a = sum_at (λ (x : GateFacet). holds_turn u x.standing) gs i g z here in
      let b = sum_at (λ (x : GateFacet). holds_turn u x.standing * (x.number + 1)) gs i g z here in
      let c = o.holder u h in
      let d = o.turns u h in
      let none = none_along (λ (x : GateFacet). holds_turn u x.standing)
      (λ (x : GateFacet). holds_turn u x.standing * (x.number + 1))
      (λ x e. rw e (omega arith)) (set gs i z) (omega arith) in
      let mine : holds_turn u g.standing * (g.number + 1) ≡ g.number + 1 = rw one (omega arith) in
      omega arith
