-- What gates and turns say of counts, of drained gates, of turns and of writers.
use Rattle.std.proofs.Common.{◌≡◌, ◌≢◌, ℕ, ◌+◌, ◌*◌, ◌<◌, ◌≤◌, ◌==◌, inl, inr, List, slice_get, Some, eq-eqb, sym, ap}
use Rattle.std.proofs.Common.{◌∙◌, refl, subst, arith}
use Rattle.std.proofs.lemmas.Bool.{cases_lt}
use Rattle.mako_shape.specs.declared.numbers.Numbers.{Numbers}
use Rattle.mako_shape.specs.Places.{Place, mutator_gate, tablet_gate, turn}
use Rattle.mako_gate.specs.Sums.{counted}
use Rattle.mako_gate.specs.Changes.{tablets_of}
use Rattle.mako_gate.specs.Standings.{GateFacet, admitted, holds_turn, drained_by, admitted_own, drained_own, writes}
use Rattle.mako_gate.specs.Gates.{Gates}
use Rattle.mako_gate.specs.GateLaws.{CountsArrivals, DrainedIsEmpty, TurnsNameHolders, GatesTell}
use Rattle.mako_gate.proofs.Lists.{le_sum, two_at, some_term}
use Rattle.mako_gate.proofs.Numbers.{arrived_le, arrived_own_le, admitted_le, holds_le, own_le, admitted_own_le}
use Rattle.mako_gate.proofs.Numbers.{drained_le, drained_own_le}
use Rattle.mako_gate.proofs.Found as found

module _ (n : Numbers) (W : Place → ℕ) (gs : List GateFacet) (o : Gates n W gs) where
  counts : CountsArrivals n W gs
  counts = record {
    tablets = λ t h. let g = o.tablets t h in omega (arith, g.word_is, g.few, o.many);
    owns = λ m h. let g = o.owns m h in omega (arith, g.word_is, g.few, o.many);
    tablets_most = λ t h. let g = o.tablets t h in omega (arith, g.word_is, g.few, o.many);
    owns_most = λ m h. let g = o.owns m h in omega (arith, g.word_is, g.few, o.many);
  }

  -- ---- drained gates

  nobody_at : (t i j : ℕ) (f g : GateFacet) → t < tablets_of n → slice_get gs i ≡ Some f → 1 ≤ drained_by t f.watch →
      slice_get gs j ≡ Some g → admitted t g.standing ≡ 0
  nobody_at t i j f g h at_i drains at_j =
      let d = le_sum (λ (x : GateFacet). drained_by t x.watch) gs i f at_i in
      let a = le_sum (λ (x : GateFacet). admitted t x.standing) gs j g at_j in
      let z = (o.tablets t h).nobody (omega arith) in
      omega arith

  -- a view that has the mutator's number
  nobody_inside : (i j : ℕ) (f g : GateFacet) → slice_get gs i ≡ Some f → g.number < n.mutators
      → 1 ≤ drained_own g.number f.watch →
      slice_get gs j ≡ Some g → admitted_own g.standing ≡ 0
  nobody_inside i j f g at_i h drains at_j =
      let d = le_sum (λ (x : GateFacet). drained_own g.number x.watch) gs i f at_i in
      let a = le_sum (λ (x : GateFacet). counted (x.number == g.number) (admitted_own x.standing)) gs j g at_j in
      let here : counted (g.number == g.number) (admitted_own g.standing) ≡ admitted_own g.standing =
      ap (λ q. counted q (admitted_own g.standing)) (eq-eqb g.number g.number refl) in
      let z = (o.owns g.number h).nobody (omega arith) in
      omega arith

  nobody_own : (m i : ℕ) (f g : GateFacet) → m < n.mutators → slice_get gs i ≡ Some f → 1 ≤ drained_own m f.watch →
      slice_get gs m ≡ Some g → admitted_own g.standing ≡ 0
  nobody_own m i f g h at_i drains at_m = elim (cases_lt 0 (admitted_own g.standing)) [
    | inl l ↦ (let same : g.number ≡ m = o.seat m g at_m (omega (arith, own_le g.standing)) in
        nobody_inside i m f g at_i (subst (λ q. q < n.mutators) (sym same) h)
        (subst (λ q. 1 ≤ drained_own q f.watch) (sym same) drains) at_m)
    | inr z ↦ omega arith
  ]

  nobody_anywhere : (i j : ℕ) (f g : GateFacet) → slice_get gs i ≡ Some f
      → ((m : ℕ) → m < n.mutators → 1 ≤ drained_own m f.watch) →
      slice_get gs j ≡ Some g → admitted_own g.standing ≡ 0
  nobody_anywhere i j f g at_i all at_j = elim (cases_lt 0 (admitted_own g.standing)) [
    | inl l ↦ (let in_range = o.mutator j g at_j (omega (arith, own_le g.standing)) in
        nobody_inside i j f g at_i in_range (all g.number in_range) at_j)
    | inr z ↦ omega arith
  ]

  drained : DrainedIsEmpty n W gs
  drained = record {
    tablets_shut = λ t i f h at_i drains. found.set_bit (W (tablet_gate t))
        (found.shut_word n W gs o i f at_i t h (omega (arith, drained_le t f.watch)));
    tablets_empty = nobody_at;
    owns_shut = λ m i f h at_i drains. found.set_bit (W (mutator_gate m))
        (found.own_shut_word n W gs o i f at_i m h (omega (arith, drained_own_le m f.watch)));
    owns_empty = nobody_own;
    all_empty = nobody_anywhere;
  }

  -- ---- turns

  at_seat : (t i : ℕ) (g : GateFacet) → slice_get gs i ≡ Some g → holds_turn t g.standing ≡ 1 → g.number ≡ i
  at_seat t i g at one =
      o.seat i g at (omega (arith, holds_le t g.standing, admitted_le t g.standing, arrived_le t g.standing))

  named : (t m : ℕ) (g : GateFacet) → t < tablets_of n → slice_get gs m ≡ Some g → holds_turn t g.standing ≡ 1
      → W (turn t) ≡ m + 1
  named t m g h at one = found.held_word n W gs o m g at t h one ∙ ap (λ q. q + 1) (at_seat t m g at one)

  -- a factor of a product that is not 0
  factor : (a b : ℕ) → 0 < a * b → 0 < a
  factor a b h = elim (cases_lt 0 a) [
    | inl l ↦ l
    | inr z ↦ (let e : a ≡ 0 = omega arith in
        absurd (let q : 0 < 0 * b = rw e at h in omega arith))
  ]

  holder : (t m : ℕ) → t < tablets_of n → W (turn t) ≡ m + 1 → (g : GateFacet) × (slice_get gs m ≡ Some g)
      × (holds_turn t g.standing ≡ 1)
  holder t m h word =
      let some = some_term (λ (x : GateFacet). holds_turn t x.standing * (x.number + 1)) gs
      (omega (arith, o.turns t h)) in
      let pos = factor (holds_turn t some.1.standing) (some.1.number + 1) some.3 in
      let one : holds_turn t some.1.standing ≡ 1 =
      omega (
        arith,
        holds_le t some.1.standing,
        admitted_le t some.1.standing,
        arrived_le t some.1.standing,
        arrived_own_le some.1.standing,
      ) in
      let there = named t some.0 some.1 h some.2 one in
      let same : some.0 ≡ m = omega arith in
      (some.1, subst (λ q. slice_get gs q ≡ Some some.1) same some.2, one)

  turns : TurnsNameHolders n W gs
  turns = record { named = named; held = holder; admitted_there = holds_le; admitted_within = admitted_own_le }

  -- ---- writers

  one_writer : (t i j : ℕ) (f g : GateFacet) → t < tablets_of n → i ≢ j → slice_get gs i ≡ Some f
      → slice_get gs j ≡ Some g →
      1 ≤ writes t f → writes t g ≡ 0
  one_writer t i j f g h d at_i at_j one =
      let a = two_at (λ (x : GateFacet). holds_turn t x.standing) gs i j f g d at_i at_j in
      let b = two_at (λ (x : GateFacet). drained_by t x.watch) gs i j f g d at_i at_j in
      let c = o.holder t h in
      let k = (o.tablets t h).kept in
      let s = (o.tablets t h).once in
      let hf = holds_le t f.standing in
      let hg = holds_le t g.standing in
      elim (cases_lt 0 (drained_by t f.watch)) [
        | inl l ↦ (let z = nobody_at t i j f g h at_i l at_j in omega arith)
        | inr m ↦ elim (cases_lt 0 (drained_by t g.watch)) [
          | inl l ↦ (let z = nobody_at t j i g f h at_j l at_i in omega arith)
          | inr z ↦ omega arith
        ]
      ]

  pub gates_tell : GatesTell n W gs
  gates_tell = record { counts = counts; drained = drained; turns = turns; writers = record { one = one_writer } }
