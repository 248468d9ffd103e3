-- What one view's step may do to gates and turns: the general form behind all kinds.
use Rattle.std.specs.Prelude.{ℕ, ◌≡◌, ◌+◌, ◌*◌, ◌<◌, ◌≤◌, ◌==◌, ◌⊎◌}
use Rattle.mako_shape.specs.declared.numbers.Numbers.{Numbers}
use Rattle.mako_shape.specs.Places.{Place, mutator_gate, tablet_gate, turn}
use Rattle.mako_shape.specs.Belongings.{server_of_tablet}
use Rattle.mako_gate.specs.Bits.{shut_bit}
use Rattle.mako_gate.specs.Sums.{counted}
use Rattle.mako_gate.specs.Changes.{tablets_of}
use Rattle.mako_gate.specs.Standings.{GateFacet, arrived, admitted, holds_turn, shut_by, drained_by, arrived_own}
use Rattle.mako_gate.specs.Standings.{admitted_own, shut_own, drained_own}

-- At one gate: the word goes from W to V, and the view's part of each number from a to b (arrived), m to o (admitted),
-- s to u
-- (shut) and d to e (drained). A view shuts the gate and is admitted only where the shut bit is clear, and drains it
-- only
-- where the count is 0.
pub record Moves (W V a b m o s u d e : ℕ) : Type 0 where
  pub word : V + a + shut_bit * s ≡ W + b + shut_bit * u
  pub shut : (u ≤ s) ⊎ ((W < shut_bit) × (u ≤ 1))
  pub admits : (o ≤ m) ⊎ ((W < shut_bit) × (e ≤ d))
  pub drains : (e ≤ d) ⊎ ((W ≡ shut_bit) × (o ≤ m))

-- at a tablet's gate
abbrev pub TabletMoves : ℕ → ℕ → ℕ → GateFacet → GateFacet → Type 0
TabletMoves t W V f g = Moves W V
    (arrived t f.standing) (arrived t g.standing) (admitted t f.standing) (admitted t g.standing)
    (shut_by t f.watch) (shut_by t g.watch) (drained_by t f.watch) (drained_by t g.watch)

-- at a mutator's gate
abbrev pub OwnMoves : ℕ → ℕ → ℕ → GateFacet → GateFacet → Type 0
OwnMoves k W V f g = Moves W V
    (counted (f.number == k) (arrived_own f.standing)) (counted (g.number == k) (arrived_own g.standing))
    (counted (f.number == k) (admitted_own f.standing)) (counted (g.number == k) (admitted_own g.standing))
    (shut_own k f.watch) (shut_own k g.watch) (drained_own k f.watch) (drained_own k g.watch)

-- the step of the view at seat i, from f to g
pub record GateStep (n : Numbers) (W V : Place → ℕ) (i : ℕ) (f g : GateFacet) : Type 0 where
  pub tablets : (t : ℕ) → t < tablets_of n → TabletMoves t (W (tablet_gate t)) (V (tablet_gate t)) f g
  pub owns : (m : ℕ) → m < n.mutators → OwnMoves m (W (mutator_gate m)) (V (mutator_gate m)) f g
  pub turns : (t : ℕ) → t < tablets_of n →
      V (turn t) + holds_turn t f.standing * (f.number + 1) ≡ W (turn t) + holds_turn t g.standing * (g.number + 1)
  pub holder : (t : ℕ) → t < tablets_of n → (holds_turn t g.standing ≤ holds_turn t f.standing) ⊎ (W (turn t) ≡ 0)
  pub number : g.number ≡ f.number
  pub mutator : 1 ≤ arrived_own g.standing → g.number < n.mutators
  pub seat : 1 ≤ arrived_own g.standing → g.number ≡ i
  pub shutter : (t : ℕ) → 1 ≤ shut_by t g.watch → (1 ≤ shut_by t f.watch) ⊎ (i ≡ n.mutators + server_of_tablet n t)
  pub pauser : (m : ℕ) → 1 ≤ shut_own m g.watch → (1 ≤ shut_own m f.watch) ⊎ (i ≡ n.mutators + n.servers)
