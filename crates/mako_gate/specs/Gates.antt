-- The law of gates and turns: what their words say of the views.
use Rattle.std.specs.Prelude.{ℕ, ◌≡◌, ◌+◌, ◌*◌, ◌<◌, ◌≤◌, ◌==◌, ◌^◌, List, slice_get, Some, sum_by}
use Rattle.mako_shape.specs.declared.numbers.Numbers.{Numbers}
use Rattle.mako_shape.specs.Places.{Place, mutator_gate, tablet_gate, turn}
use Rattle.mako_shape.specs.Belongings.{server_of_tablet}
use Rattle.mako_gate.specs.Bits.{shut_bit}
use Rattle.mako_gate.specs.Sums.{counted}
use Rattle.mako_gate.specs.Changes.{tablets_of}
use Rattle.mako_gate.specs.Standings.{GateFacet, arrived, admitted, holds_turn, shut_by, drained_by, arrived_own}
use Rattle.mako_gate.specs.Standings.{admitted_own, shut_own, drained_own}

-- The numbers of one gate: the most views that may be there, its word, and how many views arrived, are admitted, keep
-- it
-- shut and have drained it. While it is drained nobody is admitted.
pub record Gate (most word arrivals inside shut drained : ℕ) : Type 0 where
  pub word_is : word ≡ arrivals + shut_bit * shut
  pub few : arrivals ≤ most
  pub once : shut ≤ 1
  pub within : inside ≤ arrivals
  pub kept : drained ≤ shut
  pub nobody : 0 < drained → inside ≡ 0

-- the gate of a tablet
abbrev pub TabletGate : Numbers → ℕ → List GateFacet → ℕ → Type 0
TabletGate n t gs word = Gate n.mutators word
    (sum_by (λ g. arrived t g.standing) gs) (sum_by (λ g. admitted t g.standing) gs)
    (sum_by (λ g. shut_by t g.watch) gs) (sum_by (λ g. drained_by t g.watch) gs)

-- the gate of a mutator
abbrev pub OwnGate : Numbers → ℕ → List GateFacet → ℕ → Type 0
OwnGate n m gs word = Gate n.mutators word
    (sum_by (λ g. counted (g.number == m) (arrived_own g.standing)) gs)
    (sum_by (λ g. counted (g.number == m) (admitted_own g.standing)) gs)
    (sum_by (λ g. shut_own m g.watch) gs) (sum_by (λ g. drained_own m g.watch) gs)

-- All gates and turns. Words are read by place, and the views stand by seat.
pub record Gates (n : Numbers) (W : Place → ℕ) (gs : List GateFacet) : Type 0 where
  -- so that a count fits its bits
  pub many : n.mutators < 2 ^ 16
  pub tablets : (t : ℕ) → t < tablets_of n → TabletGate n t gs (W (tablet_gate t))
  pub owns : (m : ℕ) → m < n.mutators → OwnGate n m gs (W (mutator_gate m))
  -- a turn word names the holder, and there is one at most
  pub turns : (t : ℕ) → t < tablets_of n → W (turn t) ≡ sum_by (λ g. holds_turn t g.standing * (g.number + 1)) gs
  pub holder : (t : ℕ) → t < tablets_of n → sum_by (λ g. holds_turn t g.standing) gs ≤ 1
  -- mutators alone arrive, each at the seat of its number
  pub mutator : (i : ℕ) (g : GateFacet) → slice_get gs i ≡ Some g → 1 ≤ arrived_own g.standing → g.number < n.mutators
  pub seat : (i : ℕ) (g : GateFacet) → slice_get gs i ≡ Some g → 1 ≤ arrived_own g.standing → g.number ≡ i
  -- a tablet's gate is shut by its server alone, and a mutator's by the collector
  pub shutter : (i t : ℕ) (g : GateFacet) → slice_get gs i ≡ Some g → 1 ≤ shut_by t g.watch →
      i ≡ n.mutators + server_of_tablet n t
  pub pauser : (i m : ℕ) (g : GateFacet) → slice_get gs i ≡ Some g → 1 ≤ shut_own m g.watch →
      i ≡ n.mutators + n.servers
