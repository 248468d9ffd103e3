-- The laws of gates and turns: they are kept, they hold from the opening on, and what they say.
use Rattle.std.specs.Prelude.{ℕ, true, ◌≡◌, ◌≢◌, ◌+◌, ◌<◌, ◌≤◌, ◌==◌, ◌^◌, List, slice_get, slice_set, Some, sum_by}
use Rattle.mako_words.specs.Gates.{is_shut, count_of}
use Rattle.mako_shape.specs.declared.numbers.Numbers.{Numbers}
use Rattle.mako_shape.specs.Places.{Place, mutator_gate, tablet_gate, turn}
use Rattle.mako_gate.specs.Sums.{counted}
use Rattle.mako_gate.specs.Changes.{tablets_of}
use Rattle.mako_gate.specs.Standings.{Standing, GateFacet, arrived, admitted, holds_turn, drained_by, arrived_own}
use Rattle.mako_gate.specs.Standings.{admitted_own, drained_own, writes}
use Rattle.mako_gate.specs.Gates.{Gates}
use Rattle.mako_gate.specs.GateSteps.{GateStep}
use Rattle.mako_gate.specs.GateActions.{GateAction, OpensGates, Reached}

-- a step of the general form keeps them
abbrev pub StepsKeepGates : Type 0
StepsKeepGates = (n : Numbers) (W V : Place → ℕ) (gs : List GateFacet) (i : ℕ) (f g : GateFacet) → Gates n W gs →
    slice_get gs i ≡ Some f → GateStep n W V i f g → Gates n V (slice_set gs i g)

-- each act is such a step
abbrev pub ActionsAreSteps : Type 0
ActionsAreSteps = (n : Numbers) (W V : Place → ℕ) (gs : List GateFacet) (i : ℕ) (f g : GateFacet) → Gates n W gs →
    slice_get gs i ≡ Some f → GateAction n W V i f g → GateStep n W V i f g

-- they hold at the opening
abbrev pub OpeningsHaveGates : Type 0
OpeningsHaveGates = (n : Numbers) (W : Place → ℕ) (gs : List GateFacet) → n.mutators < 2 ^ 16 →
    OpensGates n W gs → Gates n W gs

-- and after any list of acts
abbrev pub ReachedHaveGates : Type 0
ReachedHaveGates = (n : Numbers) (W : Place → ℕ) (gs : List GateFacet) → n.mutators < 2 ^ 16 → Reached n W gs →
    Gates n W gs

-- a gate's count is the number of views that arrived there and have not left, one for each mutator at most
pub record CountsArrivals (n : Numbers) (W : Place → ℕ) (gs : List GateFacet) : Type 0 where
  pub tablets : (t : ℕ) → t < tablets_of n → count_of (W (tablet_gate t)) ≡ sum_by (λ g. arrived t g.standing) gs
  pub owns : (m : ℕ) → m < n.mutators →
      count_of (W (mutator_gate m)) ≡ sum_by (λ g. counted (g.number == m) (arrived_own g.standing)) gs
  pub tablets_most : (t : ℕ) → t < tablets_of n → count_of (W (tablet_gate t)) ≤ n.mutators
  pub owns_most : (m : ℕ) → m < n.mutators → count_of (W (mutator_gate m)) ≤ n.mutators

-- from the look of a seat that found the count 0 until it reopens, the shut bit stands and nobody is admitted
pub record DrainedIsEmpty (n : Numbers) (W : Place → ℕ) (gs : List GateFacet) : Type 0 where
  pub tablets_shut : (t i : ℕ) (f : GateFacet) → t < tablets_of n → slice_get gs i ≡ Some f →
      1 ≤ drained_by t f.watch → is_shut (W (tablet_gate t)) ≡ true
  pub tablets_empty : (t i j : ℕ) (f g : GateFacet) → t < tablets_of n → slice_get gs i ≡ Some f →
      1 ≤ drained_by t f.watch → slice_get gs j ≡ Some g → admitted t g.standing ≡ 0
  pub owns_shut : (m i : ℕ) (f : GateFacet) → m < n.mutators → slice_get gs i ≡ Some f → 1 ≤ drained_own m f.watch →
      is_shut (W (mutator_gate m)) ≡ true
  pub owns_empty : (m i : ℕ) (f g : GateFacet) → m < n.mutators → slice_get gs i ≡ Some f →
      1 ≤ drained_own m f.watch → slice_get gs m ≡ Some g → admitted_own g.standing ≡ 0
  -- with the gates of all mutators drained nobody is admitted anywhere
  pub all_empty : (i j : ℕ) (f g : GateFacet) → slice_get gs i ≡ Some f →
      ((m : ℕ) → m < n.mutators → 1 ≤ drained_own m f.watch) → slice_get gs j ≡ Some g → admitted_own g.standing ≡ 0

-- a turn word is m + 1 exactly where mutator m holds the turn, and who holds it is admitted at the tablet and at its
-- own gate
pub record TurnsNameHolders (n : Numbers) (W : Place → ℕ) (gs : List GateFacet) : Type 0 where
  pub named : (t m : ℕ) (g : GateFacet) → t < tablets_of n → slice_get gs m ≡ Some g → holds_turn t g.standing ≡ 1 →
      W (turn t) ≡ m + 1
  pub held : (t m : ℕ) → t < tablets_of n → W (turn t) ≡ m + 1 →
      (g : GateFacet) × (slice_get gs m ≡ Some g) × (holds_turn t g.standing ≡ 1)
  pub admitted_there : (t : ℕ) (s : Standing) → holds_turn t s ≤ admitted t s
  pub admitted_within : (t : ℕ) (s : Standing) → admitted t s ≤ admitted_own s

-- of two seats one at most may write in a tablet
pub record OneWrites (n : Numbers) (gs : List GateFacet) : Type 0 where
  pub one : (t i j : ℕ) (f g : GateFacet) → t < tablets_of n → i ≢ j → slice_get gs i ≡ Some f →
      slice_get gs j ≡ Some g → 1 ≤ writes t f → writes t g ≡ 0

-- what gates and turns say
pub record GatesTell (n : Numbers) (W : Place → ℕ) (gs : List GateFacet) : Type 0 where
  pub counts : CountsArrivals n W gs
  pub drained : DrainedIsEmpty n W gs
  pub turns : TurnsNameHolders n W gs
  pub writers : OneWrites n gs
