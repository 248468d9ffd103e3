-- The acts at gates and turns, each at a seat that may make it, with the view before and after.
use Rattle.std.specs.Prelude.{ℕ, true, false, ◌≡◌, ◌+◌, ◌<◌, ◌≤◌, List, slice_get, slice_set, Some}
use Rattle.mako_words.specs.Gates.{is_shut, count_of}
use Rattle.mako_words.specs.Words.{all_but}
use Rattle.mako_shape.specs.declared.numbers.Numbers.{Numbers}
use Rattle.mako_shape.specs.Places.{Place, mutator_gate, tablet_gate, turn}
use Rattle.mako_shape.specs.Belongings.{server_of_tablet}
use Rattle.mako_step.specs.declared.act.Op.TheVariants.{Load, Store, Add, Sub, Or, And, Exchange}
use Rattle.mako_gate.specs.Bits.{shut_bit}
use Rattle.mako_gate.specs.Changes.{Makes, LeavesGates, tablets_of}
use Rattle.mako_gate.specs.Standings.{away, refused, inside, turned_away, at_tablet, with_turn, rests, keeps_shut}
use Rattle.mako_gate.specs.Standings.{has_drained, pauses, GateFacet, mutator_at, shutter_at}

-- The words go from W to V. A mutator's seat is its number; then come the servers' seats, and the collector's.
pub data GateAction (n : Numbers) (W V : Place → ℕ) : ℕ → GateFacet → GateFacet → Type 0 where
  -- a mutator that is away arrives at its own gate: it is admitted where the shut bit is clear, and else refused
  arrives : (m : ℕ) → m < n.mutators → is_shut (W (mutator_gate m)) ≡ false → Makes n W V (mutator_gate m) (Add 1) →
      GateAction n W V m (mutator_at m away) (mutator_at m inside)
  is_refused : (m : ℕ) → m < n.mutators → is_shut (W (mutator_gate m)) ≡ true → Makes n W V (mutator_gate m) (Add 1) →
      GateAction n W V m (mutator_at m away) (mutator_at m refused)
  -- it leaves its own gate only while it is at no tablet's
  departs : (m : ℕ) → m < n.mutators → Makes n W V (mutator_gate m) (Sub 1) →
      GateAction n W V m (mutator_at m inside) (mutator_at m away)
  steps_back : (m : ℕ) → m < n.mutators → Makes n W V (mutator_gate m) (Sub 1) →
      GateAction n W V m (mutator_at m refused) (mutator_at m away)
  -- admitted at its own gate it arrives at a tablet's
  enters : (m t : ℕ) → m < n.mutators → t < tablets_of n → is_shut (W (tablet_gate t)) ≡ false →
      Makes n W V (tablet_gate t) (Add 1) → GateAction n W V m (mutator_at m inside) (mutator_at m (at_tablet t))
  is_turned_away : (m t : ℕ) → m < n.mutators → t < tablets_of n → is_shut (W (tablet_gate t)) ≡ true →
      Makes n W V (tablet_gate t) (Add 1) → GateAction n W V m (mutator_at m inside) (mutator_at m (turned_away t))
  -- it leaves the tablet's gate only while it does not hold the turn
  leaves : (m t : ℕ) → m < n.mutators → t < tablets_of n → Makes n W V (tablet_gate t) (Sub 1) →
      GateAction n W V m (mutator_at m (at_tablet t)) (mutator_at m inside)
  turns_back : (m t : ℕ) → m < n.mutators → t < tablets_of n → Makes n W V (tablet_gate t) (Sub 1) →
      GateAction n W V m (mutator_at m (turned_away t)) (mutator_at m inside)
  -- admitted at the tablet it takes the turn where nobody holds it, and gives it back
  takes_turn : (m t : ℕ) → m < n.mutators → t < tablets_of n → W (turn t) ≡ 0 →
      Makes n W V (turn t) (Exchange 0 (m + 1)) →
      GateAction n W V m (mutator_at m (at_tablet t)) (mutator_at m (with_turn t))
  gives_turn : (m t : ℕ) → m < n.mutators → t < tablets_of n → Makes n W V (turn t) (Store 0) →
      GateAction n W V m (mutator_at m (with_turn t)) (mutator_at m (at_tablet t))
  -- the tablet's server shuts its gate, looks until the count is 0, and reopens it, drained or not
  shuts : (i k t : ℕ) → t < tablets_of n → i ≡ n.mutators + server_of_tablet n t →
      Makes n W V (tablet_gate t) (Or shut_bit) →
      GateAction n W V i (shutter_at k rests) (shutter_at k (keeps_shut t))
  drains : (i k t b : ℕ) → t < tablets_of n → count_of (W (tablet_gate t)) ≡ 0 → Makes n W V (tablet_gate t) Load →
      GateAction n W V i (shutter_at k (keeps_shut t)) (shutter_at k (has_drained t b))
  passes : (i k t b : ℕ) → LeavesGates n W V →
      GateAction n W V i (shutter_at k (has_drained t b)) (shutter_at k (has_drained t (b + 1)))
  reopens : (i k t b : ℕ) → t < tablets_of n → Makes n W V (tablet_gate t) (And (all_but shut_bit)) →
      GateAction n W V i (shutter_at k (has_drained t b)) (shutter_at k rests)
  gives_up : (i k t : ℕ) → t < tablets_of n → Makes n W V (tablet_gate t) (And (all_but shut_bit)) →
      GateAction n W V i (shutter_at k (keeps_shut t)) (shutter_at k rests)
  -- the collector does so at the mutators' gates, from one number on upwards
  pause_begins : (i k low : ℕ) → LeavesGates n W V →
      GateAction n W V i (shutter_at k rests) (shutter_at k (pauses low low low))
  pause_shuts : (i k low m drained : ℕ) → m < n.mutators → i ≡ n.mutators + n.servers → low ≤ m → drained ≤ m →
      Makes n W V (mutator_gate m) (Or shut_bit) →
      GateAction n W V i (shutter_at k (pauses low m drained)) (shutter_at k (pauses low (m + 1) drained))
  pause_looks : (i k low m high : ℕ) → m < n.mutators → low ≤ m → m < high → count_of (W (mutator_gate m)) ≡ 0 →
      Makes n W V (mutator_gate m) Load →
      GateAction n W V i (shutter_at k (pauses low high m)) (shutter_at k (pauses low high (m + 1)))
  pause_reopens : (i k m high drained : ℕ) → m < n.mutators → m < high →
      Makes n W V (mutator_gate m) (And (all_but shut_bit)) →
      GateAction n W V i (shutter_at k (pauses m high drained)) (shutter_at k (pauses (m + 1) high drained))
  pause_ends : (i k m drained : ℕ) → LeavesGates n W V →
      GateAction n W V i (shutter_at k (pauses m m drained)) (shutter_at k rests)
  -- an act that leaves these words: at other words, a look that finds a count, an exchange that finds the turn taken
  elsewhere : (i : ℕ) (g : GateFacet) → LeavesGates n W V → GateAction n W V i g g

-- no gate is shut, nobody is there, and no turn is taken
pub record OpensGates (n : Numbers) (W : Place → ℕ) (gs : List GateFacet) : Type 0 where
  pub tablets : (t : ℕ) → t < tablets_of n → W (tablet_gate t) ≡ 0
  pub owns : (m : ℕ) → m < n.mutators → W (mutator_gate m) ≡ 0
  pub turns : (t : ℕ) → t < tablets_of n → W (turn t) ≡ 0
  pub away_all : (i : ℕ) (g : GateFacet) → slice_get gs i ≡ Some g → g.standing ≡ away
  pub rest_all : (i : ℕ) (g : GateFacet) → slice_get gs i ≡ Some g → g.watch ≡ rests

-- what any list of such acts leads to from the opening
pub data Reached (n : Numbers) : (Place → ℕ) → List GateFacet → Type 0 where
  opens : (W : Place → ℕ) (gs : List GateFacet) → OpensGates n W gs → Reached n W gs
  goes_on : (W V : Place → ℕ) (gs : List GateFacet) (i : ℕ) (f g : GateFacet) → Reached n W gs →
      slice_get gs i ≡ Some f → GateAction n W V i f g → Reached n V (slice_set gs i g)
