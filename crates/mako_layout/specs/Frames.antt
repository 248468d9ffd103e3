-- Which words a step left.
use Rattle.std.specs.Prelude.{ℕ, ◌≡◌, ◌<◌}
use Rattle.mako_shape.specs.declared.numbers.Numbers.{Numbers}
use Rattle.mako_shape.specs.Places.{Place, phase, entry, home, top, leaving, region_word, mutator_gate, tablet_gate}
use Rattle.mako_shape.specs.Places.{turn}
use Rattle.mako_gate.specs.Changes.{tablets_of, Sets, LeavesGates}
use Rattle.mako_layout.specs.Layouts.{entries_of, regions_of}

-- those from which the layout is read
pub record SameTable (n : Numbers) (W V : Place → ℕ) : Type 0 where
  pub phase : V phase ≡ W phase
  pub entries : (x : ℕ) → x < entries_of n → V (entry x) ≡ W (entry x)
  pub homes : (t : ℕ) → t < tablets_of n → V (home t) ≡ W (home t)
  pub tops : (t : ℕ) → t < tablets_of n → V (top t) ≡ W (top t)
  pub leavings : (t : ℕ) → t < tablets_of n → V (leaving t) ≡ W (leaving t)

-- and those of all regions
pub record LeavesLayout (n : Numbers) (W V : Place → ℕ) : Type 0 where
  pub table : SameTable n W V
  pub regions : (r a : ℕ) → r < regions_of n → a < n.words → V (region_word r a) ≡ W (region_word r a)

-- a place from which neither the layout nor a record is read
abbrev pub IsElsewhere : Place → Type 0
IsElsewhere phase = ⊥
IsElsewhere (home t) = ⊥
IsElsewhere (top t) = ⊥
IsElsewhere (leaving t) = ⊥
IsElsewhere (entry x) = ⊥
IsElsewhere (region_word r o) = ⊥
IsElsewhere p = Unit {0}

-- a place that is not a gate or a turn
abbrev pub IsNoGate : Place → Type 0
IsNoGate (mutator_gate m) = ⊥
IsNoGate (tablet_gate t) = ⊥
IsNoGate (turn t) = ⊥
IsNoGate p = Unit {0}

-- a change of the word at such a place leaves layout and records, or gates and turns
pub record PlacesAreApart : Type 0 where
  pub layout : (n : Numbers) (W V : Place → ℕ) (p : Place) (v : ℕ) → Sets n W V p v → IsElsewhere p → LeavesLayout n W V
  pub gates : (n : Numbers) (W V : Place → ℕ) (p : Place) (v : ℕ) → Sets n W V p v → IsNoGate p → LeavesGates n W V
