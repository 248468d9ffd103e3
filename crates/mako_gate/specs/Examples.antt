-- A worked run: one mutator arrives at its gate and leaves, while the collector shuts, drains and reopens the gate.
use Rattle.std.specs.Prelude.{ℕ, List, [], ◌∷◌}
use Rattle.mako_shape.specs.declared.numbers.Numbers.{Numbers}
use Rattle.mako_shape.specs.Places.{Place, mutator_gate}
use Rattle.mako_gate.specs.Standings.{Standing, away, refused, inside, Watch, rests, pauses, GateFacet, mutator_at}
use Rattle.mako_gate.specs.Standings.{shutter_at}
use Rattle.mako_gate.specs.GateActions.{Reached}

-- one of everything
abbrev pub one : Numbers
one = record {
  mutators = 1;
  servers = 1;
  tablets = 1;
  entries = 1;
  words = 16;
  spare = 1;
  ring = 1;
  roots = 1;
  cycles = 1;
  generations = 1;
}

-- the mutators' gates have this word, and all other words are 0
abbrev pub only : ℕ → Place → ℕ
only x (mutator_gate m) = x
only x p = 0

-- the mutator stands so, the server rests, and the collector keeps this shut
abbrev pub seats : Standing → Watch → List GateFacet
seats s w = mutator_at 0 s ∷ shutter_at 1 rests ∷ shutter_at 2 w ∷ []

pub record WorkedRun : Type 0 where
  -- the mutator is inside, and the gate is shut over it
  pub entered : Reached one (only 1) (seats inside rests)
  pub is_shut : Reached one (only 0x10001) (seats inside (pauses 0 1 0))
  -- it has left, and a look has found the count 0
  pub drained : Reached one (only 0x10000) (seats away (pauses 0 1 1))
  -- another arrival is refused, and taken back before the gate is reopened
  pub turned_off : Reached one (only 0x10001) (seats refused (pauses 0 1 1))
  pub reopened : Reached one (only 0) (seats away rests)
  -- no run leads to a mutator inside its drained gate, whatever the words
  pub never : (W : Place → ℕ) → Reached one W (seats inside (pauses 0 1 1)) → ⊥
