-- Gates and turns: places off the layout.
use Rattle.std.proofs.Common.{ℕ, arith}
use Rattle.mako_shape.specs.Places.{Place, mutator_gate, tablet_gate, turn}
use Rattle.mako_state.proofs.Words.{IsOffLayout}

-- a gate or a turn
pub record IsGate (p : Place) : Type 0 where
  pub off : IsOffLayout p

pub own_gate : (m : ℕ) → IsGate (mutator_gate m)
own_gate m = record {
  off = record {
    not_phase = λ e. omega arith;
    not_home = λ e. omega arith;
    not_top = λ e. omega arith;
    not_leaving = λ e. omega arith;
    not_entry = λ e. omega arith;
    not_region = λ e. omega arith;
  };
}

pub a_tablet_gate : (t : ℕ) → IsGate (tablet_gate t)
a_tablet_gate t = record {
  off = record {
    not_phase = λ e. omega arith;
    not_home = λ e. omega arith;
    not_top = λ e. omega arith;
    not_leaving = λ e. omega arith;
    not_entry = λ e. omega arith;
    not_region = λ e. omega arith;
  };
}

pub a_turn : (t : ℕ) → IsGate (turn t)
a_turn t = record {
  off = record {
    not_phase = λ e. omega arith;
    not_home = λ e. omega arith;
    not_top = λ e. omega arith;
    not_leaving = λ e. omega arith;
    not_entry = λ e. omega arith;
    not_region = λ e. omega arith;
  };
}
