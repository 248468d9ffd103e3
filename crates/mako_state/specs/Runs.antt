-- Runs of a core: the states to which it comes.
use Rattle.std.specs.Prelude.{ℕ}
use Rattle.mako_script.specs.Scripts.{ScriptView}
use Rattle.mako_state.specs.CoreStates.{CoreState, step_of}
use Rattle.mako_state.specs.Openings.{opening_core}

-- those to which it comes from its start, by steps of any seats in any order
pub data Reached (s : ScriptView) : CoreState → Type 0 where
  Starts : Reached s (opening_core s)
  Steps : (st : CoreState) (seat : ℕ) → Reached s st → Reached s (step_of st seat)
