use Rattle.mako_gate.proofs.GatesHold.{reached_have}
use Rattle.mako_gate.proofs.laws.gates_hold_always.Goals as goal

pub returns : goal.returns
returns c = reached_have
