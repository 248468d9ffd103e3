use Rattle.mako_gate.proofs.GatesHold.{opening_has}
use Rattle.mako_gate.proofs.laws.opening_gates.Goals as goal

pub returns : goal.returns
returns c = opening_has
