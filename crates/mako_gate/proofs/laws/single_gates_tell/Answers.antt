use Rattle.mako_gate.proofs.SingleGates.{singles_tell}
use Rattle.mako_gate.proofs.laws.single_gates_tell.Goals as goal

pub returns : goal.returns
returns c = singles_tell
