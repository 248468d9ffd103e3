use Rattle.mako_gate.proofs.GatesTell.{gates_tell}
use Rattle.mako_gate.proofs.laws.gates_tell.Goals as goal

pub returns : goal.returns
returns c = gates_tell
