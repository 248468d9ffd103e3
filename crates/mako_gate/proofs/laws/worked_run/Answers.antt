use Rattle.mako_gate.proofs.Examples as examples
use Rattle.mako_gate.proofs.laws.worked_run.Goals as goal

pub returns : goal.returns
returns c = examples.worked_run
