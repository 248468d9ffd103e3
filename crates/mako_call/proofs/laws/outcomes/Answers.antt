use Rattle.mako_call.proofs.Shown.{outcomes_are_caused}
use Rattle.mako_call.proofs.Stopping.{shut_gates_stop}
use Rattle.mako_call.proofs.laws.outcomes.Goals as goal

pub returns-clause-causes : goal.returns-clause-causes
returns-clause-causes c = outcomes_are_caused

pub returns-clause-stopped : goal.returns-clause-stopped
returns-clause-stopped c = shut_gates_stop
