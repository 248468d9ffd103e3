use Rattle.mako_evac.proofs.Rising.{evacuations_end}
use Rattle.mako_evac.proofs.Shown.{evacuations_go}
use Rattle.mako_evac.proofs.laws.evacuations.Goals as goal

pub returns-clause-goes : goal.returns-clause-goes
returns-clause-goes c = evacuations_go

pub returns-clause-ends : goal.returns-clause-ends
returns-clause-ends c = evacuations_end
