use Rattle.mako_count.proofs.Over.{worked}
use Rattle.mako_count.proofs.laws.worked_example.Goals as goal

pub returns : goal.returns
returns c = worked
