use Rattle.mako_joint.proofs.Heaps.{values_fit}
use Rattle.mako_joint.proofs.laws.values_fit.Goals as goal

pub returns : goal.returns
returns c = values_fit
