use Rattle.mako_clearing.proofs.Sizes.{points_keep_sizes}
use Rattle.mako_clearing.proofs.Smallness.{objects_stay_small}
use Rattle.mako_clearing.proofs.laws.objects_stay_small.Goals as goal

pub returns-clause-small : goal.returns-clause-small
returns-clause-small c = objects_stay_small

pub returns-clause-sizes : goal.returns-clause-sizes
returns-clause-sizes c = points_keep_sizes
