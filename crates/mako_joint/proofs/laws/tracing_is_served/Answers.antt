use Rattle.mako_joint.proofs.Heaps.{heaps_stand}
use Rattle.mako_joint.proofs.Epochs.{all_marked}
use Rattle.mako_joint.proofs.laws.tracing_is_served.Goals as goal

pub returns-clause-heap : goal.returns-clause-heap
returns-clause-heap c = heaps_stand

pub returns-clause-marked : goal.returns-clause-marked
returns-clause-marked c = all_marked
