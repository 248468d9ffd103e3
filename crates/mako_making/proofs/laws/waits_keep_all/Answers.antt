use Rattle.mako_making.proofs.Wholes.{collects_keep, waits_keep, ends_keep}
use Rattle.mako_making.proofs.laws.waits_keep_all.Goals as goal

pub returns-clause-collects : goal.returns-clause-collects
returns-clause-collects c = collects_keep

pub returns-clause-waits : goal.returns-clause-waits
returns-clause-waits c = waits_keep

pub returns-clause-ends : goal.returns-clause-ends
returns-clause-ends c = ends_keep
