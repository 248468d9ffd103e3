use Rattle.mako_mutating.proofs.Beside.{others_leave}
use Rattle.mako_mutating.proofs.Others.{steps_leave_others}
use Rattle.mako_mutating.proofs.laws.others_leave_mutators.Goals as goal

pub returns-clause-keep : goal.returns-clause-keep
returns-clause-keep c = others_leave

pub returns-clause-steps : goal.returns-clause-steps
returns-clause-steps c = steps_leave_others
