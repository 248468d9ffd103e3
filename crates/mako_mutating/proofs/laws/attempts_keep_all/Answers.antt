use Rattle.mako_mutating.proofs.Finishing.{finishes_keep}
use Rattle.mako_mutating.proofs.MoveSteps.{attempts_keep, attempts_can_go}
use Rattle.mako_mutating.proofs.laws.attempts_keep_all.Goals as goal

pub returns-clause-keep : goal.returns-clause-keep
returns-clause-keep c = attempts_keep

pub returns-clause-go : goal.returns-clause-go
returns-clause-go c = attempts_can_go

pub returns-clause-end : goal.returns-clause-end
returns-clause-end c = finishes_keep
