use Rattle.mako_sitting_mutators.proofs.MutatorSteps.{mutators_keep_all}
use Rattle.mako_sitting_mutators.proofs.MutatorTurns.{mutators_can_go}
use Rattle.mako_sitting_mutators.proofs.laws.mutators_keep_all_seats.Goals as goal

pub returns-clause-go : goal.returns-clause-go
returns-clause-go c = mutators_can_go

pub returns-clause-keep : goal.returns-clause-keep
returns-clause-keep c = mutators_keep_all
