use Rattle.mako_sitting_collector.proofs.CollectorGoingBarriers.{looks_find_names, emptying_leaves_names}
use Rattle.mako_sitting_collector.proofs.CollectorGoingBarriers.{puts_leave_names}
use Rattle.mako_sitting_collector.proofs.laws.barriers_have_names.Goals as goal

pub returns-clause-looks : goal.returns-clause-looks
returns-clause-looks c = looks_find_names

pub returns-clause-emptied : goal.returns-clause-emptied
returns-clause-emptied c = emptying_leaves_names

pub returns-clause-put : goal.returns-clause-put
returns-clause-put c = puts_leave_names
