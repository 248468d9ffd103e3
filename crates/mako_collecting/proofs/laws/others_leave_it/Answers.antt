use Rattle.mako_collecting.proofs.Others.{others_leave_it, puts_leave_it}
use Rattle.mako_collecting.proofs.laws.others_leave_it.Goals as goal

pub returns-clause-others : goal.returns-clause-others
returns-clause-others c = others_leave_it

pub returns-clause-puts : goal.returns-clause-puts
returns-clause-puts c = puts_leave_it
