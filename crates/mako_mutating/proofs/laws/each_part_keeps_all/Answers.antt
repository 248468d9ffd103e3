use Rattle.mako_mutating.proofs.MoveSteps.{arrivals_keep, roots_keep, enters_keep, moves_keep, gets_keep, puts_keep}
use Rattle.mako_mutating.proofs.MoveSteps.{leaves_keep}
use Rattle.mako_mutating.proofs.laws.each_part_keeps_all.Goals as goal

pub returns-clause-arrivals : goal.returns-clause-arrivals
returns-clause-arrivals c = arrivals_keep

pub returns-clause-roots : goal.returns-clause-roots
returns-clause-roots c = roots_keep

pub returns-clause-enters : goal.returns-clause-enters
returns-clause-enters c = enters_keep

pub returns-clause-gets : goal.returns-clause-gets
returns-clause-gets c = gets_keep

pub returns-clause-puts : goal.returns-clause-puts
returns-clause-puts c = puts_keep

pub returns-clause-leaves : goal.returns-clause-leaves
returns-clause-leaves c = leaves_keep

pub returns-clause-moves : goal.returns-clause-moves
returns-clause-moves c = moves_keep
