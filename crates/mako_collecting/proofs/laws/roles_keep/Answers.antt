use Rattle.mako_collecting.proofs.LeavesKept.{choices_begin, steps_leave_kept}
use Rattle.mako_collecting.proofs.Roles.{gifts_may_be_given}
use Rattle.mako_collecting.proofs.RolesKept.{choices_are_kept}
use Rattle.mako_collecting.proofs.laws.roles_keep.Goals as goal

pub returns-clause-begin : goal.returns-clause-begin
returns-clause-begin c = choices_begin

pub returns-clause-kept : goal.returns-clause-kept
returns-clause-kept c = choices_are_kept

pub returns-clause-gifts : goal.returns-clause-gifts
returns-clause-gifts c = gifts_may_be_given

pub returns-clause-rest : goal.returns-clause-rest
returns-clause-rest c = steps_leave_kept
