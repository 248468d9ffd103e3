use Rattle.mako_collecting.proofs.EachKept.{seats_stay, steps_keep_their_own}
use Rattle.mako_collecting.proofs.Known.{steps_keep_known, stands_go_on}
use Rattle.mako_collecting.proofs.laws.machines_keep.Goals as goal

pub returns-clause-seat : goal.returns-clause-seat
returns-clause-seat c = seats_stay

pub returns-clause-own : goal.returns-clause-own
returns-clause-own c = steps_keep_their_own

pub returns-clause-known : goal.returns-clause-known
returns-clause-known c = steps_keep_known

pub returns-clause-again : goal.returns-clause-again
returns-clause-again c = stands_go_on
