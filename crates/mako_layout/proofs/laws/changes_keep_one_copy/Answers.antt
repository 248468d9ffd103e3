use Rattle.mako_layout.proofs.Puts.{put_kept}
use Rattle.mako_layout.proofs.Alterations.{alter_kept, clear_kept, finish_kept, cycle_kept}
use Rattle.mako_layout.proofs.Choices.{choose_kept, same_kept}
use Rattle.mako_layout.proofs.laws.changes_keep_one_copy.Goals as goal

pub returns-clause-put : goal.returns-clause-put
returns-clause-put c = put_kept

pub returns-clause-alter : goal.returns-clause-alter
returns-clause-alter c = alter_kept

pub returns-clause-choose : goal.returns-clause-choose
returns-clause-choose c = choose_kept

pub returns-clause-clear : goal.returns-clause-clear
returns-clause-clear c = clear_kept

pub returns-clause-finish : goal.returns-clause-finish
returns-clause-finish c = finish_kept

pub returns-clause-cycle : goal.returns-clause-cycle
returns-clause-cycle c = cycle_kept

pub returns-clause-same : goal.returns-clause-same
returns-clause-same c = same_kept
