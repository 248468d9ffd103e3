use Rattle.mako_layout.proofs.Conclusions.{begun_copies_fit, what_is_left_fits, cleared_tops_are_exact, used_is_made}
use Rattle.mako_layout.proofs.laws.room_tells.Goals as goal

pub returns-clause-begun : goal.returns-clause-begun
returns-clause-begun c = begun_copies_fit

pub returns-clause-left : goal.returns-clause-left
returns-clause-left c = what_is_left_fits

pub returns-clause-cleared : goal.returns-clause-cleared
returns-clause-cleared c = cleared_tops_are_exact

pub returns-clause-made : goal.returns-clause-made
returns-clause-made c = used_is_made
