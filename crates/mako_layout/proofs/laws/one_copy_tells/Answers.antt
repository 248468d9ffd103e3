use Rattle.mako_layout.proofs.Roles.{copy_fits, all_moved, free_above}
use Rattle.mako_layout.proofs.laws.one_copy_tells.Goals as goal

pub returns-clause-fits : goal.returns-clause-fits
returns-clause-fits c = copy_fits

pub returns-clause-moved : goal.returns-clause-moved
returns-clause-moved c = all_moved

pub returns-clause-free : goal.returns-clause-free
returns-clause-free c = free_above
