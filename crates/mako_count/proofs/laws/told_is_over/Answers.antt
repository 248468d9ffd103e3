use Rattle.mako_count.proofs.Over.{told_over}
use Rattle.mako_count.proofs.laws.told_is_over.Goals as goal

pub returns : goal.returns
returns c = told_over
