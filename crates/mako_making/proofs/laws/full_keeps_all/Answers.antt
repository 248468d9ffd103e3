use Rattle.mako_making.proofs.Wholes.{filled_keep}
use Rattle.mako_making.proofs.laws.full_keeps_all.Goals as goal

pub returns : goal.returns
returns c = filled_keep
