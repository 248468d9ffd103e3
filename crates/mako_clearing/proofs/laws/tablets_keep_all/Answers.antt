use Rattle.mako_clearing.proofs.Keeping.{tablets_keep}
use Rattle.mako_clearing.proofs.laws.tablets_keep_all.Goals as goal

pub returns : goal.returns
returns c = tablets_keep
