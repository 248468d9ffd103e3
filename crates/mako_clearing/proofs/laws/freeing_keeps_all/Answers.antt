use Rattle.mako_clearing.proofs.Keeping.{freeing_keeps}
use Rattle.mako_clearing.proofs.laws.freeing_keeps_all.Goals as goal

pub returns : goal.returns
returns c = freeing_keeps
