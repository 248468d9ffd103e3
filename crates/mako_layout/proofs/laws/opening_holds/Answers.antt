use Rattle.mako_layout.proofs.Opens.{opening_holds}
use Rattle.mako_layout.proofs.laws.opening_holds.Goals as goal

pub returns : goal.returns
returns c = opening_holds
