use Rattle.mako_ring.proofs.Words.{windows_stay}
use Rattle.mako_ring.proofs.laws.windows.Goals as goal

pub returns : goal.returns
returns c = windows_stay
