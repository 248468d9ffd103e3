use Rattle.mako_cycles.proofs.Moments.{collectors_go}
use Rattle.mako_cycles.proofs.laws.cycles.Goals as goal

pub returns : goal.returns
returns c = collectors_go
