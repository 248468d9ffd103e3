use Rattle.mako_making.proofs.Going.{makings_can_go}
use Rattle.mako_making.proofs.laws.makings_can_go.Goals as goal

pub returns : goal.returns
returns c = makings_can_go
