use Rattle.mako_call.proofs.Decided.{points_decided}
use Rattle.mako_call.proofs.laws.deciding.Goals as goal

pub returns : goal.returns
returns c = points_decided
