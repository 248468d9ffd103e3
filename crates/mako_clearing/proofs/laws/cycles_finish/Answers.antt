use Rattle.mako_clearing.proofs.Finishing.{finish_keeps}
use Rattle.mako_clearing.proofs.laws.cycles_finish.Goals as goal

pub returns : goal.returns
returns c = finish_keeps
