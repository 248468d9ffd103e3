use Rattle.mako_clearing.proofs.Hearing.{hearing_keeps}
use Rattle.mako_clearing.proofs.laws.hearing_keeps_all.Goals as goal

pub returns : goal.returns
returns c = hearing_keeps
