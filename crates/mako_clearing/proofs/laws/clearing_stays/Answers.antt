use Rattle.mako_clearing.proofs.Staying.{clearing_stays}
use Rattle.mako_clearing.proofs.laws.clearing_stays.Goals as goal

pub returns : goal.returns
returns c = clearing_stays
