use Rattle.mako_clearing.proofs.Rings.{sending_stays}
use Rattle.mako_clearing.proofs.laws.sending_stays.Goals as goal

pub returns : goal.returns
returns c = sending_stays
