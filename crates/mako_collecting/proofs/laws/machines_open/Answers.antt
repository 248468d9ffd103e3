use Rattle.mako_collecting.proofs.Opening.{machines_open}
use Rattle.mako_collecting.proofs.laws.machines_open.Goals as goal

pub returns : goal.returns
returns c = machines_open
