use Rattle.mako_clearing.proofs.Rooms.{freed_are_few}
use Rattle.mako_clearing.proofs.laws.freed_are_few.Goals as goal

pub returns : goal.returns
returns c = freed_are_few
