use Rattle.mako_poll.proofs.AllSteps.{opening_holds}
use Rattle.mako_poll.proofs.Worlds.{opening_stands}
use Rattle.mako_poll.proofs.laws.opening.Goals as goal

pub returns : goal.returns
returns c = record { scene = opening_holds; world = opening_stands }
