use Rattle.mako_cycles.proofs.Gifts.{collectors_give}
use Rattle.mako_cycles.proofs.laws.gifts.Goals as goal

pub returns : goal.returns
returns c = collectors_give
