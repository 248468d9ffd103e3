use Rattle.mako_alloc.proofs.Bounds.{rank_is_small}
use Rattle.mako_alloc.proofs.laws.ranks.Goals as goal

pub returns : goal.returns
returns c = rank_is_small
