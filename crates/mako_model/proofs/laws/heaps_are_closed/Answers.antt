use Rattle.mako_model.proofs.Closed.{closed_heap}
use Rattle.mako_model.proofs.laws.heaps_are_closed.Goals as goal

pub returns : goal.returns
returns c = closed_heap
