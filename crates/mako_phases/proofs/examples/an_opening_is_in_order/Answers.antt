use Rattle.mako_phases.proofs.Worked.{opened_order}
use Rattle.mako_phases.proofs.examples.an_opening_is_in_order.Goals as goal

pub returns : goal.returns
returns c = opened_order
