use Rattle.mako_phases.proofs.Reaching.{opening_order, reached_order}
use Rattle.mako_phases.proofs.laws.all_reached_are_in_order.Goals as goal

pub returns : goal.returns
returns c = record { opening = opening_order; reached = reached_order }
