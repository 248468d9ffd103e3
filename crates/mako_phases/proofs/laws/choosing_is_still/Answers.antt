use Rattle.mako_phases.proofs.Says.{waiting_stay, choosing_still}
use Rattle.mako_phases.proofs.laws.choosing_is_still.Goals as goal

pub returns : goal.returns
returns c = record { still = choosing_still; waiting = waiting_stay }
