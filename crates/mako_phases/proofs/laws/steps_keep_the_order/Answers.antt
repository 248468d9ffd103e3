use Rattle.mako_phases.proofs.AllPhases.{phase_kept}
use Rattle.mako_phases.proofs.laws.steps_keep_the_order.Goals as goal

pub returns : goal.returns
returns c = phase_kept
