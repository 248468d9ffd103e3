use Rattle.mako_names.proofs.StepsKept.{step_kept, elsewhere_step}
use Rattle.mako_names.proofs.laws.names_are_kept.Goals as goal

pub returns : goal.returns
returns c = record { steps = step_kept; elsewhere = elsewhere_step }
