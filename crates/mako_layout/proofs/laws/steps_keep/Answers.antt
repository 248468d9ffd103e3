use Rattle.mako_layout.proofs.EachStep.{each_step_keeps}
use Rattle.mako_layout.proofs.laws.steps_keep.Goals as goal

pub returns : goal.returns
returns c = each_step_keeps
