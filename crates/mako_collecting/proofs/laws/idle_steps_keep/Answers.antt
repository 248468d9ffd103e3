use Rattle.mako_collecting.proofs.EachStage.{idle_steps_keep}
use Rattle.mako_collecting.proofs.laws.idle_steps_keep.Goals as goal

pub returns : goal.returns
returns c = idle_steps_keep
