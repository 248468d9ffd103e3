use Rattle.mako_collecting.proofs.EachStage.{choice_steps_keep}
use Rattle.mako_collecting.proofs.laws.choices_keep.Goals as goal

pub returns : goal.returns
returns c = choice_steps_keep
