use Rattle.mako_model.proofs.Sizes.{points_keep_small}
use Rattle.mako_model.proofs.laws.objects_stay_small.Goals as goal

pub returns : goal.returns
returns c = points_keep_small
