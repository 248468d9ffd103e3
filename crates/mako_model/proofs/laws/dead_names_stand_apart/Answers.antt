use Rattle.mako_model.proofs.DeadApart.{dead_stand_apart}
use Rattle.mako_model.proofs.laws.dead_names_stand_apart.Goals as goal

pub returns : goal.returns
returns c = dead_stand_apart
