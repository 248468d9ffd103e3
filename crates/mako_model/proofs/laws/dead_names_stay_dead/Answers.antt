use Rattle.mako_model.proofs.DeadApart.{dead_later}
use Rattle.mako_model.proofs.laws.dead_names_stay_dead.Goals as goal

pub returns : goal.returns
returns c = dead_later
