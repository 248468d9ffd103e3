use Rattle.mako_model.proofs.Beginnings.{begins_with_itself}
use Rattle.mako_model.proofs.laws.fronts_begin_with_themselves.Goals as goal

pub returns : goal.returns
returns c = begins_with_itself
