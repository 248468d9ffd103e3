use Rattle.mako_model.proofs.Beginnings.{begins_with_front}
use Rattle.mako_model.proofs.laws.fronts_begin_transitively.Goals as goal

pub returns : goal.returns
returns c = begins_with_front
