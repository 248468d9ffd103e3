use Rattle.mako_model.proofs.Beginnings.{finished_begin}
use Rattle.mako_model.proofs.laws.finished_cycles_begin_with_those_before.Goals as goal

pub returns : goal.returns
returns c = finished_begin
