use Rattle.mako_evac.proofs.Worked.{is_freed}
use Rattle.mako_evac.proofs.examples.a_dead_object_is_freed.Goals as goal

pub returns : goal.returns
returns c = is_freed
