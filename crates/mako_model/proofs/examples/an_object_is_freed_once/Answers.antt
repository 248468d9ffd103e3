use Rattle.mako_model.proofs.Looped.{twice_freed_does_not}
use Rattle.mako_model.proofs.examples.an_object_is_freed_once.Goals as goal

pub returns : goal.returns
returns c = twice_freed_does_not
