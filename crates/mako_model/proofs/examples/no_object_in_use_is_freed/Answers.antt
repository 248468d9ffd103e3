use Rattle.mako_model.proofs.Crowded.{used_freed_does_not}
use Rattle.mako_model.proofs.examples.no_object_in_use_is_freed.Goals as goal

pub returns : goal.returns
returns c = used_freed_does_not
