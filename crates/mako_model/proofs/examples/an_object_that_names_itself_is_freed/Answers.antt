use Rattle.mako_model.proofs.Looped.{looped_answers}
use Rattle.mako_model.proofs.examples.an_object_that_names_itself_is_freed.Goals as goal

pub returns : goal.returns
returns c = looped_answers
