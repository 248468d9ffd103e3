use Rattle.mako_model.proofs.Tied.{tied_answers}
use Rattle.mako_model.proofs.examples.objects_that_name_each_other_are_freed.Goals as goal

pub returns : goal.returns
returns c = tied_answers
