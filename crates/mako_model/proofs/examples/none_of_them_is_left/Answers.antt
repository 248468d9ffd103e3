use Rattle.mako_model.proofs.Tied.{half_does_not}
use Rattle.mako_model.proofs.examples.none_of_them_is_left.Goals as goal

pub returns : goal.returns
returns c = half_does_not
