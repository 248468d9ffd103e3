use Rattle.mako_model.proofs.Closed.{made_are_objects}
use Rattle.mako_model.proofs.laws.made_names_are_objects.Goals as goal

pub returns : goal.returns
returns c = λ w history name legal. made_are_objects w history legal name
