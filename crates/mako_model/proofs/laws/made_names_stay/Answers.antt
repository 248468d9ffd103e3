use Rattle.mako_model.proofs.Histories.{made_stays}
use Rattle.mako_model.proofs.laws.made_names_stay.Goals as goal

pub returns : goal.returns
returns c = made_stays
