use Rattle.mako_names.proofs.StepsKept.{opening_names}
use Rattle.mako_names.proofs.laws.openings_have_names.Goals as goal

pub returns : goal.returns
returns c = opening_names
