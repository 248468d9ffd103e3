use Rattle.mako_sitting.proofs.OpeningSits.{openings_sit}
use Rattle.mako_sitting.proofs.laws.openings_sit.Goals as goal

pub returns : goal.returns
returns c = openings_sit
