use Rattle.mako_mutating.proofs.Openings.{openings_keep}
use Rattle.mako_mutating.proofs.laws.openings_keep_mutators.Goals as goal

pub returns : goal.returns
returns c = openings_keep
