use Rattle.mako_gate.proofs.Changes.{acts_make}
use Rattle.mako_gate.proofs.laws.acts_by_place.Goals as goal

pub returns : goal.returns
returns c = acts_make
