use Rattle.mako_joint.proofs.Openings.{openings_hold}
use Rattle.mako_joint.proofs.laws.openings_hold.Goals as goal

pub returns : goal.returns
returns c = openings_hold
