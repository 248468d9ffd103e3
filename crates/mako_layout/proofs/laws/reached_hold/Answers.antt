use Rattle.mako_layout.proofs.Runs.{all_reached_hold}
use Rattle.mako_layout.proofs.laws.reached_hold.Goals as goal

pub returns : goal.returns
returns c = all_reached_hold
