use Rattle.mako_poll.proofs.AllSteps.{writes_are_one}
use Rattle.mako_poll.proofs.laws.writes.Goals as goal

pub returns : goal.returns
returns c = writes_are_one
