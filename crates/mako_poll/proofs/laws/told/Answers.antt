use Rattle.mako_poll.proofs.Worlds.{told_implies_quiet}
use Rattle.mako_poll.proofs.laws.told.Goals as goal

pub returns : goal.returns
returns c = told_implies_quiet
