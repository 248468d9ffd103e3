use Rattle.mako_poll.proofs.Opening.{opening_is_told}
use Rattle.mako_poll.proofs.laws.tells.Goals as goal

pub returns : goal.returns
returns c = opening_is_told
