use Rattle.mako_poll.proofs.AllSteps.{stands_says_holds, unrest_shows, told_is_quiet, quiet_stays}
use Rattle.mako_poll.proofs.laws.passes.Goals as goal

pub returns : goal.returns
returns c = record { words = stands_says_holds; second = unrest_shows; past = told_is_quiet; stays = quiet_stays }
