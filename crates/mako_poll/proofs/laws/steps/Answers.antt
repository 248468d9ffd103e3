use Rattle.mako_poll.proofs.AllSteps.{steps_hold, chains_hold}
use Rattle.mako_poll.proofs.Worlds.{worlds_stand}
use Rattle.mako_poll.proofs.laws.steps.Goals as goal

pub returns : goal.returns
returns c = record { kinds = steps_hold; lists = chains_hold; machines = worlds_stand }
