use Rattle.mako_whole.proofs.AllStandingGoing.{steps_stand, steps_can_go}
use Rattle.mako_whole.proofs.AllStandingSteps.{openings_stand}
use Rattle.mako_whole.proofs.laws.all_steps_stand.Goals as goal

pub returns-clause-opening : goal.returns-clause-opening
returns-clause-opening c = openings_stand

pub returns-clause-keep : goal.returns-clause-keep
returns-clause-keep c = steps_stand

pub returns-clause-go : goal.returns-clause-go
returns-clause-go c = steps_can_go
