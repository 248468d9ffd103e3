use Rattle.mako_whole.proofs.AllCollecting.{findings_fit, notices_run}
use Rattle.mako_whole.proofs.AllCollectingScenes.{collectors_come}
use Rattle.mako_whole.proofs.AllCollectingStand.{came_stand}
use Rattle.mako_whole.proofs.AllCollectingSteps.{collectors_keep_seats}
use Rattle.mako_whole.proofs.laws.collectors_keep_seats.Goals as goal

pub returns-clause-fit : goal.returns-clause-fit
returns-clause-fit c = findings_fit

pub returns-clause-notices : goal.returns-clause-notices
returns-clause-notices c = notices_run

pub returns-clause-keep : goal.returns-clause-keep
returns-clause-keep c = collectors_keep_seats

pub returns-clause-scenes : goal.returns-clause-scenes
returns-clause-scenes c = collectors_come

pub returns-clause-stand : goal.returns-clause-stand
returns-clause-stand c = came_stand
