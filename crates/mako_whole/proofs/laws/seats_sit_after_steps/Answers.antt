use Rattle.mako_whole.proofs.AllRuns.{collectors_run, mutators_run, servers_run}
use Rattle.mako_whole.proofs.laws.seats_sit_after_steps.Goals as goal

pub returns-clause-mutators : goal.returns-clause-mutators
returns-clause-mutators c = mutators_run

pub returns-clause-servers : goal.returns-clause-servers
returns-clause-servers c = servers_run

pub returns-clause-collectors : goal.returns-clause-collectors
returns-clause-collectors c = collectors_run
