use Rattle.mako_writes.proofs.Collectors.{collectors_write}
use Rattle.mako_writes.proofs.Mutators.{mutators_write}
use Rattle.mako_writes.proofs.Servers.{servers_write}
use Rattle.mako_writes.proofs.laws.seats_leave_the_rest.Goals as goal

pub returns-clause-mutators : goal.returns-clause-mutators
returns-clause-mutators c = mutators_write

pub returns-clause-servers : goal.returns-clause-servers
returns-clause-servers c = servers_write

pub returns-clause-collector : goal.returns-clause-collector
returns-clause-collector c = collectors_write
