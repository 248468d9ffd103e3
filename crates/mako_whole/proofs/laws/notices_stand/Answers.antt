use Rattle.mako_whole.proofs.AllNotices.{opening_notices, mutator_notices}
use Rattle.mako_whole.proofs.AllNoticesCollector.{collector_notices, hearing_notices, finish_notices}
use Rattle.mako_whole.proofs.AllNoticesServers.{server_notices}
use Rattle.mako_whole.proofs.laws.notices_stand.Goals as goal

pub returns-clause-opening : goal.returns-clause-opening
returns-clause-opening c = opening_notices

pub returns-clause-mutators : goal.returns-clause-mutators
returns-clause-mutators c = mutator_notices

pub returns-clause-servers : goal.returns-clause-servers
returns-clause-servers c = server_notices

pub returns-clause-collectors : goal.returns-clause-collectors
returns-clause-collectors c = collector_notices

pub returns-clause-hearing : goal.returns-clause-hearing
returns-clause-hearing c = hearing_notices

pub returns-clause-finish : goal.returns-clause-finish
returns-clause-finish c = finish_notices
