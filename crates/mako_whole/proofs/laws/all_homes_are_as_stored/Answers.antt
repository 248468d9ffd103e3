use Rattle.mako_whole.proofs.AllHoused.{openings_are_housed, mutators_leave_housed, servers_leave_housed}
use Rattle.mako_whole.proofs.AllHoused.{collectors_stay_housed, all_housed_have_spares}
use Rattle.mako_whole.proofs.laws.all_homes_are_as_stored.Goals as goal

pub returns-clause-opening : goal.returns-clause-opening
returns-clause-opening c = openings_are_housed

pub returns-clause-mutators : goal.returns-clause-mutators
returns-clause-mutators c = mutators_leave_housed

pub returns-clause-servers : goal.returns-clause-servers
returns-clause-servers c = servers_leave_housed

pub returns-clause-collectors : goal.returns-clause-collectors
returns-clause-collectors c = collectors_stay_housed

pub returns-clause-spares : goal.returns-clause-spares
returns-clause-spares c = all_housed_have_spares
