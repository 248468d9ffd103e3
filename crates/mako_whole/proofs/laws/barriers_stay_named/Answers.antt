use Rattle.mako_whole.proofs.AllBarriers.{openings_hold_barriers, servers_hold_barriers, collectors_hold_barriers}
use Rattle.mako_whole.proofs.AllBarriersMutator.{mutators_hold_barriers}
use Rattle.mako_whole.proofs.AllBarriersRuns.{steps_hold_barriers}
use Rattle.mako_whole.proofs.laws.barriers_stay_named.Goals as goal

pub returns-clause-openings : goal.returns-clause-openings
returns-clause-openings c = openings_hold_barriers

pub returns-clause-mutators : goal.returns-clause-mutators
returns-clause-mutators c = mutators_hold_barriers

pub returns-clause-servers : goal.returns-clause-servers
returns-clause-servers c = servers_hold_barriers

pub returns-clause-collectors : goal.returns-clause-collectors
returns-clause-collectors c = collectors_hold_barriers

pub returns-clause-steps : goal.returns-clause-steps
returns-clause-steps c = steps_hold_barriers
