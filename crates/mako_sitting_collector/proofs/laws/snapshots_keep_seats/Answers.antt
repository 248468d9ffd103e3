use Rattle.mako_sitting_collector.proofs.CollectorFacets.{steps_add_no_facet}
use Rattle.mako_sitting_collector.proofs.CollectorSnaps.{ties_hold, groups_kept, snapshots_keep_all}
use Rattle.mako_sitting_collector.proofs.laws.snapshots_keep_seats.Goals as goal

pub returns-clause-ties : goal.returns-clause-ties
returns-clause-ties c = ties_hold

pub returns-clause-groups : goal.returns-clause-groups
returns-clause-groups c = groups_kept

pub returns-clause-seats : goal.returns-clause-seats
returns-clause-seats c = snapshots_keep_all

pub returns-clause-facets : goal.returns-clause-facets
returns-clause-facets c = steps_add_no_facet
