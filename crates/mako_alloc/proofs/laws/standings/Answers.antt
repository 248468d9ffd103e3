use Rattle.mako_alloc.proofs.StandingLaws.{stands_as_shown, ends_as_shown}
use Rattle.mako_alloc.proofs.laws.standings.Goals as goal

pub returns-clause-trail : goal.returns-clause-trail
returns-clause-trail c = stands_as_shown

pub returns-clause-end : goal.returns-clause-end
returns-clause-end c = ends_as_shown
