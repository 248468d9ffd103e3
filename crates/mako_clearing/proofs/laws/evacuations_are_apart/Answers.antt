use Rattle.mako_clearing.proofs.Apart.{evacuations_are_apart, stores_are_apart}
use Rattle.mako_clearing.proofs.HearingApart.{hearing_is_apart}
use Rattle.mako_clearing.proofs.laws.evacuations_are_apart.Goals as goal

pub returns-clause-servers : goal.returns-clause-servers
returns-clause-servers c = evacuations_are_apart

pub returns-clause-hearing : goal.returns-clause-hearing
returns-clause-hearing c = hearing_is_apart

pub returns-clause-stores : goal.returns-clause-stores
returns-clause-stores c = stores_are_apart
