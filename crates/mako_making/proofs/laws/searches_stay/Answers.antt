use Rattle.mako_making.proofs.Beginning.{none_begins}
use Rattle.mako_making.proofs.Staying.{searches_stay}
use Rattle.mako_making.proofs.laws.searches_stay.Goals as goal

pub returns-clause-stay : goal.returns-clause-stay
returns-clause-stay c = searches_stay

pub returns-clause-begin : goal.returns-clause-begin
returns-clause-begin c = none_begins
