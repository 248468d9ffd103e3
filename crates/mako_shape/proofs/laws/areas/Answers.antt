use Rattle.mako_shape.proofs.PlaceLaws.{words_add_up, index_below, one_place, some_place}
use Rattle.mako_shape.proofs.laws.areas.Goals as goal

pub returns-clause-sum : goal.returns-clause-sum
returns-clause-sum c = words_add_up

pub returns-clause-below : goal.returns-clause-below
returns-clause-below c = index_below

pub returns-clause-disjoint : goal.returns-clause-disjoint
returns-clause-disjoint c = one_place

pub returns-clause-cover : goal.returns-clause-cover
returns-clause-cover c = some_place
