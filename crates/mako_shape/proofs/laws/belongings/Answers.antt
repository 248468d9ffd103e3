use Rattle.mako_shape.proofs.BelongingLaws.{belongings_in_range, parts_belong, addresses_belong, opening_homes_are_good}
use Rattle.mako_shape.proofs.laws.belongings.Goals as goal

pub returns-clause-in_range : goal.returns-clause-in_range
returns-clause-in_range c = belongings_in_range

pub returns-clause-parts : goal.returns-clause-parts
returns-clause-parts c = parts_belong

pub returns-clause-addresses : goal.returns-clause-addresses
returns-clause-addresses c = addresses_belong

pub returns-clause-homes : goal.returns-clause-homes
returns-clause-homes c = opening_homes_are_good
