use Rattle.std.proofs.Common.{◌≡◌, rules, lit<, lit≤}
use Rattle.mako_shape.specs.Places.{index, total}
use Rattle.mako_record.proofs.tests.copied.Goals as goal

pub new-copier-requires-clause-address : goal.new-copier-requires-clause-address
unfolding index total
new-copier-requires-clause-address c = search (rules, lit<, lit≤)
