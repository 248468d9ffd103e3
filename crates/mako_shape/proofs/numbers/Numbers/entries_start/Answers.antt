use Rattle.std.proofs.Common.{arith}
use Rattle.mako_shape.proofs.Products.{are_small}
use Rattle.mako_shape.proofs.numbers.Numbers.entries_start.Goals as goal

pub overflow_add-result : goal.overflow_add-result
overflow_add-result c = omega (arith, are_small c.args.self c.requires)
