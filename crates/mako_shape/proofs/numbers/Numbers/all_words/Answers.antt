use Rattle.std.proofs.Common.{arith}
use Rattle.mako_shape.proofs.Products.{are_small}
use Rattle.mako_shape.proofs.numbers.Numbers.all_words.Goals as goal

pub overflow_mul-result : goal.overflow_mul-result
overflow_mul-result c = omega (arith, are_small c.args.self c.requires)

pub overflow_mul-result-2 : goal.overflow_mul-result-2
overflow_mul-result-2 c = omega (arith, are_small c.args.self c.requires)

pub overflow_add-result-2 : goal.overflow_add-result-2
overflow_add-result-2 c = omega (arith, are_small c.args.self c.requires)
