use Rattle.std.proofs.Common.{arith}
use Rattle.mako_shape.specs.Places as places
use Rattle.mako_shape.proofs.PlaceLaws.{counted_below}
use Rattle.mako_shape.proofs.shape.Shape.ghost_.Goals as goal

pub returns-clause-below : goal.returns-clause-below
returns-clause-below c =
    counted_below c.args.self.now c.numbers-numbers.result (places.ghost c.args.sender c.args.receiver c.args.slot)
    c.ghosts_start.result _ c.numbers-numbers.ensures.numbers c.ghosts_start.ensures (omega arith) c.requires
