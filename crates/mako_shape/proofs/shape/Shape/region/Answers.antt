use Rattle.std.proofs.Common.{◌≡◌, ◌+◌, ◌*◌, ◌<◌, ap, ◌∙◌, arith}
use Rattle.mako_shape.specs.declared.areas.Starts.{Starts}
use Rattle.mako_shape.specs.declared.numbers.Numbers.{Numbers}
use Rattle.mako_shape.specs.Places.{start, total}
use Rattle.mako_shape.specs.Starting.{starts_of}
use Rattle.mako_shape.proofs.Rows.{row-below}
use Rattle.mako_shape.proofs.shape.Shape.region.Goals as goal

pub returns-clause-below : goal.returns-clause-below
unfolding total starts_of
returns-clause-below c =
    let first : c.self.inside.starts.regions ≡ start c.args.self.now 17 =
    ap (λ (s : Starts). s.regions) c.self.invariant.1 ∙ ap (λ (n : Numbers). start n 17) c.self.view_is
    in
    rw c.numbers-numbers.ensures.numbers
    (omega (
      arith,
      row-below c.args.region c.args.self.now.words 0
          (c.args.self.now.servers * (c.args.self.now.tablets + c.args.self.now.spare)) c.requires.0 c.requires.1,
    ))

pub overflow_mul-result : goal.overflow_mul-result
unfolding total
overflow_mul-result c =
    let row : c.args.region * c.args.self.now.words + 0 < c.args.self.now.servers *
    (c.args.self.now.tablets + c.args.self.now.spare) * c.args.self.now.words =
    row-below c.args.region c.args.self.now.words 0
    (c.args.self.now.servers * (c.args.self.now.tablets + c.args.self.now.spare)) c.requires.0 c.requires.1
    in
    rw c.numbers-numbers.ensures.numbers (omega arith)
