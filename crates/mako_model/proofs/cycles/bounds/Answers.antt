use Rattle.std.proofs.Common.{length, get_or, ap, sym, ◌≡◌, ◌-◌, ◌+◌, ◌∙◌, arith}
use Rattle.mako_model.specs.CycleLists.{start_of}
use Rattle.mako_model.proofs.Pieces.{piece_bounds, start_behind}
use Rattle.mako_model.proofs.cycles.bounds.Goals as goal

pub returns-then-index-eq0-clause-last : goal.returns-then-index-eq0-clause-last
returns-then-index-eq0-clause-last c =
    (piece_bounds 0 c.args.ends.now (length c.args.names.now) 0 0 c.requires.rise (omega arith)).1

pub returns-else-index-eq0-clause-start : goal.returns-else-index-eq0-clause-start
returns-else-index-eq0-clause-start c =
    let i : c.args.index - 1 + 1 ≡ c.args.index = omega arith in
    sym (start_behind 0 c.args.ends.now (c.args.index - 1) 0 (omega arith)) ∙ ap (start_of 0 c.args.ends.now) i

pub returns-else-index-eq0-clause-order : goal.returns-else-index-eq0-clause-order
returns-else-index-eq0-clause-order c =
    let i : c.args.index - 1 + 1 ≡ c.args.index = omega arith in
    let start : get_or c.args.ends.now (c.args.index - 1) 0 ≡ start_of 0 c.args.ends.now c.args.index =
    sym (start_behind 0 c.args.ends.now (c.args.index - 1) 0 (omega arith)) ∙ ap (start_of 0 c.args.ends.now) i in
    let b = piece_bounds 0 c.args.ends.now (length c.args.names.now) c.args.index 0 c.requires.rise c.requires.within in
    omega (arith, b.0, start)

pub returns-else-index-eq0-clause-last : goal.returns-else-index-eq0-clause-last
returns-else-index-eq0-clause-last c =
    (piece_bounds 0 c.args.ends.now (length c.args.names.now) c.args.index 0 c.requires.rise c.requires.within).1
