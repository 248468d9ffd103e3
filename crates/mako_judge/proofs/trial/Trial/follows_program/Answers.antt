use Rattle.std.proofs.Common.{◌<◌, ◌≡◌, ◌∙◌, length, ap, sym, Some, slice_get, arith}
use Rattle.mako_judge.specs.Trials.{script}
use Rattle.mako_judge.proofs.Pointwise.{get_map, follows_iff}
use Rattle.mako_judge.proofs.trial.Trial.follows_program.Goals as goal

pub returns-else-len-mutator : goal.returns-else-len-mutator
returns-else-len-mutator c =
    let w = script c.args.self.now in
    let rows = c.args.self.now.setup.now.programs.items in
    let m = c.in-Did.mutator in
    let within : m < length rows = omega arith in
    let at : slice_get w.programs m ≡ Some c.deref.result.now =
    get_map (λ calls. calls.items) rows m c.index.result.now within
    ∙ ap (λ calls. Some calls.items) (sym c.index.ensures) ∙ ap (λ calls. Some calls) (sym c.deref.ensures.value) in
    follows_iff w c.args.points.now m c.in-Did.call c.in-Did.reply c.args.point c.deref.result.now c.calls_made.result
    c.is_some.result c.in-Did.is at c.calls_made.ensures c.is_some.ensures
