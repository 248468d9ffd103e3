use Rattle.std.proofs.Common.{◌≡◌, ◌+◌, ◌-◌, ◌<◌, ℕ, Some, length, slice_get, subst, arith}
use Rattle.mako_cli.proofs.Loads.{one_more}
use Rattle.mako_cli.proofs.load.count_freed.Goals as goal

pub loop-index-preserved : goal.loop-index-preserved
loop-index-preserved c =
    let index : c.loop-index.index + 1 - 1 ≡ c.loop-index.index = omega arith in
    let lists = c.args.cycles.now.lists in
    let here = subst (λ (i : ℕ). slice_get lists i ≡ Some c.freed.result.now) index c.freed.ensures in
    let within : c.loop-index.index < length lists = omega (arith, c.loop-index-test.true, c.len-index-end.ensures) in
    let more = one_more lists c.loop-index.index c.freed.result.now within here in
    record {
      sum = omega (arith, c.loop-index.invariant.sum, more, c.from-names.ensures);
      most = omega (arith, c.loop-index.invariant.most, c.from-names.ensures);
    }
