use Rattle.std.proofs.Common.{arith}
use Rattle.std.proofs.lemmas.Grind.{common_steps}
use Rattle.mako_judge.proofs.Pointwise.{next_taken}
use Rattle.mako_judge.proofs.judging.points_of.Goals as goal

pub loop-index-preserved : goal.loop-index-preserved
loop-index-preserved c = let more =
    next_taken c.args.journal.now.points c.loop-index.index c.get.result c.get.ensures in
    grind (arith, common_steps, more)
