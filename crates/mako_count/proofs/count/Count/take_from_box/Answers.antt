use Rattle.std.proofs.Common.{arith, refl}
use Rattle.mako_count.proofs.WorkerSteps.{takes_from_box}
use Rattle.mako_count.proofs.count.Count.take_from_box.Goals as goal

pub fetch_sub-requires : goal.fetch_sub-requires
fetch_sub-requires c = (
  c.requires.table.0,
  omega arith,
  takes_from_box c.args.self.now.table.shared.key _ _ _ _ _ _ c.args.self.now.crew c.requires.worker.0
      c.requires.worker.1 c.requires.worker.2 refl,
)
