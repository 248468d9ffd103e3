use Rattle.std.proofs.Common.{arith, refl}
use Rattle.mako_count.proofs.WorkerSteps.{looks_at_box}
use Rattle.mako_count.proofs.count.Count.look_at_box.Goals as goal

pub load-requires : goal.load-requires
load-requires c = (
  c.requires.table.0,
  omega arith,
  looks_at_box c.args.self.now.table.shared.key _ _ _ _ _ _ c.args.self.now.crew c.requires.worker.0
      c.requires.worker.1 c.requires.worker.2 refl,
)
