use Rattle.std.proofs.Common.{arith}
use Rattle.mako_count.proofs.WorkerSteps.{raises_sent}
use Rattle.mako_count.proofs.count.Count.raise_sent.Goals as goal

pub fetch_add-requires : goal.fetch_add-requires
fetch_add-requires c = (
  c.requires.table.0,
  omega arith,
  raises_sent c.args.self.now.table.shared.key _ _ _ _ c.requires.worker.0 c.requires.worker.1 c.requires.worker.2
      c.requires.room,
)
