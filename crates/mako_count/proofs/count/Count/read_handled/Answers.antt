use Rattle.std.proofs.Common.{arith, refl}
use Rattle.mako_count.proofs.PollReads.{reads_handled}
use Rattle.mako_count.proofs.count.Count.read_handled.Goals as goal

pub load-requires : goal.load-requires
load-requires c = (
  c.requires.table.0,
  omega arith,
  reads_handled c.args.self.now.table.shared.key _ _ _ _ _ _ c.args.self.now.crew c.requires.table.1 refl
      c.requires.next c.requires.poller,
)
