use Rattle.std.proofs.Common.{arith}
use Rattle.mako_count.proofs.PollReads.{reads_sent}
use Rattle.mako_count.proofs.count.Count.read_sent.Goals as goal

pub load-requires : goal.load-requires
load-requires c = (
  c.requires.table.0,
  omega arith,
  reads_sent c.args.self.now.table.shared.key _ _ _ _ _ c.args.self.now.crew c.requires.table.1 c.requires.next
      c.requires.poller,
)
