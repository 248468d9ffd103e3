use Rattle.std.proofs.Common.{arith}
use Rattle.mako_count.proofs.PollReads.{begins_pass}
use Rattle.mako_count.proofs.count.Count.begin_pass.Goals as goal

pub load-requires : goal.load-requires
load-requires c = (
  c.requires.table,
  omega arith,
  begins_pass c.args.self.now.table.shared.key _ _ _ _ c.args.self.now.crew c.args.self.now.some c.requires.poller,
)
