use Rattle.std.proofs.Common.{arith}
use Rattle.mako_count.proofs.Seats.{deals}
use Rattle.mako_count.proofs.count.Count.deal.Goals as goal

pub split_seat-requires : goal.split_seat-requires
split_seat-requires c = (
  c.requires.table,
  omega (arith, c.args.self.now.some, c.args.self.now.layout),
  deals c.args.self.now.table.shared.key _ _ c.requires.poller c.requires.more,
)
