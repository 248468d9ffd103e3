use Rattle.std.proofs.Common.{◌≡◌}
use Rattle.mako_count.specs.Views.{poll_of, IsPollers}
use Rattle.mako_count.specs.Passes.{IsPassTo}
use Rattle.mako_count.proofs.count.Count.pass.Given as goal

abbrev pub invariant-loop-number : goal.invariant-loop-number
invariant-loop-number l = record {
  seated : IsPollers l.seat.me;
  workers : l.seat.me.0.workers ≡ l.fn.seat.me.0.workers;
  table : l.seat.table_id ≡ l.fn.seat.table_id;
  pass : IsPassTo l.number (poll_of l.fn.seat.me.0) (poll_of l.seat.me.0) l.sums.sent l.sums.handled;
}
