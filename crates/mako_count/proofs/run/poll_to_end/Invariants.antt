use Rattle.std.proofs.Common.{◌≡◌}
use Rattle.mako_count.proofs.run.poll_to_end.Given as goal

abbrev pub invariant-polls : goal.invariant-polls
invariant-polls g l = record { table : l.poller.table ≡ l.fn.poller.table; met : l.poller.met ≡ l.fn.poller.met }
