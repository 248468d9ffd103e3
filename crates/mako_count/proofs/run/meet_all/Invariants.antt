use Rattle.std.proofs.Common.{length}
use Rattle.mako_count.specs.Tables.{table_of, crew_of}
use Rattle.mako_count.proofs.Meeting.{Meeting}
use Rattle.mako_count.proofs.run.meet_all.Given as goal

abbrev pub invariant-loop-worker : goal.invariant-loop-worker
invariant-loop-worker l = Meeting (table_of l.count) (crew_of l.count) l.most l.pieces l.poller l.workers.items

abbrev pub decreases-loop-worker : goal.decreases-loop-worker
decreases-loop-worker l = length l.workers.items
