use Rattle.mako_count.specs.Tables.{table_of}
use Rattle.mako_count.proofs.Dealing.{Deals}
use Rattle.mako_count.proofs.count.Count.deal_all.Given as goal

abbrev pub invariant-loop-number : goal.invariant-loop-number
invariant-loop-number l = Deals (table_of l.self) l.seeds l.sends l.number l.desk l.workers.items
