use Rattle.mako_tracing.proofs.PastCounts.{tracing_leaves, turns_leave}
use Rattle.mako_tracing.proofs.laws.counts_are_left.Goals as goal

pub returns : goal.returns
returns c = record { turns = turns_leave; tracing = tracing_leaves }
