use Rattle.mako_tracing.proofs.CountedTurns.{turns_count}
use Rattle.mako_tracing.proofs.LowCounts.{counts_low, tracing_counts}
use Rattle.mako_tracing.proofs.laws.counts_are_kept.Goals as goal

pub returns : goal.returns
returns c = record { turns = turns_count; tracing = tracing_counts; low = counts_low }
