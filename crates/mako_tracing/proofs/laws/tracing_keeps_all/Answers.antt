use Rattle.mako_tracing.proofs.Traced.{tracing_steps_go}
use Rattle.mako_tracing.proofs.laws.tracing_keeps_all.Goals as goal

pub returns : goal.returns
returns c = tracing_steps_go
