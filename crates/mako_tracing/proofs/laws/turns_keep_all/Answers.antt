use Rattle.mako_tracing.proofs.Turning.{turns_go}
use Rattle.mako_tracing.proofs.laws.turns_keep_all.Goals as goal

pub returns : goal.returns
returns c = turns_go
