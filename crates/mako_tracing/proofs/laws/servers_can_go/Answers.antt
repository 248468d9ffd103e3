use Rattle.mako_tracing.proofs.Acts.{tracing_can_go, turns_can_go}
use Rattle.mako_tracing.proofs.laws.servers_can_go.Goals as goal

pub returns : goal.returns
returns c = record { turns = turns_can_go; tracing = tracing_can_go }
