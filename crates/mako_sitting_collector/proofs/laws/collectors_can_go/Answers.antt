use Rattle.mako_sitting_collector.proofs.CollectorGoing.{collectors_can_go}
use Rattle.mako_sitting_collector.proofs.laws.collectors_can_go.Goals as goal

pub returns : goal.returns
returns c = collectors_can_go
