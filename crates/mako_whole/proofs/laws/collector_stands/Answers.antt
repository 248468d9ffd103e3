use Rattle.mako_whole.proofs.AllStandingCollector.{collector_stands}
use Rattle.mako_whole.proofs.laws.collector_stands.Goals as goal

pub returns : goal.returns
returns c = collector_stands
