use Rattle.mako_shades.proofs.Mutators.{collector_snaps}
use Rattle.mako_shades.proofs.laws.tracing_begins.Goals as goal

pub returns : goal.returns
returns c = collector_snaps
