use Rattle.mako_model.proofs.CycleCounts.{few_snaps}
use Rattle.mako_model.proofs.RootRows.{has_roots}
use Rattle.mako_model.proofs.laws.heaps_keep_their_shape.Goals as goal

pub returns : goal.returns
returns c = record { roots = has_roots; snapshots = few_snaps }
