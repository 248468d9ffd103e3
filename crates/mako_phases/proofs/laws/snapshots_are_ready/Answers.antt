use Rattle.mako_phases.proofs.Says.{snapshot_ready}
use Rattle.mako_phases.proofs.Snapshots.{snapshots_one}
use Rattle.mako_phases.proofs.laws.snapshots_are_ready.Goals as goal

pub returns : goal.returns
returns c = record { ready = snapshot_ready; one = snapshots_one }
