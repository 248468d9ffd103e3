use Rattle.mako_collecting.proofs.EachStage.{pause_steps_keep, snapshots_keep}
use Rattle.mako_collecting.proofs.laws.pauses_keep.Goals as goal

pub returns-clause-steps : goal.returns-clause-steps
returns-clause-steps c = pause_steps_keep

pub returns-clause-snapshot : goal.returns-clause-snapshot
returns-clause-snapshot c = snapshots_keep
