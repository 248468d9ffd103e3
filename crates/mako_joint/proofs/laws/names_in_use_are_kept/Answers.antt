use Rattle.mako_joint.proofs.Epochs.{held_are_taken, held_have_epoch, none_reads}
use Rattle.mako_joint.proofs.laws.names_in_use_are_kept.Goals as goal

pub returns-clause-taken : goal.returns-clause-taken
returns-clause-taken c = held_are_taken

pub returns-clause-epoch : goal.returns-clause-epoch
returns-clause-epoch c = held_have_epoch

pub returns-clause-freed : goal.returns-clause-freed
returns-clause-freed c = none_reads
