use Rattle.mako_joint.proofs.Pauses.{parts_pause, gates_drain, nothing_given, freeing_follows}
use Rattle.mako_joint.proofs.laws.phases_tell.Goals as goal

pub returns-clause-pause : goal.returns-clause-pause
returns-clause-pause c = parts_pause

pub returns-clause-drained : goal.returns-clause-drained
returns-clause-drained c = gates_drain

pub returns-clause-given : goal.returns-clause-given
returns-clause-given c = nothing_given

pub returns-clause-freeing : goal.returns-clause-freeing
returns-clause-freeing c = freeing_follows
