use Rattle.mako_gate.proofs.GatesHold.{steps_keep, actions_are_steps}
use Rattle.mako_gate.proofs.laws.gates_are_kept.Goals as goal

pub returns-clause-steps : goal.returns-clause-steps
returns-clause-steps c = steps_keep

pub returns-clause-actions : goal.returns-clause-actions
returns-clause-actions c = actions_are_steps
