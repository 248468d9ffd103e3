use Rattle.mako_collecting.proofs.EachStage.{round_steps_keep, poll_steps_keep}
use Rattle.mako_collecting.proofs.laws.rounds_keep.Goals as goal

pub returns-clause-rounds : goal.returns-clause-rounds
returns-clause-rounds c = round_steps_keep

pub returns-clause-polls : goal.returns-clause-polls
returns-clause-polls c = poll_steps_keep
