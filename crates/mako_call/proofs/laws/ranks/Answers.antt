use Rattle.mako_call.proofs.AnswerLaws.{ranks_are_small}
use Rattle.mako_call.proofs.laws.ranks.Goals as goal

pub returns : goal.returns
returns c = ranks_are_small
