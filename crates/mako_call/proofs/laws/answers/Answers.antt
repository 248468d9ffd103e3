use Rattle.mako_call.proofs.AnswerLaws.{answers_once}
use Rattle.mako_call.proofs.laws.answers.Goals as goal

pub returns : goal.returns
returns c = answers_once
