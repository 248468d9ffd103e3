use Rattle.mako_poll.proofs.Answering.{polls_answer}
use Rattle.mako_poll.proofs.laws.answers.Goals as goal

pub returns : goal.returns
returns c = polls_answer
