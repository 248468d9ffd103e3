use Rattle.mako_ring.proofs.Answering.{puts_answer, takes_answer}
use Rattle.mako_ring.proofs.laws.answers.Goals as goal

pub returns : goal.returns
returns c = record { puts = puts_answer; takes = takes_answer }
