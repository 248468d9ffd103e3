use Rattle.mako_words.proofs.GateWords as lemma
use Rattle.mako_words.proofs.laws.gate_steps.Goals as goal

pub returns-clause-arrive : goal.returns-clause-arrive
returns-clause-arrive c = lemma.arrival

pub returns-clause-leave : goal.returns-clause-leave
returns-clause-leave c = lemma.departure

pub returns-clause-shut : goal.returns-clause-shut
returns-clause-shut c = lemma.shutting

pub returns-clause-reopen : goal.returns-clause-reopen
returns-clause-reopen c = lemma.reopening
