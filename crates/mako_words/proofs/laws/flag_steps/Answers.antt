use Rattle.mako_words.proofs.FlagWords as lemma
use Rattle.mako_words.proofs.laws.flag_steps.Goals as goal

pub returns-clause-raise_busy : goal.returns-clause-raise_busy
returns-clause-raise_busy c = lemma.busy_up

pub returns-clause-lower_busy : goal.returns-clause-lower_busy
returns-clause-lower_busy c = lemma.busy_down

pub returns-clause-raise_ghost : goal.returns-clause-raise_ghost
returns-clause-raise_ghost c = lemma.ghost_up

pub returns-clause-lower_ghost : goal.returns-clause-lower_ghost
returns-clause-lower_ghost c = lemma.ghost_down

pub returns-clause-raise_changed : goal.returns-clause-raise_changed
returns-clause-raise_changed c = lemma.changed_up

pub returns-clause-lower_changed : goal.returns-clause-lower_changed
returns-clause-lower_changed c = lemma.changed_down

pub returns-clause-receive : goal.returns-clause-receive
returns-clause-receive c = lemma.busy_changed_up

pub returns-clause-send : goal.returns-clause-send
returns-clause-send c = lemma.ghost_changed_up
