use Rattle.mako_layout.proofs.Conclusions.{servers_copy_alone, writers_are_one, writers_may_write}
use Rattle.mako_layout.proofs.laws.writers_tell.Goals as goal

pub returns-clause-alone : goal.returns-clause-alone
returns-clause-alone c = servers_copy_alone

pub returns-clause-one : goal.returns-clause-one
returns-clause-one c = writers_are_one

pub returns-clause-may : goal.returns-clause-may
returns-clause-may c = writers_may_write
