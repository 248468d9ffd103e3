use Rattle.mako_sitting.proofs.Telling.{copies_are_alone, one_writes, records_stand, sitting_may_write}
use Rattle.mako_sitting.proofs.Telling.{sitting_records_are_apart}
use Rattle.mako_sitting.proofs.laws.records_tell.Goals as goal

pub returns-clause-each : goal.returns-clause-each
returns-clause-each c = records_stand

pub returns-clause-apart : goal.returns-clause-apart
returns-clause-apart c = sitting_records_are_apart

pub returns-clause-alone : goal.returns-clause-alone
returns-clause-alone c = copies_are_alone

pub returns-clause-may : goal.returns-clause-may
returns-clause-may c = sitting_may_write

pub returns-clause-one : goal.returns-clause-one
returns-clause-one c = one_writes
