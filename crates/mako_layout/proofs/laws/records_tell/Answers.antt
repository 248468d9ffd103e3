use Rattle.mako_layout.proofs.Conclusions.{each_has_its_record, records_are_apart, all_are_home_at_rest}
use Rattle.mako_layout.proofs.laws.records_tell.Goals as goal

pub returns-clause-each : goal.returns-clause-each
returns-clause-each c = each_has_its_record

pub returns-clause-apart : goal.returns-clause-apart
returns-clause-apart c = records_are_apart

pub returns-clause-home : goal.returns-clause-home
returns-clause-home c = all_are_home_at_rest
