use Rattle.mako_alloc.proofs.Worked.{is_noted, is_not_full}
use Rattle.mako_alloc.proofs.examples.a_gate_is_found_shut.Goals as goal

pub returns-clause-note : goal.returns-clause-note
returns-clause-note c = is_noted

pub returns-clause-not_full : goal.returns-clause-not_full
returns-clause-not_full c = is_not_full
