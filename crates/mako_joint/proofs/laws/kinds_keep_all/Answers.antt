use Rattle.mako_joint.proofs.EachKind.{loads_entry, finds_it_away, frees_entry}
use Rattle.mako_joint.proofs.Fields.{stores_field}
use Rattle.mako_joint.proofs.Marking.{marks_name}
use Rattle.mako_joint.proofs.Moving.{moves_entry}
use Rattle.mako_joint.proofs.laws.kinds_keep_all.Goals as goal

pub returns-clause-loads : goal.returns-clause-loads
returns-clause-loads c = loads_entry

pub returns-clause-away : goal.returns-clause-away
returns-clause-away c = finds_it_away

pub returns-clause-moves : goal.returns-clause-moves
returns-clause-moves c = moves_entry

pub returns-clause-frees : goal.returns-clause-frees
returns-clause-frees c = frees_entry

pub returns-clause-marks : goal.returns-clause-marks
returns-clause-marks c = marks_name

pub returns-clause-field : goal.returns-clause-field
returns-clause-field c = stores_field
