use Rattle.mako_sitting.proofs.Telling.{epochs_tell, marks_are_good}
use Rattle.mako_sitting.proofs.laws.marks_tell.Goals as goal

pub returns-clause-marks : goal.returns-clause-marks
returns-clause-marks c = marks_are_good

pub returns-clause-epochs : goal.returns-clause-epochs
returns-clause-epochs c = epochs_tell
