use Rattle.mako_layout.proofs.Worked.{worked_copy}
use Rattle.mako_layout.proofs.examples.a_record_is_copied.Goals as goal

pub returns : goal.returns
returns c = worked_copy
