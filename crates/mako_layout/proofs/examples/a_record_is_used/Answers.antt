use Rattle.mako_layout.proofs.Worked.{worked_use}
use Rattle.mako_layout.proofs.examples.a_record_is_used.Goals as goal

pub returns : goal.returns
returns c = worked_use
