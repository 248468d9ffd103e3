use Rattle.mako_script.proofs.Faultless.{no_fault}
use Rattle.mako_script.proofs.laws.a_script_has_no_fault.Goals as goal

pub returns : goal.returns
returns c = no_fault
