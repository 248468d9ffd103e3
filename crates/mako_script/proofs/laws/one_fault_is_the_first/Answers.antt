use Rattle.mako_script.proofs.Firsts.{one_first}
use Rattle.mako_script.proofs.laws.one_fault_is_the_first.Goals as goal

pub returns : goal.returns
returns c = one_first
