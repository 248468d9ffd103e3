use Rattle.mako_clearing.proofs.Turning.{evacuations_begin, evacuations_end}
use Rattle.mako_clearing.proofs.laws.evacuations_begin_and_end.Goals as goal

pub returns-clause-begin : goal.returns-clause-begin
returns-clause-begin c = evacuations_begin

pub returns-clause-end : goal.returns-clause-end
returns-clause-end c = evacuations_end
