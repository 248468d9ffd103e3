use Rattle.mako_script.proofs.Faultless.{no_fault}
use Rattle.mako_script.proofs.check.first_fault.Goals as goal

pub returns-in-Err-clause-none : goal.returns-in-Err-clause-none
returns-in-Err-clause-none c = λ s is. let first = c.in-Err.ensures.first in
    no_fault c.args.text.now s is first.at c.in-Err.fault.kind first.has
