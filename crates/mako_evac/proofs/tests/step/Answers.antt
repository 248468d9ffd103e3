use Rattle.std.proofs.Common.{ap, ◌∙◌, sym}
use Rattle.mako_step.specs.Acts.{found}
use Rattle.mako_evac.proofs.Low.{step_low}
use Rattle.mako_evac.proofs.tests.step.Goals as goal

pub returns-clause-low : goal.returns-clause-low
returns-clause-low c =
    step_low c.args.machine.now c.make_step.new.machine c.in-Do.act c.args.words.now c.in_ok-word.word
    (sym c.next.ensures.next ∙ c.in-Do.is) (c.in_ok-word.ensures.0 ∙ ap (found c.in-Do.act.op) c.word.ensures)
    c.make_step.ensures.machine c.requires.low (c.can_go_on.ensures.low c.if-not-can_go_on.false)
