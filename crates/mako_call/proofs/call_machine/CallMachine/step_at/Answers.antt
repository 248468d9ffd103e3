use Rattle.std.proofs.Common.{subst, sym, ◌∙◌}
use Rattle.mako_step.specs.Machines.{CanStep}
use Rattle.mako_step.specs.declared.step.Step.{Step}
use Rattle.mako_call.specs.Calls.{Fits}
use Rattle.mako_call.specs.Standings.{calling_in}
use Rattle.mako_call.proofs.CallGoing.{next_at}
use Rattle.mako_call.proofs.call_machine.CallMachine.step_at.Goals as goal

pub act-before-requires-clause-within : goal.act-before-requires-clause-within
act-before-requires-clause-within g c =
    let v = c.args.self.now in
    let is = next_at (calling_in c.self.inside) v c.args.stage c.self.view_is c.requires.own
    ∙ (sym c.next.ensures.next ∙ c.in-Do.is) in
    (subst (λ (t : Step). CanStep t (g.W.Words.words c.args.words.now) (Fits v)) is c.requires.can).0
