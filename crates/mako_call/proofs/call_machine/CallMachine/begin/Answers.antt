use Rattle.std.proofs.Common.{◌<◌, sym, subst}
use Rattle.mako_call.specs.Agreeing.{AskedFits}
use Rattle.mako_call.specs.Callers.{CallFits}
use Rattle.mako_call.specs.Calls.{Calling}
use Rattle.mako_call.proofs.FirstStages.{first_known}
use Rattle.mako_call.proofs.call_machine.CallMachine.begin.Goals as goal

pub invariant_of-self : goal.invariant_of-self
invariant_of-self c =
    rw c.first-self-inside.ensures
    (first_known c.self.inside.caller c.args.call c.args.last c.args.keep.asked c.args.keep.barrier_at
    c.self.invariant.caller
    (subst (λ (v : Calling). CallFits v.caller.shape c.args.call) (sym c.self.view_is) c.requires.call)
    (subst (λ (v : Calling). AskedFits v.caller.shape c.args.keep.asked) (sym c.self.view_is) c.requires.asked)
    (subst (λ (v : Calling). c.args.keep.barrier_at < v.caller.shape.ring) (sym c.self.view_is) c.requires.barrier))
