use Rattle.std.proofs.Common.{subst, sym}
use Rattle.mako_call.specs.Calls.{IsKnown}
use Rattle.mako_call.specs.Standings.{calling_in}
use Rattle.mako_call.proofs.CallGoing.{call_known, put_together}
use Rattle.mako_call.proofs.call_machine.CallMachine.feed_at.Goals as goal

pub invariant_of-self : goal.invariant_of-self
invariant_of-self c =
    let v = c.args.self.now in
    let known : IsKnown v = subst IsKnown c.self.view_is c.self.invariant in
    let same = put_together (calling_in c.self.inside) v c.args.before _ _ _ c.self.view_is c.requires.own
    c.slot_after-slot.ensures c.feed-tells.ensures.fed in
    subst IsKnown (sym same) (call_known v c.args.before known c.requires.fits c.requires.acts)

pub returns-clause-fed : goal.returns-clause-fed
returns-clause-fed c =
    put_together (calling_in c.self.inside) c.args.self.now c.args.before _ _ _ c.self.view_is c.requires.own
    c.slot_after-slot.ensures c.feed-tells.ensures.fed
