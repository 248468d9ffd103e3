use Rattle.std.proofs.Common.{◌<◌, ap, subst, sym, ◌∙◌}
use Rattle.mako_call.specs.Calls.{Calling, rank, decided, event_by, IsKnown}
use Rattle.mako_call.proofs.CallGoing.{call_goes}
use Rattle.mako_call.proofs.Telling.{tells_first}
use Rattle.mako_call.proofs.call_machine.CallMachineMachine.feed.Goals as goal

pub returns-then-not-tells-clause-rank : goal.returns-then-not-tells-clause-rank
returns-then-not-tells-clause-rank c =
    let v = c.args.self.now in
    let known : IsKnown v = subst IsKnown c.feed_at.view_is c.feed_at.invariant in
    λ _. subst (λ (q : Calling). rank q < rank v) (sym c.feed_at-tells.ensures.fed)
    (call_goes v c.args.before known c.requires.fits c.requires.acts).lower

pub returns-clause-rank : goal.returns-clause-rank
returns-clause-rank c =
    let v = c.args.self.now in
    let known : IsKnown v = subst IsKnown c.feed_at.view_is c.feed_at.invariant in
    λ _. subst (λ (q : Calling). rank q < rank v) (sym c.feed_at-tells.ensures.fed)
    (call_goes v c.args.before known c.requires.fits c.requires.acts).lower

pub returns-clause-event : goal.returns-clause-event
returns-clause-event c =
    let v = c.args.self.now in
    let new = c.feed_at-tells.new.self in
    let told = sym c.feed_at-tells.ensures.told ∙ c.if-not-tells.false in
    c.event.ensures
    ∙ (sym (tells_first new.caller.mutator new.call (decided v.stage) (decided new.stage) told)
    ∙ ap (λ (q : Calling). event_by q.caller.mutator q.call (decided v.stage) (decided q.stage))
    c.feed_at-tells.ensures.fed)
