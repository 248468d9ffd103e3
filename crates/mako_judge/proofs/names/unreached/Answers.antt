use Rattle.std.proofs.lemmas.Result.{IfOk-weaker}
use Rattle.mako_model.specs.Dead.{names_made}
use Rattle.mako_model.specs.Reachable.{IsReachable}
use Rattle.mako_judge.proofs.Kept.{outside_are}
use Rattle.mako_judge.proofs.names.unreached.Goals as goal

pub returns : goal.returns
returns c =
    IfOk-weaker c.outside.result _ _
    (λ left is. outside_are (names_made c.args.points.now) left.items c.in_ok-reached.reached
    (IsReachable c.args.heap.now)
    (rw (c.deref.ensures.value, c.in_ok-made.ensures) at is) c.in_ok-reached.ensures) c.outside.ensures
