use Rattle.std.proofs.Common.{◌≤◌, subst, sym}
use Rattle.mako_ring.specs.Tracing.{TracerView}
use Rattle.mako_trace.specs.Held.{tracer_in, IsKnown}
use Rattle.mako_trace.proofs.Known.{begun_known, same_room}
use Rattle.mako_trace.proofs.tracer.Tracer.begin.Goals as goal

pub invariant_of-self : goal.invariant_of-self
invariant_of-self c =
    let inside = c.self.inside in
    let t = tracer_in inside.holdings inside.stage in
    let to = subst (λ (q : TracerView). c.args.cycle ≤ q.shape.cycles) (sym c.self.view_is) c.requires.to in (
      subst IsKnown (sym c.begin-self-inside.ensures.begun) (begun_known t c.args.cycle c.self.invariant.0 to),
      same_room inside.holdings c.begin-self-inside.new.self c.self.invariant.1 c.begin-self-inside.ensures.room,
    )
