use Rattle.std.proofs.Common.{subst, arith}
use Rattle.mako_ring.specs.declared.tracing.TraceStage.TheVariants.{Ended}
use Rattle.mako_trace.specs.Held.{tracer_in, ScanStageKnown}
use Rattle.mako_trace.proofs.holdings.Holdings.scan_next.Goals as goal

pub overflow_add-scan : goal.overflow_add-scan
overflow_add-scan c =
    let words = c.requires.held.shape.words in
    let known = subst (ScanStageKnown (tracer_in c.args.self.now Ended)) c.in-FieldLoad.is c.requires.stage in
    let inside = known.0.2 in
    omega arith

pub overflow_add-scan-in-FieldLoad : goal.overflow_add-scan-in-FieldLoad
overflow_add-scan-in-FieldLoad c =
    let words = c.requires.held.shape.words in
    let known = subst (ScanStageKnown (tracer_in c.args.self.now Ended)) c.in-FieldLoad.is c.requires.stage in
    let inside = known.0.2 in
    let next = known.0.0 in
    omega (arith, c.from.ensures)
