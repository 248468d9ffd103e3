use Rattle.std.proofs.Common.{rules, refl, sym, ◌∙◌, arith}
use Rattle.std.proofs.lemmas.Result.{err_from_is_err_and}
use Rattle.std.proofs.lemmas.List.{nil_from_length}
use Rattle.mako_text.proofs.Progress.{starts, goes_on, stops, done}
use Rattle.mako_text.proofs.writer.OutputWriter.text.Goals as goal

pub lines-init : goal.lines-init
lines-init g c = record { progress = starts _ _ _; counted = omega arith; same_sink = refl }

pub returns-in_err-piece-clause-written : goal.returns-in_err-piece-clause-written
returns-in_err-piece-clause-written g c =
    let p = err_from_is_err_and c.from_residual.result c.from_residual.ensures.1 in
    rw (p.1, p.2) (stops g.K.Sink.taken _ _ c.first_line.result.0.now _ c.args.self.now c.lines.self c.piece.new.self
    c.in_err-piece.field-0.0 c.lines.invariant.progress (sym c.first_line.ensures.parts) c.in_err-piece.ensures.written)

pub lines-preserved : goal.lines-preserved
lines-preserved g c = record {
  progress = goes_on g.K.Sink.taken _ _ c.first_line.result.0.now _ c.args.self.now c.lines.self c.piece.new.self
      c.lines.invariant.progress (sym c.first_line.ensures.parts) c.in_ok-piece.ensures.written;
  counted = omega (arith, c.in_ok-piece.ensures.counted, c.lines.invariant.counted);
  same_sink = c.in_ok-piece.ensures.same_sink ∙ c.lines.invariant.same_sink;
}

pub returns-clause-written : goal.returns-clause-written
returns-clause-written g c =
    let none = nil_from_length c.lines.rest.now (search rules) in
    done g.K.Sink.taken _ _ c.args.self.now c.lines.self none c.lines.invariant.progress
