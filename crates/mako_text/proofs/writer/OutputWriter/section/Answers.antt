use Rattle.std.proofs.lemmas.Result.{err_from_is_err_and}
use Rattle.mako_text.specs.Outputs.{mutator_line}
use Rattle.mako_text.specs.Written.{lines_text}
use Rattle.mako_text.proofs.Progress.{both, first}
use Rattle.mako_text.proofs.writer.OutputWriter.section.Goals as goal

pub returns-in_err-piece-clause-written : goal.returns-in_err-piece-clause-written
returns-in_err-piece-clause-written g c =
    let p = err_from_is_err_and c.from_residual.result c.from_residual.ensures.1 in
    let piece = rw (c.deref.ensures.0, c.mutator_bytes.ensures) at c.in_err-piece.ensures.written in
    rw (p.1, p.2) (first g.K.Sink.taken (mutator_line c.args.mutator) (lines_text c.args.calls.now c.args.replies.now)
    c.args.self.now c.piece.new.self c.in_err-piece.field-0.0 piece)

pub returns-clause-written : goal.returns-clause-written
returns-clause-written g c =
    let piece = rw (c.deref.ensures.0, c.mutator_bytes.ensures) at c.in_ok-piece.ensures.written in
    both g.K.Sink.taken (mutator_line c.args.mutator) (lines_text c.args.calls.now c.args.replies.now) c.args.self.now
    c.piece.new.self c.lines.new.self c.lines.result piece c.lines.ensures.written
