use Rattle.std.proofs.Common.{◌+◌, ◌++◌, ◌<◌, List, ℕ, drop, length, refl, ap, sym, ◌∙◌, arith}
use Rattle.std.proofs.lemmas.Result.{err_from_is_err_and}
use Rattle.mako_text.specs.Written.{lines_text}
use Rattle.mako_text.proofs.Progress.{starts, goes_on, stops, done, lines_more, lines_none}
use Rattle.mako_text.proofs.writer.OutputWriter.lines.Goals as goal

pub loop-i-init : goal.loop-i-init
loop-i-init g c = record { progress = starts _ _ _; counted = omega arith; same_sink = refl }

pub returns-in_err-piece-clause-written : goal.returns-in_err-piece-clause-written
returns-in_err-piece-clause-written g c =
    let p = err_from_is_err_and c.from_residual.result c.from_residual.ensures.1 in
    let calls = c.args.calls.now in
    let replies = c.args.replies.now in
    let within : c.loop-i.i < length calls = omega (arith, c.requires) in
    let split = lines_more calls replies c.loop-i.i _ _ within c.loop-i-test.true
    ∙ ap (λ (x : List ℕ). x ++ lines_text (drop (c.loop-i.i + 1) calls) (drop (c.loop-i.i + 1) replies))
    (sym (c.deref.ensures.0 ∙ c.point_line-line.ensures)) in
    rw (p.1, p.2) (stops g.K.Sink.taken _ _ c.deref.result.now _ c.args.self.now c.loop-i.self c.piece.new.self
    c.in_err-piece.field-0.0 c.loop-i.invariant.progress split c.in_err-piece.ensures.written)

pub loop-i-preserved : goal.loop-i-preserved
loop-i-preserved g c =
    let calls = c.args.calls.now in
    let replies = c.args.replies.now in
    let within : c.loop-i.i < length calls = omega (arith, c.requires) in
    let split = lines_more calls replies c.loop-i.i _ _ within c.loop-i-test.true
    ∙ ap (λ (x : List ℕ). x ++ lines_text (drop (c.loop-i.i + 1) calls) (drop (c.loop-i.i + 1) replies))
    (sym (c.deref.ensures.0 ∙ c.point_line-line.ensures)) in record {
      progress = goes_on g.K.Sink.taken _ _ c.deref.result.now _ c.args.self.now c.loop-i.self c.piece.new.self
          c.loop-i.invariant.progress split c.in_ok-piece.ensures.written;
      counted = omega (arith, c.in_ok-piece.ensures.counted, c.loop-i.invariant.counted);
      same_sink = c.in_ok-piece.ensures.same_sink ∙ c.loop-i.invariant.same_sink;
    }

pub returns-clause-written : goal.returns-clause-written
returns-clause-written g c =
    done g.K.Sink.taken _ _ c.args.self.now c.loop-i.self
    (lines_none c.args.calls.now c.args.replies.now c.loop-i.i c.loop-i-test.false) c.loop-i.invariant.progress
