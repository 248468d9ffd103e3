use Rattle.std.proofs.Common.{◌≡◌, ◌≤◌, drop}
use Rattle.mako_text.specs.Written.{lines_text}
use Rattle.mako_text.proofs.Progress.{Progress}
use Rattle.mako_text.proofs.writer.OutputWriter.lines.Given as goal

abbrev pub invariant-loop-i : goal.invariant-loop-i
invariant-loop-i g l = record {
  progress : Progress g.K.Sink.taken (lines_text l.calls l.replies)
      (lines_text (drop l.i l.calls) (drop l.i l.replies)) l.initial.self l.self;
  counted : g.K.Sink.faults l.initial.self.sink.now ≤ g.K.Sink.faults l.self.sink.now;
  same_sink : l.self.sink.ghost_name ≡ l.initial.self.sink.ghost_name;
}
