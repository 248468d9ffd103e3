use Rattle.std.proofs.Common.{◌≡◌, ◌≤◌, length}
use Rattle.mako_text.proofs.Progress.{Progress}
use Rattle.mako_text.proofs.writer.OutputWriter.text.Given as goal

abbrev pub invariant-lines : goal.invariant-lines
invariant-lines g l = record {
  progress : Progress g.K.Sink.taken l.text l.rest l.initial.self l.self;
  counted : g.K.Sink.faults l.initial.self.sink.now ≤ g.K.Sink.faults l.self.sink.now;
  same_sink : l.self.sink.ghost_name ≡ l.initial.self.sink.ghost_name;
}

abbrev pub decreases-lines : goal.decreases-lines
decreases-lines g l = length l.rest
