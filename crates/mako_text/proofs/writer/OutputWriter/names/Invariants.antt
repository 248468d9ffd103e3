use Rattle.std.proofs.Common.{◌≡◌, ◌≤◌, drop}
use Rattle.std.specs.List.{flat_map}
use Rattle.mako_text.specs.Outputs.{freed_text}
use Rattle.mako_text.proofs.Progress.{Progress}
use Rattle.mako_text.proofs.writer.OutputWriter.names.Given as goal

abbrev pub invariant-loop-i : goal.invariant-loop-i
invariant-loop-i g l = record {
  progress : Progress g.K.Sink.taken (flat_map freed_text l.names)
      (flat_map freed_text (drop l.i l.names)) l.initial.self l.self;
  counted : g.K.Sink.faults l.initial.self.sink.now ≤ g.K.Sink.faults l.self.sink.now;
  same_sink : l.self.sink.ghost_name ≡ l.initial.self.sink.ghost_name;
}
