use Rattle.std.proofs.Common.{◌≡◌, ◌≤◌, ◌+◌, drop}
use Rattle.std.specs.List.{flat_map, enumerate_from}
use Rattle.mako_text.specs.Outputs.{cycle_text}
use Rattle.mako_text.proofs.Progress.{Progress}
use Rattle.mako_text.proofs.writer.OutputWriter.cycles.Given as goal

abbrev pub invariant-loop-k : goal.invariant-loop-k
invariant-loop-k g l = record {
  progress : Progress g.K.Sink.taken (flat_map cycle_text (enumerate_from 1 l.cycles.lists))
      (flat_map cycle_text (enumerate_from (l.k + 1) (drop l.k l.cycles.lists))) l.initial.self l.self;
  counted : g.K.Sink.faults l.initial.self.sink.now ≤ g.K.Sink.faults l.self.sink.now;
  same_sink : l.self.sink.ghost_name ≡ l.initial.self.sink.ghost_name;
}
