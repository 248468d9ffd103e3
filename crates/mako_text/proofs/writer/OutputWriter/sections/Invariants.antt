use Rattle.std.proofs.Common.{◌≡◌, ◌≤◌, drop, map}
use Rattle.mako_text.specs.Written.{sections_text}
use Rattle.mako_text.proofs.Progress.{Progress}
use Rattle.mako_text.proofs.writer.OutputWriter.sections.Given as goal

abbrev pub invariant-loop-m : goal.invariant-loop-m
invariant-loop-m g l = record {
  progress : Progress g.K.Sink.taken (sections_text 0 (map (λ p. p.calls) l.programs) (map (λ v. v.items) l.lists))
      (sections_text l.m (drop l.m (map (λ p. p.calls) l.programs)) (drop l.m (map (λ v. v.items) l.lists)))
      l.initial.self l.self;
  counted : g.K.Sink.faults l.initial.self.sink.now ≤ g.K.Sink.faults l.self.sink.now;
  same_sink : l.self.sink.ghost_name ≡ l.initial.self.sink.ghost_name;
}
