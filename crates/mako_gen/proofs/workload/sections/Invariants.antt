use Rattle.std.proofs.Common.{◌≡◌, length}
use Rattle.mako_gen.specs.Workloads.{AreSections}
use Rattle.mako_gen.proofs.workload.sections.Given as goal

abbrev pub invariant-loop-mutator : goal.invariant-loop-mutator
invariant-loop-mutator l = record {
  drawn : AreSections l.size l.initial.generator l.programs.items l.generator;
  count : length l.programs.items ≡ l._mutator;
}
