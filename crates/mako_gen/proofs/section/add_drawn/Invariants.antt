use Rattle.mako_gen.specs.Workloads.{Adds}
use Rattle.mako_gen.proofs.section.add_drawn.Given as goal

abbrev pub invariant-loop-drawn : goal.invariant-loop-drawn
invariant-loop-drawn l = Adds l.initial.calls.items l.initial.generator l._drawn l.calls.items l.generator
