use Rattle.std.proofs.Common.{◌≡◌, replicate}
use Rattle.mako_model.specs.Heaps.{opening_roots}
use Rattle.mako_model.specs.Immortals.{roots_in}
use Rattle.mako_model.proofs.roots.Roots.opening.Given as goal

abbrev pub invariant-loop : goal.invariant-loop
invariant-loop l = roots_in l.rows ≡ replicate l.counter (opening_roots l.roots)
