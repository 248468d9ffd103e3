use Rattle.std.proofs.Common.{◌≡◌, length}
use Rattle.mako_trace.proofs.tests.run.Given as goal

abbrev pub invariant-loop : goal.invariant-loop
invariant-loop l = length l.words ≡ 152
