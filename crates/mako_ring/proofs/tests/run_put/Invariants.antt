use Rattle.std.proofs.Common.{◌≡◌, length}
use Rattle.mako_ring.proofs.tests.run_put.Given as goal

abbrev pub invariant-loop : goal.invariant-loop
invariant-loop l = length l.words ≡ 141
