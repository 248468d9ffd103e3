use Rattle.std.proofs.Common.{◌≡◌, length}
use Rattle.mako_poll.proofs.tests.run.Given as goal

abbrev pub invariant-loop-steps : goal.invariant-loop-steps
invariant-loop-steps l = length l.words ≡ 141
