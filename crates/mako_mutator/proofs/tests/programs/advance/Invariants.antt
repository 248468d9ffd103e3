use Rattle.std.proofs.Common.{◌≡◌, length}
use Rattle.mako_mutator.proofs.tests.programs.advance.Given as goal

abbrev pub invariant-loop : goal.invariant-loop
invariant-loop l = length l.words ≡ 59
