use Rattle.std.proofs.Common.{◌≡◌, length}
use Rattle.mako_judging_tests.proofs.judging.journal_of.Given as goal

abbrev pub invariant-loop-point : goal.invariant-loop-point
invariant-loop-point l = record {
  points : length l.journal.points ≡ l.point-index;
  room : l.journal.room ≡ length l.points;
}
