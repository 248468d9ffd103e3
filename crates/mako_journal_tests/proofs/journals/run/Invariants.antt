use Rattle.std.proofs.Common.{◌≡◌, length}
use Rattle.mako_journal_tests.proofs.journals.run.Given as goal

abbrev pub invariant-loop-round : goal.invariant-loop-round
invariant-loop-round l = length l.core.state.seats ≡ l.seats

abbrev pub invariant-loop-seat : goal.invariant-loop-seat
invariant-loop-seat l = length l.core.state.seats ≡ l.seats
