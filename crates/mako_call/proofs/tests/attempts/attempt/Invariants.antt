use Rattle.std.proofs.Common.{◌≡◌, length}
use Rattle.mako_call.proofs.tests.attempts.attempt.Given as goal

abbrev pub invariant-loop-step : goal.invariant-loop-step
invariant-loop-step l = length l.words ≡ 59

abbrev pub invariant-loop-part : goal.invariant-loop-part
invariant-loop-part l = length l.words ≡ 59
