use Rattle.std.proofs.Common.{◌≡◌, length}
use Rattle.mako_call.proofs.tests.store.Given as goal

abbrev pub invariant-loop-word : goal.invariant-loop-word
invariant-loop-word l = length l.words ≡ 59
