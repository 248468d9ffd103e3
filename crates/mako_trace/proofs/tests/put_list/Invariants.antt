use Rattle.std.proofs.Common.{◌≡◌, length}
use Rattle.mako_trace.proofs.tests.put_list.Given as goal

abbrev pub invariant-loop-number : goal.invariant-loop-number
invariant-loop-number l = length l.words ≡ 152
