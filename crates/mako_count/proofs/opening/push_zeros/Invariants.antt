use Rattle.std.proofs.Common.{◌≡◌, ◌++◌, replicate}
use Rattle.mako_count.proofs.opening.push_zeros.Given as goal

abbrev pub invariant-loop-i : goal.invariant-loop-i
invariant-loop-i l = l.words.items ≡ l.fn.words.items ++ replicate l._i 0
