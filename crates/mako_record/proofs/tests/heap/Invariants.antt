use Rattle.std.proofs.Common.{◌≡◌, length, replicate, drop}
use Rattle.mako_record.specs.Runs.{written}
use Rattle.mako_record.proofs.tests.heap.Given as goal

abbrev pub invariant-loop-word : goal.invariant-loop-word
invariant-loop-word l = (length l.words ≡ 59)
    × (written l.words (drop l.word-index l.given) ≡ written (replicate 59 0) l.given)
