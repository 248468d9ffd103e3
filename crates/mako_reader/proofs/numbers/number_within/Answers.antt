use Rattle.std.proofs.Common.{arith}
use Rattle.mako_reader.proofs.Digits.{same_number}
use Rattle.mako_reader.proofs.numbers.number_within.Goals as goal
use Rattle.mako_reader.proofs.numbers.number_within.Goals.{then-value-from-via-then-value-from}
use Rattle.mako_reader.proofs.numbers.number_within.Goals.{then-value-from-via-else-value-from+then-value-from-2}

pub returns-then-value-from : goal.returns-then-value-from
returns-then-value-from c = λ n is.
    let same = same_number c.args.word.now c.in_ok-value.value n c.in_ok-value.ensures.read is.0 in
    elim c.then-value-from.branch [
      | then-value-from-via-then-value-from w ↦ omega (arith, same, is.1, w.if-value-from.true, c.from.ensures)
      | then-value-from-via-else-value-from+then-value-from-2 w ↦ omega
          (arith, same, is.2, w.if-value-from-2.true, w.from-else-value-from.ensures)
    ]
