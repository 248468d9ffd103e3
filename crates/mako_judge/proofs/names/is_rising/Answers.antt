use Rattle.std.proofs.Common.{refl, arith}
use Rattle.mako_judge.proofs.Kept.{false_true}
use Rattle.mako_judge.proofs.Rising.{rising_from, rises_to_end, not_rising}
use Rattle.mako_judge.proofs.names.is_rising.Goals as goal

pub returns-then-ne : goal.returns-then-ne
returns-then-ne c = (
  (λ t. absurd (false_true t)),
  (λ rising. absurd (not_rising c.args.names.now c.loop-place.place c.cmp.result
      (omega arith) c.loop-place-test.true c.cmp.ensures c.if-ne.ensures rising)),
)

pub returns : goal.returns
returns c = (
  (λ t. rising_from c.args.names.now
      (rises_to_end c.args.names.now c.loop-place.place c.loop-place-test.false c.loop-place.invariant)),
  (λ rising. refl),
)
