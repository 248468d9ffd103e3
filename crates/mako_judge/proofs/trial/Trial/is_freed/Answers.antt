use Rattle.mako_judge.proofs.trial.Trial.is_freed.Goals as goal

pub returns-then-is_rising : goal.returns-then-is_rising
returns-then-is_rising c = (
  (λ t. record { rising = c.is_rising.ensures.0 c.if-is_rising.true; each = c.are_those.ensures.0 t }),
  (λ freed. c.are_those.ensures.1 freed.each),
)
