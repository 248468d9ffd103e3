use Rattle.std.proofs.Common.{sym, ◌∙◌}
use Rattle.mako_judge.proofs.Kept.{false_true}
use Rattle.mako_judge.proofs.trial.Trial.are_those.Goals as goal

pub returns-then-have_died : goal.returns-then-have_died
returns-then-have_died c = (
  (λ t x. (c.have_died.ensures.0 c.if-have_died.true x, c.are_all.ensures.0 t x)),
  (λ those. c.are_all.ensures.1 (λ x died. (those x).1 died)),
)

pub returns-else-have_died : goal.returns-else-have_died
returns-else-have_died c = (
  (λ t. absurd (false_true (sym c.if-have_died.false ∙ t))),
  (λ those. absurd (false_true (sym c.if-have_died.false ∙ c.have_died.ensures.1 (λ x c. (those x).0 c)))),
)
