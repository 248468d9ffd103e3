use Rattle.std.proofs.Common.{◌↔◌, IsTrue, sym, subst}
use Rattle.mako_judge.specs.declared.verdict.Clause.{Clause}
use Rattle.mako_judge.specs.Clauses.{HoldsApart}
use Rattle.mako_judge.specs.Trials.{script, front}
use Rattle.mako_judge.proofs.trial.Trial.holds_apart.Goals as goal

pub returns-in-Freed : goal.returns-in-Freed
returns-in-Freed c =
    subst (λ (d : Clause). IsTrue c.are_lists_freed.result ↔ HoldsApart (script c.args.self.now)
    (front c.args.self.now) d) (sym c.in-Freed.is) c.are_lists_freed.ensures
