use Rattle.std.proofs.Common.{IsTrue, subst, sym, ◌∙◌, Contains, ℕ}
use Rattle.mako_model.specs.Dead.{IsDead}
use Rattle.mako_judge.specs.Trials.{script, front}
use Rattle.mako_judge.proofs.Kept.{false_true}
use Rattle.mako_judge.proofs.Pointwise.{reuse_iff, name_before}
use Rattle.mako_judge.proofs.trial.Trial.is_reuse.Goals as goal

pub returns-then-has : goal.returns-then-has
returns-then-has c =
    let w = script c.args.self.now in
    let x = name_before c.args.name in
    let at : ℕ → Type 0 = λ (k : ℕ). IsDead w c.args.self.now.points.now k x in
    reuse_iff w (front c.args.self.now) c.args.before.now c.args.name (IsTrue c.is_dead.result) c.if-name-eq0.false (
      (λ r. (
        subst (λ ns. Contains ns x) c.requires.made (c.has.ensures.0 c.if-has.true),
        subst at (c.snaps.ensures w)
            (c.is_dead.ensures.0 r),
      )),
      (λ both. c.is_dead.ensures.1 (subst at (sym (c.snaps.ensures w)) both.1)),
    )

pub returns-else-has : goal.returns-else-has
returns-else-has c =
    reuse_iff (script c.args.self.now) (front c.args.self.now) c.args.before.now c.args.name
    (IsTrue c.has.result) c.if-name-eq0.false (
      (λ r. absurd (false_true (sym c.if-has.false ∙ r))),
      (λ both. absurd (false_true (sym c.if-has.false
          ∙ c.has.ensures.1 (subst (λ ns. Contains ns (name_before c.args.name)) (sym c.requires.made) both.0)))),
    )
