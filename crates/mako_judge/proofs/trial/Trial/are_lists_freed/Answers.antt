use Rattle.std.proofs.Common.{ℕ, ◌≡◌, ◌+◌, List, slice_get, Some, ◌-◌, refl, ap, sym, subst, ◌∙◌, arith}
use Rattle.std.proofs.lemmas.Option.{same_Some, slice_get_within}
use Rattle.mako_words.specs.declared.name.Name.{Name}
use Rattle.mako_model.specs.Dead.{AreFreed}
use Rattle.mako_judge.specs.Trials.{script}
use Rattle.mako_judge.proofs.Starving.{below_more}
use Rattle.mako_judge.proofs.trial.Trial.are_lists_freed.Goals as goal

pub loop-index-preserved : goal.loop-index-preserved
loop-index-preserved c =
    let w = script c.args.self.now in
    let lists = c.args.self.now.cycles.now.lists in
    let at : ℕ → Type 0 = λ (i : ℕ). (names : List Name) → slice_get lists i ≡ Some names
    → AreFreed w c.args.self.now.points.now (i + 1) names in
    below_more at c.loop-index.index c.loop-index.invariant
    (λ names is.
    let n : c.loop-index.index + 1 - 1 ≡ c.loop-index.index = omega arith in
    let same : c.freed.result.now ≡ names = same_Some c.freed.result.now names (sym c.freed.ensures
    ∙ ap (slice_get lists) n ∙ is) in
    subst (AreFreed w c.args.self.now.points.now (c.loop-index.index + 1)) same
    (c.is_freed.ensures.0 c.if-not-is_freed.false))

pub returns : goal.returns
returns c = (
  (λ t i names is. c.loop-index.invariant i (let l =
      slice_get_within c.args.self.now.cycles.now.lists i names is in omega arith) names is),
  (λ all. refl),
)
