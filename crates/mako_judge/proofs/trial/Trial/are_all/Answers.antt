use Rattle.std.proofs.Common.{refl, sym, ◌∙◌, Contains}
use Rattle.mako_words.specs.declared.name.Name.{Name}
use Rattle.mako_model.specs.Heaps.{board_name}
use Rattle.mako_judge.specs.Trials.{script, DiedIn}
use Rattle.mako_judge.proofs.Kept.{false_true}
use Rattle.mako_judge.proofs.Pointwise.{each_more, each_all}
use Rattle.mako_judge.proofs.trial.Trial.are_all.Goals.{else-has_died-via-then-has_died+else-not-has}
use Rattle.mako_judge.proofs.trial.Trial.are_all.Goals.{else-has_died-via-else-has_died}
use Rattle.mako_judge.proofs.trial.Trial.are_all.Goals as goal

pub loop-name-preserved : goal.loop-name-preserved
loop-name-preserved c =
    let found : Name → Type 0 = λ (x : Name). DiedIn (script c.args.self.now) c.args.self.now.points.now c.args.cycle x
    → Contains c.args.names.now x in
    each_more found c.of-dead.result.now c.loop-name.name-index board_name c.loop-name-test.true c.loop-name.invariant
    (elim c.else-has_died.branch [
      | else-has_died-via-then-has_died+else-not-has w ↦ λ died. w.has.ensures.0 w.if-not-has.false
      | else-has_died-via-else-has_died w ↦ λ died. absurd (false_true (sym w.if-has_died.false
          ∙ c.has_died.ensures.1 died))
    ])

pub returns : goal.returns
returns c =
    let found : Name → Type 0 = λ (x : Name). DiedIn (script c.args.self.now) c.args.self.now.points.now c.args.cycle x
    → Contains c.args.names.now x in (
      (λ t x died. each_all found c.of-dead.result.now c.loop-name.name-index c.loop-name-test.false
          c.loop-name.invariant x ((c.of-dead.ensures x).1 ((c.requires.each c.args.cycle x).1 died.0)) died),
      (λ all. refl),
    )
