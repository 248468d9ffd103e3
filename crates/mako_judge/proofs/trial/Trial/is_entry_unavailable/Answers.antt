use Rattle.std.proofs.Common.{refl, sym, subst, ◌∙◌, Contains, get_or}
use Rattle.std.proofs.lemmas.List.Elements.{Contains-get_or}
use Rattle.mako_words.specs.declared.name.Name.{Name}
use Rattle.mako_model.specs.Heaps.{board_name}
use Rattle.mako_judge.specs.Trials.{script, front, Blocks}
use Rattle.mako_judge.proofs.Kept.{false_true}
use Rattle.mako_judge.proofs.Pointwise.{each_more, each_all}
use Rattle.mako_judge.proofs.Starving.{taken_by, not_taken}
use Rattle.mako_judge.proofs.trial.Trial.is_entry_unavailable.Goals as goal

pub returns-then-blocks : goal.returns-then-blocks
returns-then-blocks c =
    let name = get_or c.args.made.now c.loop-name.name-index board_name in (
      (λ t. taken_by (script c.args.self.now) (front c.args.self.now) c.args.before.now c.args.cycle c.args.entry name
          (subst (λ ns. Contains ns name) c.requires.made
          (Contains-get_or c.args.made.now c.loop-name.name-index board_name c.loop-name-test.true))
          (c.blocks-in-loop-name.ensures.0 c.if-blocks.true)),
      (λ t. refl),
    )

pub loop-name-preserved : goal.loop-name-preserved
loop-name-preserved c =
    each_more (λ x. ¬ Blocks (script c.args.self.now) c.args.self.now.points.now c.args.cycle c.args.entry x)
    c.args.made.now c.loop-name.name-index board_name c.loop-name-test.true c.loop-name.invariant
    (λ takes. false_true (sym c.if-blocks.false ∙ c.blocks-in-loop-name.ensures.1 takes))

pub returns : goal.returns
returns c =
    let t : Name → Type 0 =
    λ (x : Name). ¬ Blocks (script c.args.self.now) c.args.self.now.points.now c.args.cycle c.args.entry x in (
      (λ t. absurd (false_true t)),
      (λ taken. absurd (not_taken (script c.args.self.now)
          (front c.args.self.now) c.args.before.now c.args.cycle c.args.entry
          (λ x made. each_all t c.args.made.now c.loop-name.name-index c.loop-name-test.false c.loop-name.invariant x
          (subst (λ ns. Contains ns x) (sym c.requires.made) made)) taken)),
    )
