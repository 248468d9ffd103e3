use Rattle.std.proofs.Common.{refl}
use Rattle.mako_model.specs.Heaps.{board_name}
use Rattle.mako_judge.specs.Trials.{script, DiedIn}
use Rattle.mako_judge.proofs.Pointwise.{each_more, each_all}
use Rattle.mako_judge.proofs.trial.Trial.have_died.Goals as goal

pub loop-name-preserved : goal.loop-name-preserved
loop-name-preserved c =
    each_more (DiedIn (script c.args.self.now) c.args.self.now.points.now c.args.cycle) c.args.names.now
    c.loop-name.name-index board_name c.loop-name-test.true c.loop-name.invariant
    (c.has_died.ensures.0 c.if-not-has_died.false)

pub returns : goal.returns
returns c = (
  (λ t. each_all (DiedIn (script c.args.self.now) c.args.self.now.points.now c.args.cycle) c.args.names.now
      c.loop-name.name-index c.loop-name-test.false c.loop-name.invariant),
  (λ all. refl),
)
