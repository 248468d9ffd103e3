use Rattle.mako_model.specs.Starved.{IsTabletFull}
use Rattle.mako_judge.specs.Trials.{script, front}
use Rattle.mako_judge.proofs.Starving.{below_more}
use Rattle.mako_judge.proofs.trial.Trial.are_tablets_full.Goals as goal

pub loop-tablet-preserved : goal.loop-tablet-preserved
loop-tablet-preserved c =
    below_more (IsTabletFull (script c.args.self.now)
    (front c.args.self.now) c.args.before.now c.args.cycle c.args.fields) c.loop-tablet.tablet
    c.loop-tablet.invariant
    (c.is_tablet_full.ensures.0 c.if-not-is_tablet_full.false)
