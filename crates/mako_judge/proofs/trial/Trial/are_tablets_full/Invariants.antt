use Rattle.std.proofs.Common.{ℕ, ◌<◌}
use Rattle.mako_model.specs.Starved.{IsTabletFull}
use Rattle.mako_judge.specs.Trials.{script, front}
use Rattle.mako_judge.proofs.trial.Trial.are_tablets_full.Given as goal

abbrev pub invariant-loop-tablet : goal.invariant-loop-tablet
invariant-loop-tablet l = (tablet : ℕ) → tablet < l.tablet
    → IsTabletFull (script l.self) (front l.self) l.before l.cycle l.fields tablet
