use Rattle.std.proofs.Common.{◌≡◌, ◌-◌, ◌^◌, min, take}
use Rattle.mako_model.specs.Starved.{words_made}
use Rattle.mako_judge.specs.Trials.{script}
use Rattle.mako_judge.proofs.trial.Trial.words_made.Given as goal

abbrev pub invariant-loop-point : goal.invariant-loop-point
invariant-loop-point l = l.words ≡ min (words_made (script l.self) l.tablet (take l.point-index l.points)) (2 ^ 64 - 1)
