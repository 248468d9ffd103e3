use Rattle.std.proofs.Common.{take, Contains}
use Rattle.mako_words.specs.declared.name.Name.{Name}
use Rattle.mako_judge.specs.Trials.{script, DiedIn}
use Rattle.mako_judge.proofs.trial.Trial.are_all.Given as goal

abbrev pub invariant-loop-name : goal.invariant-loop-name
invariant-loop-name l = (name : Name) → Contains (take l.name-index l.dead) name
    → DiedIn (script l.self) l.self.points.now l.cycle name → Contains l.names name
