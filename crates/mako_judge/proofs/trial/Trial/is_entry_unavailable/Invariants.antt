use Rattle.std.proofs.Common.{take, Contains}
use Rattle.mako_words.specs.declared.name.Name.{Name}
use Rattle.mako_judge.specs.Trials.{script, Blocks}
use Rattle.mako_judge.proofs.trial.Trial.is_entry_unavailable.Given as goal

abbrev pub invariant-loop-name : goal.invariant-loop-name
invariant-loop-name l = (name : Name) → Contains (take l.name-index l.made) name
    → ¬ Blocks (script l.self) l.self.points.now l.cycle l.entry name
