use Rattle.mako_judge.specs.Clauses.{HoldsBelow}
use Rattle.mako_judge.specs.Trials.{script, front}
use Rattle.mako_judge.proofs.trial.Trial.first_breach.Given as goal

abbrev pub invariant-loop-place : goal.invariant-loop-place
invariant-loop-place l = HoldsBelow (script l.self) (front l.self) l.clause l.place
