use Rattle.std.proofs.Common.{◌<◌}
use Rattle.mako_judge.specs.declared.verdict.Clause.{Clause}
use Rattle.mako_judge.specs.Clauses.{Holds}
use Rattle.mako_judge.specs.Verdicts.{rank}
use Rattle.mako_judge.specs.Trials.{script, front}
use Rattle.mako_judge.proofs.trial.Trial.first_fault.Given as goal

abbrev pub invariant-loop-clause : goal.invariant-loop-clause
invariant-loop-clause l = (clause : Clause) → rank clause < l.clause-index → Holds (script l.self) (front l.self) clause
