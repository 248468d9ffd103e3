use Rattle.mako_judge.proofs.Rising.{RisesBelow}
use Rattle.mako_judge.proofs.names.is_rising.Given as goal

abbrev pub invariant-loop-place : goal.invariant-loop-place
invariant-loop-place l = RisesBelow l.names l.place
