use Rattle.std.proofs.Common.{◌≡◌, take}
use Rattle.mako_model.specs.Dead.{names_made}
use Rattle.mako_judge.proofs.names.names_made.Given as goal

abbrev pub invariant-loop-point : goal.invariant-loop-point
invariant-loop-point l = l.names.items ≡ names_made (take l.point-index l.points)
