use Rattle.std.proofs.Common.{◌≡◌, drop}
use Rattle.mako_model.specs.Starved.{first_snap}
use Rattle.mako_judge.proofs.points.first_snap.Given as goal

abbrev pub invariant-loop-point : goal.invariant-loop-point
invariant-loop-point l = first_snap l.points ≡ first_snap (drop l.point-index l.points)
