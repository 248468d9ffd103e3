use Rattle.std.proofs.Common.{◌≡◌, ◌≤◌, take}
use Rattle.mako_model.specs.Legal.{Facts, state_of}
use Rattle.mako_judge.proofs.points.snaps.Given as goal

abbrev pub invariant-loop-point : goal.invariant-loop-point
invariant-loop-point l = record {
  count : (w : Facts) → l.count ≡ (state_of w (take l.point-index l.points)).snaps;
  within : l.count ≤ l.point-index;
}
