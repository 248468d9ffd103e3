use Rattle.std.proofs.Common.{◌≡◌, ◌≤◌, take, drop}
use Rattle.mako_model.specs.LawfulFronts.{since}
use Rattle.mako_judge.proofs.points.since.Given as goal

abbrev pub invariant-loop-place : goal.invariant-loop-place
invariant-loop-place l = record {
  since : since l.mutator (take l.place l.points) ≡ drop l.start (take l.place l.points);
  within : l.start ≤ l.place;
}
