use Rattle.std.proofs.Common.{◌≡◌, ◌≤◌, take, length}
use Rattle.mako_model.specs.Fronts.{calls_by}
use Rattle.mako_judge.proofs.programs.calls_made.Given as goal

abbrev pub invariant-loop-point : goal.invariant-loop-point
invariant-loop-point l = record {
  made : calls_by l.mutator (take l.point-index l.points) ≡ take l.made l.program;
  within : l.made ≤ length l.program;
}
