use Rattle.std.proofs.Common.{ℕ, ◌≡◌, ◌<◌, List, slice_get, Some}
use Rattle.mako_model.specs.declared.call.Call.{Call}
use Rattle.mako_model.specs.Fronts.{calls_by}
use Rattle.mako_judge.specs.Trials.{script}
use Rattle.mako_judge.proofs.trial.Trial.is_whole.Given as goal

abbrev pub invariant-loop-mutator : goal.invariant-loop-mutator
invariant-loop-mutator l =
    (mutator : ℕ) → mutator < l.mutator → (program : List Call)
    → slice_get (script l.self).programs mutator ≡ Some program → calls_by mutator l.self.points.now ≡ program
