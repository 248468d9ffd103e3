use Rattle.std.proofs.Common.{ℕ, ◌≡◌, ◌<◌, ◌+◌, List, slice_get, Some}
use Rattle.mako_words.specs.declared.name.Name.{Name}
use Rattle.mako_model.specs.Dead.{AreFreed}
use Rattle.mako_judge.specs.Trials.{script}
use Rattle.mako_judge.proofs.trial.Trial.are_lists_freed.Given as goal

abbrev pub invariant-loop-index : goal.invariant-loop-index
invariant-loop-index l = (i : ℕ) → i < l.index → (names : List Name) → slice_get l.self.cycles.now.lists i ≡ Some names
    → AreFreed (script l.self) l.self.points.now (i + 1) names
