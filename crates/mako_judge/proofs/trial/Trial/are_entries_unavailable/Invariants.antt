use Rattle.std.proofs.Common.{ℕ, ◌<◌, ◌≤◌, ◌*◌}
use Rattle.mako_model.specs.Starved.{IsEntryUnavailable}
use Rattle.mako_judge.specs.Trials.{script, front}
use Rattle.mako_judge.proofs.trial.Trial.are_entries_unavailable.Given as goal

abbrev pub invariant-loop-entry : goal.invariant-loop-entry
invariant-loop-entry l = (entry : ℕ) → l.tablet * l.self.setup.now.entries ≤ entry → entry < l.entry
    → IsEntryUnavailable (script l.self) (front l.self) l.before l.cycle entry
