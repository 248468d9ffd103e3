use Rattle.std.proofs.Common.{◌≡◌, ◌-◌, length}
use Rattle.mako_record.specs.Runs.{CanGo}
use Rattle.mako_record.proofs.tests.run.Given as goal

abbrev pub invariant-loop : goal.invariant-loop
invariant-loop g l =
    CanGo g.M.Machine.next_of g.M.Machine.Fits g.M.Machine.fed (l.steps - l.counter) l.machine (g.W.Words.words l.words)
    × (length (g.W.Words.words l.words) ≡ length (g.W.Words.words l.fn.words))
