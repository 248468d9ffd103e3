use Rattle.mako_count.specs.Running.{IsSameWorker, IsBetweenPieces}
use Rattle.mako_count.proofs.run.work.Given as goal

abbrev pub invariant-pieces : goal.invariant-pieces
invariant-pieces g l = record { same : IsSameWorker l.fn.worker l.worker; between : IsBetweenPieces l.worker }
