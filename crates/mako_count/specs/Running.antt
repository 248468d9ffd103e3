-- What workers on threads do.
use Rattle.std.specs.Prelude.{◌≡◌, ℕ, List, min, All}
use Rattle.atomic_table.specs.Seated.{TableId}
use Rattle.mako_count.specs.declared.views.Hand.TheVariants.{Free}
use Rattle.mako_count.specs.declared.views.WorkerView.{WorkerView}
use Rattle.mako_count.specs.States.{WorkerState}

-- the worker has sent a piece for each piece that it handled, as long as it might
abbrev pub SendsInTurn : ℕ → WorkerView → Type 0
SendsInTurn most w = w.sends ≡ min w.handled most

-- it holds no piece
abbrev pub IsBetweenPieces : WorkerState → Type 0
IsBetweenPieces w = (w.known.hand ≡ Free) × SendsInTurn w.most w.known

abbrev pub IsSameWorker : WorkerState → WorkerState → Type 0
IsSameWorker old new = (new.table ≡ old.table) × (new.most ≡ old.most) × (new.known.seeds ≡ old.known.seeds)

-- all workers of a table stand between pieces, each with so many seeds and so many sends to make
abbrev pub AreBetweenPieces : TableId → ℕ → ℕ → List WorkerState → Type 0
AreBetweenPieces table seeds most ws = All (λ w. (w.table ≡ table) × (w.most ≡ most) × (w.known.seeds ≡ seeds)
    × IsBetweenPieces w) ws
