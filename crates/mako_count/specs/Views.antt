-- What seats know, and how it is parted and put together.
use Rattle.std.specs.Prelude.{◌≡◌, ℕ, suc, true, List, [], ◌∷◌, ◌++◌, Option, Some, None}
use Rattle.atomic_table.specs.Table.{Me}
use Rattle.mako_count.specs.declared.views.Hand.{Hand}
use Rattle.mako_count.specs.declared.views.Hand.TheVariants.{Free}
use Rattle.mako_count.specs.declared.views.WorkerView.{WorkerView}
use Rattle.mako_count.specs.declared.views.Reading.{Reading}
use Rattle.mako_count.specs.declared.views.PollView.{PollView}
use Rattle.mako_count.specs.declared.views.View.{View}

-- a worker at its start
abbrev pub opening_worker : ℕ → ℕ → WorkerView
opening_worker number seeds = record {
  number = number;
  seeds = seeds;
  sends = 0;
  handled = 0;
  looked = 0;
  filled = 0;
  hand = Free;
}

-- the workers at their start, numbered on from the first
abbrev pub openings : ℕ → List ℕ → List WorkerView
openings number [] = []
openings number (n ∷ ns) = opening_worker number n ∷ openings (suc number) ns

abbrev pub nothing_read : Reading
nothing_read = record { sent = []; handled = [] }

abbrev pub opening_poll : ℕ → PollView
opening_poll n = record { count = n; first = nothing_read; later = nothing_read; passes = 0; again = true; told = None }

-- a worker's seat
abbrev pub alone : WorkerView → View
alone w = record { workers = w ∷ []; poll = None }

-- the poller's seat, with the workers that it has met
abbrev pub gathering : List WorkerView → PollView → View
gathering ws p = record { workers = ws; poll = Some p }

abbrev pub first_worker : List WorkerView → WorkerView
first_worker [] = opening_worker 0 0
first_worker (w ∷ ws) = w

abbrev pub other_workers : List WorkerView → List WorkerView
other_workers [] = []
other_workers (w ∷ ws) = ws

abbrev pub poll_or_opening : Option PollView → PollView
poll_or_opening None = opening_poll 0
poll_or_opening (Some p) = p

-- what a worker's seat knows of it
abbrev pub worker_of : View → WorkerView
worker_of v = first_worker v.workers

-- what the poller's seat knows of polls
abbrev pub poll_of : View → PollView
poll_of v = poll_or_opening v.poll

-- the first worker gets a seat of its own
abbrev pub first_of : View → View
first_of v = alone (first_worker v.workers)

abbrev pub rest_of : View → View
rest_of v = record { workers = other_workers v.workers; poll = v.poll }

-- a worker's seat is taken in
abbrev pub met_with : View → View → View
met_with v w = record { workers = v.workers ++ w.workers; poll = v.poll }

abbrev pub spent : View
spent = record { workers = []; poll = None }

abbrev pub Seated : Type 0
Seated = Me (Unit {0}) View

-- the seat is that of this worker
abbrev pub IsSeatOf : WorkerView → Seated → Type 0
IsSeatOf w me = me ≡ (alone w, [])

-- the seat is the poller's, with these workers met
abbrev pub IsPollersSeat : List WorkerView → PollView → Seated → Type 0
IsPollersSeat ws p me = me ≡ (gathering ws p, [])

abbrev pub IsPollers : Seated → Type 0
IsPollers me = IsPollersSeat me.0.workers (poll_of me.0) me

-- the seat is that of the worker with this number, which stands so
abbrev pub IsWorkers : Seated → ℕ → Hand → Type 0
IsWorkers me n h = IsSeatOf (worker_of me.0) me × ((worker_of me.0).number ≡ n) × ((worker_of me.0).hand ≡ h)
