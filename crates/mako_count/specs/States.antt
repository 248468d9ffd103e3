-- What contracts see of a worker and of the poller.
use Rattle.std.specs.Prelude.{◌≡◌, ℕ, ◌*◌, ◌^◌, ◌<◌, ◌≤◌, true, List, [], map, All}
use Rattle.atomic_table.specs.Seated.{TableId}
use Rattle.atomic_table.specs.declared.shared.Seat.{Seat}
use Rattle.mako_count.specs.declared.views.WorkerView.{WorkerView}
use Rattle.mako_count.specs.declared.views.PollView.{PollView}
use Rattle.mako_count.specs.declared.views.View.{View}
use Rattle.mako_count.specs.Views.{openings, opening_poll, worker_of, poll_of, IsSeatOf, IsPollers}

-- a worker: its table, what its seat knows, and how often it may send
pub record WorkerState : Type 0 where
  pub table : TableId
  pub known : WorkerView
  pub most : ℕ

-- the poller: its table, what it knows of the workers that it has met, and what it knows of polls
pub record PollerState : Type 0 where
  pub table : TableId
  pub met : List WorkerView
  pub poll : PollView

abbrev pub Desk : Type 0
Desk = Seat (Unit {0}) View

abbrev pub worker_state : Desk → ℕ → WorkerState
worker_state seat most = record { table = seat.table_id; known = worker_of seat.me.0; most = most }

abbrev pub poller_state : Desk → PollerState
poller_state seat = record { table = seat.table_id; met = seat.me.0.workers; poll = poll_of seat.me.0 }

-- the numbers that a worker keeps are those that its seat knows
pub record IsWorkerHeld (seat : Desk) (n s m : ℕ) : Type 0 where
  pub seated : IsSeatOf (worker_of seat.me.0) seat.me
  pub number : (worker_of seat.me.0).number ≡ n
  pub within : 3 * n < seat.table_id.words
  pub seeds : (worker_of seat.me.0).seeds < 2 ^ 32
  pub sends : (worker_of seat.me.0).sends ≡ s
  pub most : s ≤ m

-- between polls, the last pass was a second one
pub record IsPollerHeld (seat : Desk) : Type 0 where
  pub seated : IsPollers seat.me
  pub count : seat.table_id.words ≡ 3 * (poll_of seat.me.0).count
  pub again : (poll_of seat.me.0).again ≡ true

-- the workers as a count starts: each has its seeds and has done nothing
abbrev pub AreStarting : TableId → List ℕ → ℕ → List WorkerState → Type 0
AreStarting table seeds most ws = (map (λ w. w.known) ws ≡ openings 0 seeds)
    × All (λ w. (w.table ≡ table) × (w.most ≡ most)) ws

-- the poller as a count starts: it has met no worker and read nothing
abbrev pub IsStartingPoller : TableId → ℕ → PollerState → Type 0
IsStartingPoller table n p = p ≡ record { table = table; met = []; poll = opening_poll n }
