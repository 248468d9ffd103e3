-- What a look tells of the workers that the poller has met.
use Rattle.std.specs.Prelude.{◌≡◌, ℕ, ◌+◌, ◌≤◌, List, length, sum_by, All, Some}
use Rattle.mako_count.specs.declared.views.WorkerView.{WorkerView}
use Rattle.mako_count.specs.declared.views.PollView.{PollView}
use Rattle.mako_count.specs.Views.{Seated, poll_of}

-- What a told poller knows of the workers that it has met, of so many in all: each handled its seeds at least. If it
-- has
-- met them all, as many pieces were told as they had seeds and sends
abbrev pub MeetingTells : ℕ → List WorkerView → PollView → Type 0
MeetingTells crew met p = (n : ℕ) → p.told ≡ Some n
    → All (λ w. w.seeds ≤ w.handled) met × (length met ≡ crew → n ≡ sum_by (λ w. w.seeds + w.sends) met)

abbrev pub MeetsAt : Seated → Seated → Type 0
MeetsAt me after = (after ≡ me) × MeetingTells (poll_of me.0).count me.0.workers (poll_of me.0)
