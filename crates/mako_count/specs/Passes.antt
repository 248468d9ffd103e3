-- What a pass of the poller reads.
use Rattle.std.specs.Prelude.{◌≡◌, ℕ, ◌+◌, ◌*◌, ◌^◌, ◌<◌, ◌≤◌, not, length, sum, Option, Some, if◌then◌else◌}
use Rattle.mako_count.specs.declared.views.Reading.{Reading}
use Rattle.mako_count.specs.declared.views.PollView.{PollView}
use Rattle.mako_count.specs.Changes.{tells, sent_read, handled_read}

-- what is told after this reading, where that was told before
abbrev pub told_after : Option ℕ → PollView → Option ℕ
told_after o p = if tells p then Some (sum p.first.sent) else o

-- a pass from p on has come past i workers, whose numbers have these sums
pub record IsPassTo (i : ℕ) (p q : PollView) (sent handled : ℕ) : Type 0 where
  pub first : q.first ≡ p.later
  pub count : q.count ≡ p.count
  pub passes : q.passes ≡ p.passes + 1
  pub again : q.again ≡ not p.again
  pub sent_length : length q.later.sent ≡ i
  pub handled_length : length q.later.handled ≡ i
  pub sent_sum : sum q.later.sent ≡ sent
  pub handled_sum : sum q.later.handled ≡ handled
  pub told : q.told ≡ told_after p.told q
  pub small : (sent ≤ i * 2 ^ 40) × (handled ≤ i * 2 ^ 40)

-- the next worker's numbers are read
abbrev pub IsNumbersOf : PollView → PollView → ℕ → ℕ → Type 0
IsNumbersOf p q sent handled = (q ≡ handled_read handled (sent_read sent p)) × (sent < 2 ^ 40) × (handled < 2 ^ 40)

-- each worker's numbers stand in the reading
abbrev pub IsWholeReading : ℕ → Reading → Type 0
IsWholeReading n r = (length r.sent ≡ n) × (length r.handled ≡ n)
