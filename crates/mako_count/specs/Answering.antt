-- What a poll answers.
use Rattle.std.specs.Prelude.{◌≡◌, ℕ, sum, Some}
use Rattle.mako_count.specs.declared.passes.Sums.{Sums}
use Rattle.mako_count.specs.declared.poller.Counting.{Counting}
use Rattle.mako_count.specs.declared.poller.Counting.TheVariants.{Told, NotYet}
use Rattle.mako_count.specs.declared.views.PollView.{PollView}

-- the sums of the four lists that the two passes read
abbrev pub HasSums : PollView → ℕ → ℕ → ℕ → ℕ → Type 0
HasSums p sent handled later_sent later_handled =
    (sum p.first.sent ≡ sent) × (sum p.first.handled ≡ handled) × (sum p.later.sent ≡ later_sent)
    × (sum p.later.handled ≡ later_handled)

abbrev pub AreEqual : ℕ → ℕ → ℕ → ℕ → Type 0
AreEqual sent handled later_sent later_handled = (handled ≡ sent) × (later_sent ≡ sent) × (later_handled ≡ sent)

-- Told exactly where the four sums are equal. It stays known; what is not told leaves what was known
abbrev pub IsAnswer : PollView → PollView → Counting → Type 0
IsAnswer old p (Told n) = HasSums p n n n n × (p.told ≡ Some n)
IsAnswer old p (NotYet sent handled later_sent later_handled) = HasSums p sent handled later_sent later_handled
    × ¬ (AreEqual sent handled later_sent later_handled) × (p.told ≡ old.told)

-- the answer to the sums of two passes
abbrev pub IsVerdict : Sums → Sums → Counting → Type 0
IsVerdict first later (Told n) = (first.sent ≡ n) × AreEqual n first.handled later.sent later.handled
IsVerdict first later (NotYet sent handled later_sent later_handled) =
    (first ≡ record { sent = sent; handled = handled })
    × (later ≡ record { sent = later_sent; handled = later_handled })
    × ¬ (AreEqual sent handled later_sent later_handled)
