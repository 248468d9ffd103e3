-- What the collector's trail shows of completion.
use Rattle.std.specs.Prelude.{◌≡◌, ℕ, List, ◌++◌}
use Rattle.mako_words.specs.Phases.{phase_word}
use Rattle.mako_words.specs.declared.phase_word.PhaseWord.TheVariants.{Trace}
use Rattle.mako_shape.specs.declared.numbers.Numbers.{Numbers}
use Rattle.mako_step.specs.Trails.{Observation}
use Rattle.mako_poll.specs.Polls.{FoundZero}
use Rattle.mako_cycles.specs.Phasing.{phase_left}
use Rattle.mako_cycles.specs.Gating.{IsDrained, IsOpen, EachBelow}

-- in the phase Trace of this cycle, after what had to be before it and with the gates as they had to be, a poll of all
-- servers told completion
pub record Told (n : Numbers) (cycle : ℕ) (Before : List Observation → Type 0)
    (Gate : Numbers → ℕ → List Observation → Type 0) (trail : List Observation) : Type 0 where
  pub front : List Observation
  pub poll : List Observation
  pub since : List Observation
  pub before : Before front
  pub traces : phase_left n front ≡ phase_word (Trace cycle)
  pub gates : EachBelow Gate n n.mutators front
  pub polled : FoundZero n n.servers poll
  pub made : trail ≡ front ++ (poll ++ since)

-- once, with the gates open
abbrev pub ToldOpen : Numbers → ℕ → List Observation → Type 0
ToldOpen n cycle trail = Told n cycle (λ _. Unit {0}) IsOpen trail

-- and then again, with the gates shut and drained
abbrev pub ToldTwice : Numbers → ℕ → List Observation → Type 0
ToldTwice n cycle trail = Told n cycle (ToldOpen n cycle) IsDrained trail
