-- How much of a source a call took, where the source tells its bytes.
use Rattle.std.specs.Prelude.{ℕ, ◌<◌, ◌≤◌, List, length}
use Rattle.std.specs.declared.option.Option.{Option}
use Rattle.std.specs.Io.KnownBytes.{Consumes}

-- more than so many bytes were taken from the front
abbrev pub TakesMore : ℕ → Option (List ℕ) → Option (List ℕ) → Type 0
TakesMore limit before after = (bytes : List ℕ) × (limit < length bytes) × Consumes before after bytes

-- at most so many bytes were taken from the front
abbrev pub TakesAtMost : ℕ → Option (List ℕ) → Option (List ℕ) → Type 0
TakesAtMost limit before after = (bytes : List ℕ) × (length bytes ≤ limit) × Consumes before after bytes
