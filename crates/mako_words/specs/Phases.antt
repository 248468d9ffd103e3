-- The words of phases.
use Rattle.std.specs.Prelude.{ℕ, ◌+◌, ◌-◌, ◌*◌, ◌<◌, ◌^◌, nat_lt, if◌then◌else◌}
use Rattle.mako_words.specs.Words.{IsPackedBy}
use Rattle.mako_words.specs.declared.phase_word.PhaseWord.{PhaseWord}
use Rattle.mako_words.specs.declared.phase_word.PhaseWord.TheVariants.{Idle, Trace, Evac, Stop}

-- the cycle from bit 0 on, and the kind from bit 32 on
abbrev pub phase_word : PhaseWord → ℕ
phase_word (Idle c) = c
phase_word (Trace c) = c + 2 ^ 32
phase_word (Evac c) = c + 2 * 2 ^ 32
phase_word (Stop c) = c + 3 * 2 ^ 32

-- the cycle of a phase
abbrev pub cycle_of : PhaseWord → ℕ
cycle_of (Idle c) = c
cycle_of (Trace c) = c
cycle_of (Evac c) = c
cycle_of (Stop c) = c

-- the cycle fits its bits
abbrev pub FitsPhase : PhaseWord → Type 0
FitsPhase p = cycle_of p < 2 ^ 20

-- the phase whose word this is
abbrev pub phase_at : ℕ → PhaseWord
phase_at w =
    if nat_lt w (2 ^ 32) then Idle w
    else (if nat_lt w (2 * 2 ^ 32) then Trace (w - 2 ^ 32)
    else (if nat_lt w (3 * 2 ^ 32) then Evac (w - 2 * 2 ^ 32) else Stop (w - 3 * 2 ^ 32)))

-- the word is that of a phase
abbrev pub IsPackedPhase : ℕ → Type 0
IsPackedPhase w = IsPackedBy FitsPhase phase_word phase_at w
