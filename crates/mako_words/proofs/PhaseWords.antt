-- The words of phases.
use Rattle.std.proofs.Common.{◌≡◌, ℕ, ◌+◌, ◌-◌, ◌*◌, ◌%◌, ◌^◌, ◌<◌, ◌↔◌, inl, inr, ap, subst, refl, arith}
use Rattle.std.proofs.lemmas.Bool.{cases_lt, lt-ltb, le-ltb}
use Rattle.mako_words.specs.declared.phase_word.PhaseWord.{PhaseWord}
use Rattle.mako_words.specs.declared.phase_word.PhaseWord.TheVariants.{Idle, Trace, Evac, Stop}
use Rattle.mako_words.specs.Phases.{phase_word, FitsPhase, phase_at, IsPackedPhase}
use Rattle.mako_words.specs.Words.{IsPacking}
use Rattle.mako_words.proofs.Unpacking as unpacking

-- the word of a phase gives the phase back
pub phase_at-phase_word : (p : PhaseWord) → FitsPhase p → phase_at (phase_word p) ≡ p
phase_at-phase_word (Idle c) fits = rw (lt-ltb c (2 ^ 32) (omega arith)) refl
phase_at-phase_word (Trace c) fits =
    rw (le-ltb (c + 2 ^ 32) (2 ^ 32) (omega arith), lt-ltb (c + 2 ^ 32) (2 * 2 ^ 32) (omega arith))
    (ap (λ (y : ℕ). Trace y) (omega arith))
phase_at-phase_word (Evac c) fits =
    rw (
      le-ltb (c + 2 * 2 ^ 32) (2 ^ 32) (omega arith),
      le-ltb (c + 2 * 2 ^ 32) (2 * 2 ^ 32) (omega arith),
      lt-ltb
          (c + 2 * 2 ^ 32) (3 * 2 ^ 32) (omega arith),
    ) (ap (λ (y : ℕ). Evac y) (omega arith))
phase_at-phase_word (Stop c) fits =
    rw (
      le-ltb (c + 3 * 2 ^ 32) (2 ^ 32) (omega arith),
      le-ltb (c + 3 * 2 ^ 32) (2 * 2 ^ 32) (omega arith),
      le-ltb
          (c + 3 * 2 ^ 32) (3 * 2 ^ 32) (omega arith),
    ) (ap (λ (y : ℕ). Stop y) (omega arith))

phase_word-lt : (p : PhaseWord) → FitsPhase p → phase_word p < 2 ^ 64
phase_word-lt (Idle c) fits = omega arith
phase_word-lt (Trace c) fits = omega arith
phase_word-lt (Evac c) fits = omega arith
phase_word-lt (Stop c) fits = omega arith

-- packing phases loses nothing
pub phase_words : IsPacking FitsPhase phase_word phase_at
phase_words = unpacking.packing FitsPhase phase_word phase_at phase_at-phase_word phase_word-lt

-- the packed forms have a cycle below bit 20 and one of four kinds
pub phase_forms : (w : ℕ) → IsPackedPhase w ↔ ((w < 2 ^ 34) × (w % 2 ^ 32 < 2 ^ 20))
phase_forms w = (λ p. subst InForm p.same (form (phase_at w) p.fits), λ h. packed h.0 h.1)
  where
    InForm : ℕ → Type 0
    InForm y = (y < 2 ^ 34) × (y % 2 ^ 32 < 2 ^ 20)

    form : (p : PhaseWord) → FitsPhase p → (phase_word p < 2 ^ 34) × (phase_word p % 2 ^ 32 < 2 ^ 20)
    form (Idle c) fits = (omega arith, omega arith)
    form (Trace c) fits = (omega arith, omega arith)
    form (Evac c) fits = (omega arith, omega arith)
    form (Stop c) fits = (omega arith, omega arith)

    by_phase : (p : PhaseWord) → FitsPhase p → phase_word p ≡ w → IsPackedPhase w
    by_phase p fits e = subst IsPackedPhase e (phase_words.packed p fits)

    packed : w < 2 ^ 34 → w % 2 ^ 32 < 2 ^ 20 → IsPackedPhase w
    packed within cycle = elim (cases_lt w (2 ^ 32)) [
      | inl idle ↦ by_phase (Idle w) (omega arith) refl
      | inr later ↦ elim (cases_lt w (2 * 2 ^ 32)) [
        | inl trace ↦ by_phase (Trace (w - 2 ^ 32)) (omega arith) (omega arith)
        | inr last ↦ elim (cases_lt w (3 * 2 ^ 32)) [
          | inl evac ↦ by_phase (Evac (w - 2 * 2 ^ 32)) (omega arith) (omega arith)
          | inr stop ↦ by_phase (Stop (w - 3 * 2 ^ 32)) (omega arith) (omega arith)
        ]
      ]
    ]
