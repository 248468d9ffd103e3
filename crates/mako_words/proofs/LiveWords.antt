-- The words of live counts.
use Rattle.std.proofs.Common.{◌≡◌, ℕ, ◌+◌, ◌*◌, ◌/◌, ◌%◌, ◌^◌, ◌<◌, ◌↔◌, arith}
use Rattle.mako_words.specs.declared.live_word.LiveWord.{LiveWord}
use Rattle.mako_words.specs.Lives.{live_word, FitsLive, live_at, IsPackedLive}
use Rattle.mako_words.specs.Words.{IsPacking}
use Rattle.mako_words.proofs.Unpacking as unpacking

-- the word of a live count gives the count back
pub live_at-live_word : (l : LiveWord) → FitsLive l → live_at (live_word l) ≡ l
live_at-live_word l fits = fields l.cycle l.words fits.0
  where
    fields : (c n : ℕ) → n < 2 ^ 32
        → live_at (live_word (record { cycle = c; words = n })) ≡ record { cycle = c; words = n }
    fields c n small =
        let a : (n + c * 2 ^ 32) / 2 ^ 32 ≡ c = omega arith in
        let b : (n + c * 2 ^ 32) % 2 ^ 32 ≡ n = omega arith in
        λ i. record { cycle = a i; words = b i }

live_word-lt : (l : LiveWord) → FitsLive l → live_word l < 2 ^ 64
live_word-lt l fits = omega (arith, fits.0, fits.1)

-- packing live counts loses nothing
pub live_words : IsPacking FitsLive live_word live_at
live_words = unpacking.packing FitsLive live_word live_at live_at-live_word live_word-lt

-- the packed forms are the words below bit 52
pub live_forms : (w : ℕ) → IsPackedLive w ↔ (w < 2 ^ 52)
live_forms w = (
  λ p. omega (arith, p.fits.0, p.fits.1, p.same),
  λ h. record {
    fits = (omega arith, omega arith);
    same = omega arith;
  },
)
