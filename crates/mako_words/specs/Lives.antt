-- The words of live counts.
use Rattle.std.specs.Prelude.{ℕ, ◌+◌, ◌*◌, ◌/◌, ◌%◌, ◌<◌, ◌^◌}
use Rattle.mako_words.specs.Words.{IsPackedBy}
use Rattle.mako_words.specs.declared.live_word.LiveWord.{LiveWord}

-- the words from bit 0 on, and the cycle from bit 32 on
abbrev pub live_word : LiveWord → ℕ
live_word l = l.words + l.cycle * 2 ^ 32

-- each number fits its bits
abbrev pub FitsLive : LiveWord → Type 0
FitsLive l = (l.words < 2 ^ 32) × (l.cycle < 2 ^ 20)

-- the live count whose word this is
abbrev pub live_at : ℕ → LiveWord
live_at w = record { cycle = w / 2 ^ 32; words = w % 2 ^ 32 }

-- the word is that of a live count
abbrev pub IsPackedLive : ℕ → Type 0
IsPackedLive w = IsPackedBy FitsLive live_word live_at w
