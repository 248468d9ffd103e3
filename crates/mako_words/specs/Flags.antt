-- The words of servers' flags.
use Rattle.std.specs.Prelude.{ℕ, ◌≡◌, ◌<◌, ◌+◌, ◌/◌, ◌%◌, ◌==◌, if◌then◌else◌}
use Rattle.mako_words.specs.Words.{IsPackedBy}
use Rattle.mako_words.specs.declared.flag_word.FlagWord.{FlagWord}

-- bit 0 where busy, bit 1 where ghost, bit 2 where changed
abbrev pub flag_word : FlagWord → ℕ
flag_word f = (if f.busy then 1 else 0) + (if f.ghost_ then 2 else 0) + (if f.changed then 4 else 0)

-- flags always fit
abbrev pub FitsFlags : FlagWord → Type 0
FitsFlags f = Unit {0}

-- the flags whose word this is
abbrev pub flag_at : ℕ → FlagWord
flag_at w = record { busy = w % 2 == 1; ghost_ = w / 2 % 2 == 1; changed = w / 4 % 2 == 1 }

-- the word is that of flags
abbrev pub IsPackedFlags : ℕ → Type 0
IsPackedFlags w = IsPackedBy FitsFlags flag_word flag_at w

-- the word is that of these flags
abbrev pub IsFlagWord : ℕ → FlagWord → Type 0
IsFlagWord w f = (w < 8) × (flag_at w ≡ f)

-- the step makes of the word of any flags that of the changed flags
abbrev pub IsFlagStep : (ℕ → ℕ) → (FlagWord → FlagWord) → Type 0
IsFlagStep step change = (w : ℕ) → w < 8 → IsFlagWord (step w) (change (flag_at w))
