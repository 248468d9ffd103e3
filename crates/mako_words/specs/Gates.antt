-- The words of gates.
use Rattle.std.specs.Prelude.{ℕ, Bool, ◌≡◌, ◌+◌, ◌%◌, ◌<◌, ◌^◌, nat_le, if◌then◌else◌}
use Rattle.mako_words.specs.Words.{IsPackedBy}
use Rattle.mako_words.specs.declared.gate_word.GateWord.{GateWord}

-- the count from bit 0 on, and bit 16 where the gate is shut
abbrev pub gate_word : GateWord → ℕ
gate_word g = g.count + (if g.shut then 2 ^ 16 else 0)

-- the count fits its bits
abbrev pub FitsGate : GateWord → Type 0
FitsGate g = g.count < 2 ^ 16

-- the count of a gate's word
abbrev pub count_of : ℕ → ℕ
count_of w = w % 2 ^ 16

-- whether a gate's word has the shut bit
abbrev pub is_shut : ℕ → Bool
is_shut w = nat_le (2 ^ 16) w

-- the gate whose word this is
abbrev pub gate_at : ℕ → GateWord
gate_at w = record { count = count_of w; shut = is_shut w }

-- the word is that of a gate
abbrev pub IsPackedGate : ℕ → Type 0
IsPackedGate w = IsPackedBy FitsGate gate_word gate_at w

-- the word is that of this gate
abbrev pub IsGateWord : ℕ → GateWord → Type 0
IsGateWord w g = (w < 2 ^ 17) × (gate_at w ≡ g)
