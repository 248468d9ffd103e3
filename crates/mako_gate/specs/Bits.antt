-- The shut bit of a gate's word.
use Rattle.std.specs.Prelude.{ℕ}
use Rattle.mako_words.specs.declared.gate_word.TheConstants.GateWord.{SHUT}

-- bit 16, above the count
abbrev pub shut_bit : ℕ
shut_bit = SHUT
