-- The words of table entries.
use Rattle.std.specs.Prelude.{ℕ, ◌+◌, ◌*◌, ◌/◌, ◌%◌, ◌<◌, ◌^◌, nat_le, if◌then◌else◌}
use Rattle.mako_words.specs.Words.{IsPackedBy}
use Rattle.mako_words.specs.declared.entry_word.EntryWord.{EntryWord}

-- the address from bit 0 on, the epoch from bit 23 on, the generation from bit 43 on, and bit 63 where it is taken
abbrev pub entry_word : EntryWord → ℕ
entry_word e = e.address + e.epoch * 2 ^ 23 + e.generation * 2 ^ 43 + (if e.taken then 2 ^ 63 else 0)

-- each number fits its bits
pub record FitsEntry (e : EntryWord) : Type 0 where
  pub address : e.address < 2 ^ 23
  pub epoch : e.epoch < 2 ^ 20
  pub generation : e.generation < 2 ^ 20

-- the entry whose word this is
abbrev pub entry_at : ℕ → EntryWord
entry_at w = record {
  taken = nat_le (2 ^ 63) w;
  generation = w / 2 ^ 43 % 2 ^ 20;
  epoch = w / 2 ^ 23 % 2 ^ 20;
  address = w % 2 ^ 23;
}

-- the word is that of an entry
abbrev pub IsPackedEntry : ℕ → Type 0
IsPackedEntry w = IsPackedBy FitsEntry entry_word entry_at w
