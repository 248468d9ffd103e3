-- The phase word and the words of entries after a store.
use Rattle.std.proofs.Common.{◌≡◌, ◌≢◌, ℕ, ◌<◌, List, length, set, sym, ap, ◌∙◌, arith}
use Rattle.mako_words.specs.declared.entry_word.EntryWord.{EntryWord}
use Rattle.mako_words.specs.declared.phase_word.PhaseWord.{PhaseWord}
use Rattle.mako_words.specs.Entries.{entry_word, entry_at, FitsEntry}
use Rattle.mako_words.specs.Phases.{phase_word, phase_at, FitsPhase}
use Rattle.mako_words.proofs.EntryWords.{entry_at-entry_word}
use Rattle.mako_words.proofs.PhaseWords.{phase_words}
use Rattle.mako_shape.specs.declared.numbers.Numbers.{Numbers}
use Rattle.mako_shape.specs.Limits.{all_entries}
use Rattle.mako_shape.specs.Places.{Place, phase, entry, area_of, offset, index, total, Within, word_at}
use Rattle.mako_shape.proofs.PlaceLaws.{word_same, word_other}
use Rattle.mako_names.specs.Tables.{entry_of, phase_of, SameTable}

pub entry_same : (n : Numbers) (ws us : List ℕ) (x : ℕ) → word_at n us (entry x) ≡ word_at n ws (entry x)
    → entry_of n us x ≡ entry_of n ws x
unfolding entry_of
entry_same n ws us x e = ap entry_at e

pub phase_same : (n : Numbers) (ws us : List ℕ) → word_at n us phase ≡ word_at n ws phase
    → phase_of n us ≡ phase_of n ws
unfolding phase_of
phase_same n ws us e = ap phase_at e

-- an entry that was stored is read
pub entry_stored : (n : Numbers) (ws : List ℕ) (x : ℕ) (e : EntryWord) → length ws ≡ total n → x < all_entries n
    → FitsEntry e → entry_of n (set ws (index n (entry x)) (entry_word e)) x ≡ e
unfolding entry_of
entry_stored n ws x e size within fits =
    ap entry_at (word_same n ws (entry x) (entry_word e) size within) ∙ entry_at-entry_word e fits

-- and the others are as before
pub entry_else : (n : Numbers) (ws : List ℕ) (x y : ℕ) (v : ℕ) → x < all_entries n → y < all_entries n → y ≢ x
    → entry_of n (set ws (index n (entry x)) v) y ≡ entry_of n ws y
entry_else n ws x y v within inside other =
    entry_same n ws (set ws (index n (entry x)) v) y
    (word_other n ws (entry x) (entry y) v within inside (λ e. other (ap (offset n) e)))

pub phase_else : (n : Numbers) (ws : List ℕ) (x : ℕ) (v : ℕ) → x < all_entries n
    → phase_of n (set ws (index n (entry x)) v) ≡ phase_of n ws
phase_else n ws x v within =
    phase_same n ws (set ws (index n (entry x)) v)
    (word_other n ws (entry x) phase v within tt (λ e. let f : 0 ≡ 16 = ap area_of e in absurd (omega arith)))

-- a phase that was stored is read
pub phase_stored : (n : Numbers) (ws : List ℕ) (p : PhaseWord) → length ws ≡ total n → FitsPhase p
    → phase_of n (set ws (index n phase) (phase_word p)) ≡ p
unfolding phase_of
phase_stored n ws p size fits = ap phase_at (word_same n ws phase (phase_word p) size tt) ∙ phase_words.inverse p fits

pub entries_else : (n : Numbers) (ws : List ℕ) (x v : ℕ) → x < all_entries n
    → entry_of n (set ws (index n phase) v) x ≡ entry_of n ws x
entries_else n ws x v within =
    entry_same n ws (set ws (index n phase) v) x
    (word_other n ws phase (entry x) v tt within (λ e. let f : 16 ≡ 0 = ap area_of e in absurd (omega arith)))

-- a store at a place that is neither the phase nor an entry leaves the table as it is
pub table_frame : (n : Numbers) (ws : List ℕ) (p : Place) (v : ℕ) → Within n p → area_of p ≢ 0 → area_of p ≢ 16
    → SameTable n ws (set ws (index n p) v)
table_frame n ws p v within not_phase not_entry = record {
  phase = word_other n ws p phase v within tt (λ e. not_phase (sym (ap area_of e)));
  entries = λ x inside. word_other n ws p (entry x) v within inside (λ e. not_entry (sym (ap area_of e)));
}
