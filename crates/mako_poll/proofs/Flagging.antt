-- What steps on the flags of a server leave.
use Rattle.std.proofs.Common.{◌≡◌, ℕ, ◌<◌, Bool, true, false, ap, sym, subst, ◌∙◌}
use Rattle.std.specs.Prelude.{bit_and, bit_or}
use Rattle.mako_words.specs.declared.flag_word.FlagWord.{FlagWord}
use Rattle.mako_words.specs.Flags.{flag_at, IsFlagWord}
use Rattle.mako_words.specs.Words.{all_but}
use Rattle.mako_words.proofs.FlagWords.{busy_down, ghost_down, changed_down, ghost_changed_up, busy_changed_up}
use Rattle.mako_shape.specs.Places.{Place, flags}
use Rattle.mako_ring.specs.Facets.{flags_of}

pub false_true : (b : Bool) → b ≡ false → b ≡ true → ⊥
false_true b f t = cc

-- the flags of a server are these, and its word has no other bit
pub record Flagged (word : Place → ℕ) (i : ℕ) (f : FlagWord) : Type 0 where
  pub packed : word (flags i) < 8
  pub are : flags_of word i ≡ f

-- a word that is written
flagged : (word : Place → ℕ) (i w : ℕ) (f : FlagWord) → word (flags i) ≡ w → IsFlagWord w f → Flagged word i f
flagged word i w f e is = record { packed = subst (λ (x : ℕ). x < 8) (sym e) is.0; are = ap flag_at e ∙ is.1 }

module _ (word after : Place → ℕ) (i : ℕ) (packed : word (flags i) < 8) where
  pub sends : after (flags i) ≡ bit_or (word (flags i)) 6
      → Flagged after i (record (flags_of word i) { ghost_ = true; changed = true })
  sends e = flagged after i (bit_or (word (flags i)) 6) _ e (ghost_changed_up (word (flags i)) packed)

  pub receives : after (flags i) ≡ bit_or (word (flags i)) 5
      → Flagged after i (record (flags_of word i) { busy = true; changed = true })
  receives e = flagged after i (bit_or (word (flags i)) 5) _ e (busy_changed_up (word (flags i)) packed)

  pub rests : after (flags i) ≡ bit_and (word (flags i)) (all_but 1)
      → Flagged after i (record (flags_of word i) { busy = false })
  rests e = flagged after i (bit_and (word (flags i)) (all_but 1)) _ e (busy_down (word (flags i)) packed)

  pub seen_off : after (flags i) ≡ bit_and (word (flags i)) (all_but 2)
      → Flagged after i (record (flags_of word i) { ghost_ = false })
  seen_off e = flagged after i (bit_and (word (flags i)) (all_but 2)) _ e (ghost_down (word (flags i)) packed)

  pub polled : after (flags i) ≡ bit_and (word (flags i)) (all_but 4)
      → Flagged after i (record (flags_of word i) { changed = false })
  polled e = flagged after i (bit_and (word (flags i)) (all_but 4)) _ e (changed_down (word (flags i)) packed)

  pub left_alone : after (flags i) ≡ word (flags i) → Flagged after i (flags_of word i)
  left_alone e = record { packed = subst (λ (x : ℕ). x < 8) (sym e) packed; are = ap flag_at e }
