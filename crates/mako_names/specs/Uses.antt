-- Names that may be used, and where names stand that are still to be used.
use Rattle.std.specs.Prelude.{◌≡◌, ℕ, List, slice_get, Some}
use Rattle.std.specs.List.{Contains}
use Rattle.mako_words.specs.declared.name.Name.{Name}
use Rattle.mako_words.specs.Names.{name_word, FitsName}
use Rattle.mako_shape.specs.declared.numbers.Numbers.{Numbers}
use Rattle.mako_shape.specs.Places.{Place, phase, entry, barrier, work, ghost, Within, word_at}
use Rattle.mako_model.specs.declared.point.Point.{Point}
use Rattle.mako_model.specs.Legal.{Facts, state_of}
use Rattle.mako_model.specs.Dead.{names_made, IsDead}

-- a name that was made and is not dead at the last snapshot, so that it may be used
pub record IsGood (w : Facts) (history : List Point) (name : Name) : Type 0 where
  pub made : Contains (names_made history) name
  pub kept : ¬ IsDead w history (state_of w history).snaps name

-- A slot whose names somebody has still to use. (The names in roots and fields are good by a law of histories, and
-- need no clause. Those of notices may be freed.)
abbrev pub IsUseSlot : Place → Type 0
IsUseSlot (barrier m slot) = Unit {0}
IsUseSlot (work s slot) = Unit {0}
IsUseSlot (ghost sender receiver slot) = Unit {0}
IsUseSlot p = ⊥

-- each name in such a slot is good, and so is each that a seat has still to use; these are listed by seat
pub record UsesStand (n : Numbers) (ws : List ℕ) (w : Facts) (history : List Point)
    (seats : List (List Name)) : Type 0 where
  pub slots : (p : Place) (name : Name) → Within n p → IsUseSlot p → FitsName name → word_at n ws p ≡ name_word name
      → IsGood w history name
  pub held : (seat : ℕ) (names : List Name) (name : Name) → slice_get seats seat ≡ Some names → Contains names name
      → IsGood w history name

-- a place of which anything is said here: the phase, an entry, or such a slot
abbrev pub IsNamePlace : Place → Type 0
IsNamePlace phase = Unit {0}
IsNamePlace (entry x) = Unit {0}
IsNamePlace p = IsUseSlot p

-- the slots are as they were
abbrev pub SameSlots : Numbers → List ℕ → List ℕ → Type 0
SameSlots n ws us = (p : Place) → Within n p → IsUseSlot p → word_at n us p ≡ word_at n ws p
