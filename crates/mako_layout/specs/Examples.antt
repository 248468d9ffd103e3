-- Worked examples: a mutator comes to use the board's record; a server copies it to a new home; and wrong layouts.
use Rattle.std.specs.Prelude.{ℕ, true, false, ◌≡◌, ◌==◌, if◌then◌else◌, [], ◌∷◌}
use Rattle.std.proofs.Common.{zero, suc}
use Rattle.mako_shape.specs.declared.numbers.Numbers.{Numbers}
use Rattle.mako_shape.specs.Places.{Place, mutator_gate, tablet_gate}
use Rattle.mako_model.specs.Heaps.{opening}
use Rattle.mako_gate.specs.Standings.{Standing, at_tablet, has_drained, mutator_at, shutter_at, away}
use Rattle.mako_layout.specs.Layouts.{Slot, Layout, cycle_words, OneCopy}
use Rattle.mako_layout.specs.Changes.{Puts, Clears}
use Rattle.mako_layout.specs.Facets.{Work, idle, uses, rests_with}
use Rattle.mako_layout.specs.Evacuations.{State, slot_at, Seat}
use Rattle.mako_layout.specs.Openings.{opening_words}
use Rattle.mako_layout.specs.Runs.{Reaches}
use Rattle.mako_gate.specs.Examples.{one}

-- one of everything, but two entries
abbrev pub small : Numbers
small = record one { entries = 2 }

-- ---- a mutator uses the board's record

-- the opening's words, where the board has one field, with these words of gates
abbrev pub with_gates : (own tablet : ℕ) → Place → ℕ
with_gates own tablet (mutator_gate m) = own
with_gates own tablet (tablet_gate t) = tablet
with_gates own tablet p = opening_words small 1 p

-- the mutator stands so, and has this in hand; server and collector rest
abbrev pub with_mutator : (own tablet : ℕ) → Standing → Work → State
with_mutator own tablet standing work = record {
  words = with_gates own tablet;
  heap = opening 1 1 1 1;
  gates = mutator_at 0 standing ∷ mutator_at 1 away ∷ mutator_at 2 away ∷ [];
  works = work ∷ idle ∷ idle ∷ [];
  choice = rests_with (1 ∷ []);
  made = λ t. if t == 0 then 2 else 0;
}

-- the slot of the board's entry, which is of this cycle, with the record of two words in this region
abbrev pub board_in : (cycle region : ℕ) → Slot
board_in cycle region =
    record { taken = true; generation = 0; epoch = cycle; region = region; offset = 0; size = 2 }

pub record WorkedUse : Type 0 where
  -- at the opening the board's record stands at the beginning of region 0
  pub board : slot_at small (with_mutator 0 0 away idle) 0 ≡ board_in 0 0
  -- a mutator that is admitted at its own gate and at the tablet's comes to use it
  pub used : Reaches small 1 (with_mutator 1 1 (at_tablet 0) (uses 0 0 0))
  -- no run leads to a mutator there while the server has drained the tablet
  pub never : (s : State) (b : ℕ) (v w : Work) → Reaches small 1 s → Seat s 0 (mutator_at 0 (at_tablet 0)) v →
      Seat s 1 (shutter_at 1 (has_drained 0 b)) w → ⊥

-- ---- a copy

-- beside the board's entry there are free ones
abbrev pub slots_with : Slot → ℕ → Slot
slots_with board zero = board
slots_with board (suc x) = record { taken = false; generation = 0; epoch = 0; region = 0; offset = 0; size = 1 }

-- the tablet gave up region 0 for region 1, and the board's record is still to be copied
abbrev pub before_copy : Layout
before_copy = record {
  cycle = 1;
  slot = slots_with (board_in 1 0);
  home = λ t. 1;
  filled = λ t. 0;
  leaving = λ t. 1;
  given = λ t. 1;
  spare = λ r. 0;
  made = λ t. 2;
}

-- the copy stands in region 1, and the words in use are its own
abbrev pub after_copy : Layout
after_copy = record before_copy { slot = slots_with (board_in 1 1); filled = λ t. 2 }

-- and the tablet leaves no region any more
abbrev pub after_clearing : Layout
after_clearing = record after_copy { leaving = λ t. 0 }

pub record WorkedCopy : Type 0 where
  pub before : OneCopy small before_copy
  pub copy : Puts small before_copy (slots_with (board_in 1 1)) (λ t. 2) (λ t. 2) 0
  pub after : OneCopy small after_copy
  pub exact : after_copy.filled 0 ≡ cycle_words small after_copy 0
  pub clearing : Clears small after_copy (λ t. 0) 0
  pub cleared : OneCopy small after_clearing

-- ---- wrong layouts

pub record WrongLayouts : Type 0 where
  -- the tablet leaves its region for good while the record is still there
  pub cleared_too_soon : OneCopy small (record before_copy { leaving = λ t. 0 }) → ⊥
  -- the words in use do not count the copy
  pub not_counted : OneCopy small (record after_copy { filled = λ t. 0 }) → ⊥
  -- the region that the tablet leaves is spare already
  pub spare_too_soon : OneCopy small (record before_copy { spare = λ r. if r == 0 then 1 else 0 }) → ⊥
  -- the record is copied over its own words, in the region that the tablet leaves
  pub not_moved : Puts small before_copy (slots_with (board_in 1 0)) (λ t. 2) (λ t. 2) 0 → ⊥
  -- two entries have one record
  pub shared : OneCopy small (record after_copy { slot = λ x. board_in 1 1 }) → ⊥
