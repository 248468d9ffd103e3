-- The kinds of change of a layout.
use Rattle.std.specs.Prelude.{ℕ, true, false, ◌≡◌, ◌≢◌, ◌+◌, ◌<◌, ◌≤◌, ◌==◌, ◌⊎◌}
use Rattle.mako_shape.specs.declared.numbers.Numbers.{Numbers}
use Rattle.mako_shape.specs.Belongings.{tablet_of_entry, server_of_tablet, server_of_region}
use Rattle.mako_gate.specs.Changes.{tablets_of}
use Rattle.mako_gate.specs.Sums.{counted}
use Rattle.mako_layout.specs.Layouts.{Slot, Layout, entries_of, regions_of, gifts_at}

-- The entry's record of the cycle comes to stand at the end of its tablet's home, by a copy or as a new one. s, f and d
-- are the slots, the words in use and the words made after it.
pub record Puts (n : Numbers) (l : Layout) (s : ℕ → Slot) (f d : ℕ → ℕ) (x : ℕ) : Type 0 where
  pub inside : x < entries_of n
  pub taken : (s x).taken ≡ true
  pub epoch : (s x).epoch ≡ l.cycle
  pub region : (s x).region ≡ l.home (tablet_of_entry n x)
  pub offset : (s x).offset ≡ l.filled (tablet_of_entry n x)
  pub fits : l.filled (tablet_of_entry n x) + (s x).size ≤ n.words
  -- it was not in the home before
  pub out : (l.slot x).taken ≡ true → (l.slot x).region ≢ l.home (tablet_of_entry n x)
  -- where the tablet leaves a region, it was a record of the cycle of as many words before
  pub was : l.leaving (tablet_of_entry n x) ≢ 0 →
      ((l.slot x).taken ≡ true) × ((l.slot x).epoch ≡ l.cycle) × ((l.slot x).size ≡ (s x).size)
  -- it is a new one, made now, or a copy in a tablet that leaves a region
  pub origin : (((l.slot x).taken ≡ false) × (l.made (tablet_of_entry n x) + (s x).size ≤ d (tablet_of_entry n x)))
      ⊎ (((l.slot x).taken ≡ true) × ((l.slot x).size ≡ (s x).size) × (l.leaving (tablet_of_entry n x) ≢ 0))
  pub made : (u : ℕ) → u < tablets_of n → l.made u ≤ d u
  pub others : (y : ℕ) → y < entries_of n → y ≢ x → s y ≡ l.slot y
  pub raised : f (tablet_of_entry n x) ≡ l.filled (tablet_of_entry n x) + (s x).size
  pub filled : (u : ℕ) → u < tablets_of n → u ≢ tablet_of_entry n x → f u ≡ l.filled u

-- a record stays in its place in the home, and may get another epoch
pub record StaysInHome (l : Layout) (t : ℕ) (before after : Slot) : Type 0 where
  pub taken : before.taken ≡ true
  pub region : after.region ≡ before.region
  pub offset : after.offset ≡ before.offset
  pub size : after.size ≡ before.size
  pub home : before.region ≡ l.home t

-- the entry is freed, or gets another epoch, in a tablet that leaves no region
pub record Alters (n : Numbers) (l : Layout) (s : ℕ → Slot) (x : ℕ) : Type 0 where
  pub inside : x < entries_of n
  pub stays : l.leaving (tablet_of_entry n x) ≡ 0
  pub same : (s x).taken ≡ true → StaysInHome l (tablet_of_entry n x) (l.slot x) (s x)
  pub others : (y : ℕ) → y < entries_of n → y ≢ x → s y ≡ l.slot y

-- m is the layout after the tablet gave up its home for the spare region r
pub record Chooses (n : Numbers) (l m : Layout) (t r : ℕ) : Type 0 where
  pub inside : t < tablets_of n
  pub region : r < regions_of n
  pub own : server_of_region n r ≡ server_of_tablet n t
  pub settled : l.given t ≡ 0
  pub spare : 1 ≤ l.spare r
  pub cycle : m.cycle ≡ l.cycle
  pub slots : (x : ℕ) → x < entries_of n → m.slot x ≡ l.slot x
  pub home : m.home t ≡ r
  pub filled : m.filled t ≡ 0
  pub leaving : m.leaving t ≡ l.home t + 1
  pub given : m.given t ≡ l.home t + 1
  pub homes : (u : ℕ) → u < tablets_of n → u ≢ t → m.home u ≡ l.home u
  pub filleds : (u : ℕ) → u < tablets_of n → u ≢ t → m.filled u ≡ l.filled u
  pub leavings : (u : ℕ) → u < tablets_of n → u ≢ t → m.leaving u ≡ l.leaving u
  pub givens : (u : ℕ) → u < tablets_of n → u ≢ t → m.given u ≡ l.given u
  pub spares : (q : ℕ) → q < regions_of n → m.spare q + counted (r == q) 1 ≡ l.spare q
  pub mades : (u : ℕ) → u < tablets_of n → m.made u ≡ l.made u

-- the tablet's records of the cycle lie in its home
abbrev pub IsMoved : Numbers → Layout → ℕ → Type 0
IsMoved n l t = (x : ℕ) → x < entries_of n → tablet_of_entry n x ≡ t →
    (l.slot x).taken ≡ true → (l.slot x).epoch ≡ l.cycle → (l.slot x).region ≡ l.home t

-- the tablet leaves its region for good; v are the leaving words after it
pub record Clears (n : Numbers) (l : Layout) (v : ℕ → ℕ) (t : ℕ) : Type 0 where
  pub inside : t < tablets_of n
  pub left : l.leaving t ≢ 0
  pub moved : IsMoved n l t
  pub cleared : v t ≡ 0
  pub others : (u : ℕ) → u < tablets_of n → u ≢ t → v u ≡ l.leaving u

-- The cycle ends: no region is left, all taken records are of the cycle, and the regions given up become spare. g and p
-- are the regions given up and the spare ones after it.
pub record Finishes (n : Numbers) (l : Layout) (g p : ℕ → ℕ) : Type 0 where
  pub left : (t : ℕ) → t < tablets_of n → l.leaving t ≡ 0
  pub moved : (x : ℕ) → x < entries_of n → (l.slot x).taken ≡ true → (l.slot x).epoch ≡ l.cycle
  pub none : (t : ℕ) → t < tablets_of n → g t ≡ 0
  pub spares : (r : ℕ) → r < regions_of n → p r ≡ l.spare r + gifts_at n l r

-- the layouts are the same in range
pub record AreSame (n : Numbers) (l m : Layout) : Type 0 where
  pub cycle : m.cycle ≡ l.cycle
  pub slots : (x : ℕ) → x < entries_of n → m.slot x ≡ l.slot x
  pub homes : (u : ℕ) → u < tablets_of n → m.home u ≡ l.home u
  pub filleds : (u : ℕ) → u < tablets_of n → m.filled u ≡ l.filled u
  pub leavings : (u : ℕ) → u < tablets_of n → m.leaving u ≡ l.leaving u
  pub givens : (u : ℕ) → u < tablets_of n → m.given u ≡ l.given u
  pub spares : (q : ℕ) → q < regions_of n → m.spare q ≡ l.spare q
  pub mades : (u : ℕ) → u < tablets_of n → m.made u ≡ l.made u
