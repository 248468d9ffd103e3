-- What a step of another seat leaves to a view: the layout goes from l to m, and the words from W to V, as the view's
-- work on the entry x reads them.
use Rattle.std.specs.Prelude.{ℕ, true, ◌≡◌, ◌≢◌, ◌<◌, ◌≤◌}
use Rattle.mako_shape.specs.declared.numbers.Numbers.{Numbers}
use Rattle.mako_shape.specs.Places.{Place, top, region_word}
use Rattle.mako_shape.specs.Belongings.{tablet_of_entry}
use Rattle.mako_gate.specs.Standings.{GateFacet, writes}
use Rattle.mako_layout.specs.Layouts.{Layout, Holds}
use Rattle.mako_layout.specs.Facets.{Work, idle, reads, uses, holds_home, moves, asks, tops, finds, fills, carries}
use Rattle.mako_layout.specs.Facets.{raises, makes, counts}

-- the entry that the work is about
abbrev pub entry_of : Work → ℕ
entry_of idle = 0
entry_of (reads x r o) = x
entry_of (uses x r o) = x
entry_of (holds_home x r) = x
entry_of (moves x found r) = x
entry_of (fills x found r o j) = x
entry_of (carries x found r o j v) = x
entry_of (raises x r o z) = x
entry_of (asks x) = x
entry_of (tops x o z) = x
entry_of (finds name o z) = name.entry
entry_of (makes name r o z j) = name.entry
entry_of (counts name r o z) = name.entry

-- the view reads or stores through the entry's address
abbrev pub IsReading : Work → Type 0
IsReading (reads x r o) = Unit {0}
IsReading (uses x r o) = Unit {0}
IsReading w = ⊥

-- the view may write records of the entry's tablet
abbrev pub IsWriting : Work → Type 0
IsWriting idle = ⊥
IsWriting (reads x r o) = ⊥
IsWriting (uses x r o) = ⊥
IsWriting (holds_home x r) = ⊥
IsWriting w = Unit {0}

-- the work rests on what the entry is
abbrev pub MindsEntry : Work → Type 0
MindsEntry idle = ⊥
MindsEntry (reads x r o) = ⊥
MindsEntry (uses x r o) = ⊥
MindsEntry (holds_home x r) = ⊥
MindsEntry (asks x) = ⊥
MindsEntry (tops x o z) = ⊥
MindsEntry w = Unit {0}

-- to a writer of tablet t: the words in use, the top, the words behind those in use, and a record outside of the home
pub record Quiet (n : Numbers) (l m : Layout) (W V : Place → ℕ) (x t : ℕ) : Type 0 where
  pub filled : m.filled t ≡ l.filled t
  pub leaving : m.leaving t ≡ l.leaving t
  pub top : V (top t) ≡ W (top t)
  pub ahead : (w : ℕ) → l.filled t ≤ w → w < n.words →
      V (region_word (l.home t) w) ≡ W (region_word (l.home t) w)
  pub behind : (r w : ℕ) → Holds (l.slot x) r w → r ≢ l.home t → V (region_word r w) ≡ W (region_word r w)

-- to this work
pub record BesideWork (n : Numbers) (l m : Layout) (W V : Place → ℕ) (v : Work) (x : ℕ) : Type 0 where
  pub cycle : IsWriting v → m.cycle ≡ l.cycle
  pub home : m.home (tablet_of_entry n x) ≡ l.home (tablet_of_entry n x)
  -- to who reads, a taken record in the home stays there
  pub taken : IsReading v → (l.slot x).taken ≡ true → (m.slot x).taken ≡ true
  pub region : IsReading v → (l.slot x).taken ≡ true → (l.slot x).region ≡ l.home (tablet_of_entry n x) →
      (m.slot x).region ≡ (l.slot x).region
  pub offset : IsReading v → (l.slot x).taken ≡ true → (l.slot x).region ≡ l.home (tablet_of_entry n x) →
      (m.slot x).offset ≡ (l.slot x).offset
  pub writer : IsWriting v → Quiet n l m W V x (tablet_of_entry n x)
  pub slot : MindsEntry v → m.slot x ≡ l.slot x

-- to a writer, with the entry as it was
pub record Untouched (n : Numbers) (l m : Layout) (W V : Place → ℕ) (x t : ℕ) : Type 0 where
  pub quiet : Quiet n l m W V x t
  pub slot : m.slot x ≡ l.slot x

-- to any work of a view in this place at the gates
pub record Beside (n : Numbers) (l m : Layout) (W V : Place → ℕ) (g : GateFacet) (x : ℕ) : Type 0 where
  pub cycle : m.cycle ≡ l.cycle
  pub home : m.home (tablet_of_entry n x) ≡ l.home (tablet_of_entry n x)
  pub taken : (l.slot x).taken ≡ true → (m.slot x).taken ≡ true
  pub region : (l.slot x).taken ≡ true → (l.slot x).region ≡ l.home (tablet_of_entry n x) →
      (m.slot x).region ≡ (l.slot x).region
  pub offset : (l.slot x).taken ≡ true → (l.slot x).region ≡ l.home (tablet_of_entry n x) →
      (m.slot x).offset ≡ (l.slot x).offset
  pub writer : 1 ≤ writes (tablet_of_entry n x) g → Untouched n l m W V x (tablet_of_entry n x)
