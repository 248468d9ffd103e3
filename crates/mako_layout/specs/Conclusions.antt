-- What the invariant says of gates, words and addresses.
use Rattle.std.specs.Prelude.{ℕ, ◌≡◌, ◌≢◌, ◌+◌, ◌<◌, ◌≤◌, ◌⊎◌, List, slice_get, sum_by, Some, ◌==◌, ◌&&◌, if◌then◌else◌}
use Rattle.mako_words.specs.Entries.{entry_at}
use Rattle.mako_shape.specs.declared.numbers.Numbers.{Numbers}
use Rattle.mako_shape.specs.Places.{entry, home, top, leaving, region_word, index}
use Rattle.mako_shape.specs.Belongings.{tablet_of_entry}
use Rattle.mako_gate.specs.Changes.{tablets_of}
use Rattle.mako_gate.specs.Sums.{counted}
use Rattle.mako_gate.specs.Standings.{has_drained, GateFacet, admitted, drained_by, shutter_at, writes}
use Rattle.mako_layout.specs.Sums.{over_tablet}
use Rattle.mako_layout.specs.Layouts.{entries_of, home_words, cycle_words, Slot, Layout, InHome}
use Rattle.mako_layout.specs.Facets.{Work, reads, uses, holds_home, fills, rests_with}
use Rattle.mako_layout.specs.Evacuations.{to_raise, counted_in, IsRecordOf, State, layout, slot_at, IsTaken, top_of}
use Rattle.mako_layout.specs.Evacuations.{Seat, Evacuation}
use Rattle.mako_layout.specs.Beside.{entry_of, IsWriting}
use Rattle.mako_layout.specs.StepParts.{past_of}
use Rattle.mako_words.specs.declared.entry_word.EntryWord.{EntryWord}

-- the address in an entry's word
abbrev pub address_of : State → ℕ → ℕ
address_of s x = (entry_at (s.words (entry x))).address

-- ---- who writes

-- while a server copies a tablet, no view is admitted there
abbrev pub ServersCopyAlone : Type 0
ServersCopyAlone = (n : Numbers) (s : State) → Evacuation n s → (t i j : ℕ) (f g : GateFacet) → t < tablets_of n →
    slice_get s.gates i ≡ Some f → slice_get s.gates j ≡ Some g → 1 ≤ drained_by t f.watch → admitted t g.standing ≡ 0

-- a view that writes records of a tablet holds its turn, or has drained its gate
abbrev pub WritersMayWrite : Type 0
WritersMayWrite = (n : Numbers) (s : State) → Evacuation n s → (i : ℕ) (g : GateFacet) (w : Work) → Seat s i g w →
    IsWriting w → 1 ≤ writes (tablet_of_entry n (entry_of w)) g

-- two views that write records of one tablet are one view
abbrev pub OneWriter : Type 0
OneWriter = (n : Numbers) (s : State) → Evacuation n s → (i j : ℕ) (f g : GateFacet) (v w : Work) →
    Seat s i f v → Seat s j g w → IsWriting v → IsWriting w → entry_of v < entries_of n →
    tablet_of_entry n (entry_of v) ≡ tablet_of_entry n (entry_of w) → i ≡ j

-- ---- addresses in use

-- the place is that of the entry's present address, in the region that the home word names
pub record IsPresent (n : Numbers) (s : State) (x r o : ℕ) : Type 0 where
  pub address : index n (region_word r o) ≡ address_of s x
  pub home : r ≡ s.words (home (tablet_of_entry n x))

-- a view reads and stores at such a place alone
abbrev pub UsedIsPresent : Type 0
UsedIsPresent = (n : Numbers) (s : State) → Evacuation n s → (i x r o : ℕ) (g : GateFacet) →
    Seat s i g (uses x r o) → IsPresent n s x r o

-- a place that a view loaded is such a place, or does not lie in the home
abbrev pub ReadIsPresent : Type 0
ReadIsPresent = (n : Numbers) (s : State) → Evacuation n s → (i x r o : ℕ) (g : GateFacet) →
    Seat s i g (reads x r o) → r ≡ s.words (home (tablet_of_entry n x)) → IsPresent n s x r o

-- while a record is copied, its entry is as it was found
abbrev pub FoundIsPresent : Type 0
FoundIsPresent = (n : Numbers) (s : State) → Evacuation n s → (i x : ℕ) (found : EntryWord) (r o j : ℕ)
    (g : GateFacet) → Seat s i g (fills x found r o j) → entry_at (s.words (entry x)) ≡ found

-- ---- records

-- each taken entry has its record
abbrev pub EachHasItsRecord : Type 0
EachHasItsRecord = (n : Numbers) (s : State) → Evacuation n s → (x : ℕ) → x < entries_of n → IsTaken n s x →
    IsRecordOf n s.words s.heap x (slot_at n s x)

-- records of two entries share no word
abbrev pub RecordsAreApart : Type 0
RecordsAreApart = (n : Numbers) (s : State) → Evacuation n s → (x y : ℕ) → x < entries_of n → y < entries_of n →
    x ≢ y → IsTaken n s x → IsTaken n s y →
    (address_of s x + (slot_at n s x).size ≤ address_of s y)
    ⊎ (address_of s y + (slot_at n s y).size ≤ address_of s x)

-- no tablet leaves a region, and each record lies in its tablet's home
pub record AreHome (n : Numbers) (s : State) : Type 0 where
  pub leavings : (t : ℕ) → t < tablets_of n → s.words (leaving t) ≡ 0
  pub records : (x : ℕ) → x < entries_of n → IsTaken n s x →
      InHome (layout n s) (tablet_of_entry n x) (slot_at n s x)

-- so it is while the collector has chosen nothing
abbrev pub AllAreHomeAtRest : Type 0
AllAreHomeAtRest = (n : Numbers) (s : State) → Evacuation n s → (spare : List ℕ) → s.choice ≡ rests_with spare →
    AreHome n s

-- ---- room

-- a copy that is begun has room
abbrev pub BegunCopiesFit : Type 0
BegunCopiesFit = (n : Numbers) (s : State) → Evacuation n s → (i x : ℕ) (found : EntryWord) (r o j : ℕ)
    (g : GateFacet) → Seat s i g (fills x found r o j) → o + (slot_at n s x).size ≤ n.words

-- the words of a taken record of the cycle that does not lie in the home
abbrev pub part_to_come : ℕ → ℕ → Slot → ℕ
part_to_come c r s = counted (s.taken && (s.epoch == c)) (if s.region == r then 0 else s.size)

-- the records in the home are the words in use, and with those that are to come they have room
pub record LeavingFits (n : Numbers) (l : Layout) (t : ℕ) : Type 0 where
  pub exact : home_words n l t ≡ l.filled t
  pub room : l.filled t + over_tablet n t (λ x. part_to_come l.cycle (l.home t) (l.slot x)) ≤ n.words

-- so it is while a tablet leaves a region
abbrev pub WhatIsLeftFits : Type 0
WhatIsLeftFits = (n : Numbers) (s : State) → Evacuation n s → (t : ℕ) → t < tablets_of n → s.words (leaving t) ≢ 0 →
    LeavingFits n (layout n s) t

-- where a server that passed all entries of a tablet clears its leaving word, the top is the sum of the tablet's
-- records of the cycle
abbrev pub ClearedTopsAreExact : Type 0
ClearedTopsAreExact = (n : Numbers) (s : State) → Evacuation n s → (i t x r : ℕ) →
    Seat s i (shutter_at i (has_drained t (past_of n t))) (holds_home x r) → t < tablets_of n →
    s.words (leaving t) ≢ 0 → s.words (top t) ≡ cycle_words n (layout n s) t

-- the top, with the raise that is to come, is at most the words made, with a record that it counts but no entry has yet
abbrev pub UsedIsMade : Type 0
UsedIsMade = (n : Numbers) (s : State) → Evacuation n s → (t : ℕ) → t < tablets_of n →
    top_of s t + sum_by (to_raise n t) s.works ≤ s.made t + sum_by (counted_in n t) s.works
