-- What a view finds in the words that it loads, so that its machine can go on with them.
use Rattle.std.specs.Prelude.{ℕ, ◌≡◌, ◌+◌, ◌<◌, ◌≤◌, List, length, slice_get, Some}
use Rattle.mako_words.specs.declared.value.Value.{Value}
use Rattle.mako_words.specs.Values.{value_word}
use Rattle.mako_words.specs.Entries.{entry_at}
use Rattle.mako_words.specs.Gates.{IsPackedGate}
use Rattle.mako_shape.specs.declared.numbers.Numbers.{Numbers}
use Rattle.mako_shape.specs.Places.{mutator_gate, tablet_gate, home, top, entry, region_word, total}
use Rattle.mako_shape.specs.Belongings.{IsAddress}
use Rattle.mako_model.specs.Heaps.{fields_of}
use Rattle.mako_gate.specs.Changes.{tablets_of}
use Rattle.mako_gate.specs.Standings.{GateFacet, writes}
use Rattle.mako_layout.specs.Layouts.{entries_of, regions_of}
use Rattle.mako_layout.specs.Facets.{Work, stands}
use Rattle.mako_layout.specs.Evacuations.{name_of, State, slot_at, IsTaken, Seat, Evacuation}
use Rattle.mako_layout.specs.StepParts.{OwesNothing}

-- the word of each gate is that of a gate
pub record GatesArePacked (n : Numbers) (s : State) : Type 0 where
  pub tablets : (t : ℕ) → t < tablets_of n → IsPackedGate (s.words (tablet_gate t))
  pub owns : (m : ℕ) → m < n.mutators → IsPackedGate (s.words (mutator_gate m))

abbrev pub GatesAreFound : Type 0
GatesAreFound = (n : Numbers) (s : State) → Evacuation n s → GatesArePacked n s

-- a view that is admitted at a tablet, or has drained it, finds a region for its home
abbrev pub HomesAreFound : Type 0
HomesAreFound = (n : Numbers) (s : State) → Evacuation n s → (i t : ℕ) (g : GateFacet) → slice_get s.gates i ≡ Some g →
    t < tablets_of n → 1 ≤ stands t g → s.words (home t) < regions_of n

-- a writer that owes nothing finds a top that a region has
abbrev pub TopsAreFound : Type 0
TopsAreFound = (n : Numbers) (s : State) → Evacuation n s → (i t : ℕ) (g : GateFacet) (w : Work) → Seat s i g w →
    t < tablets_of n → 1 ≤ writes t g → OwesNothing n w → s.words (top t) ≤ n.words

-- a taken entry has the address of a word of the regions
abbrev pub AddressesAreFound : Type 0
AddressesAreFound = (n : Numbers) (s : State) → Evacuation n s → (x : ℕ) → x < entries_of n → IsTaken n s x →
    IsAddress n (entry_at (s.words (entry x))).address

-- at the place of the entry's record stand their number and these fields, within the region and all words
pub record RecordIsFound (n : Numbers) (s : State) (x : ℕ) (fields : List Value) : Type 0 where
  pub header : s.words (region_word (slot_at n s x).region (slot_at n s x).offset) ≡ length fields
  pub field : (j : ℕ) (v : Value) → slice_get fields j ≡ Some v →
      s.words (region_word (slot_at n s x).region ((slot_at n s x).offset + (1 + j))) ≡ value_word v
  pub size : (slot_at n s x).size ≡ length fields + 1
  pub whole : (slot_at n s x).offset + (length fields + 1) ≤ n.words
  pub inside : (entry_at (s.words (entry x))).address + length fields < total n

-- those are the fields of the heap's object
abbrev pub RecordsAreFound : Type 0
RecordsAreFound = (n : Numbers) (s : State) → Evacuation n s → (x : ℕ) → x < entries_of n → IsTaken n s x →
    (fields : List Value) → fields_of s.heap (name_of x (s.words (entry x))) ≡ Some fields → RecordIsFound n s x fields
