-- What the kinds of step are told by.
use Rattle.std.specs.Prelude.{ℕ, true, ◌≡◌, ◌*◌, ◌+◌, ◌<◌, slice_get, slice_set, Some}
use Rattle.mako_words.specs.declared.name.Name.{Name}
use Rattle.mako_words.specs.declared.entry_word.EntryWord.{EntryWord}
use Rattle.mako_words.specs.Entries.{entry_word, FitsEntry, entry_at}
use Rattle.mako_shape.specs.declared.numbers.Numbers.{Numbers}
use Rattle.mako_shape.specs.Places.{Place, entry, leaving}
use Rattle.mako_shape.specs.Belongings.{tablet_of_entry}
use Rattle.mako_gate.specs.Changes.{Sets}
use Rattle.mako_gate.specs.Standings.{GateFacet}
use Rattle.mako_layout.specs.Layouts.{entries_of}
use Rattle.mako_layout.specs.Facets.{Work}
use Rattle.mako_layout.specs.Evacuations.{to_raise, counted_in, State, layout, slot_at, IsTaken}
use Rattle.mako_layout.specs.Beside.{entry_of, IsReading}

-- the collector's seat comes behind those of mutators and servers
abbrev pub collector_seat : Numbers → ℕ
collector_seat n = n.mutators + n.servers

-- the first entry of a tablet, and the number behind its last
abbrev pub first_of : Numbers → ℕ → ℕ
first_of n t = t * n.entries

abbrev pub past_of : Numbers → ℕ → ℕ
past_of n t = t * n.entries + n.entries

-- after a step at a gate: the words, and the seat's place at the gates
abbrev pub at_gate : State → (Place → ℕ) → ℕ → GateFacet → State
at_gate s V i g = record s { words = V; gates = slice_set s.gates i g }

-- after a step of a view's work: the words, and the seat's work
abbrev pub at_work : State → (Place → ℕ) → ℕ → Work → State
at_work s V i w = record s { words = V; works = slice_set s.works i w }

-- the work owes no raise, and has counted nothing
abbrev pub OwesNothing : Numbers → Work → Type 0
OwesNothing n w = (t : ℕ) → (to_raise n t w ≡ 0) × (counted_in n t w ≡ 0)

-- an entry with another address
abbrev pub moved_entry : EntryWord → (address : ℕ) → EntryWord
moved_entry found a = record found { address = a }

-- the entry of a new object
abbrev pub new_entry : Name → (cycle address : ℕ) → EntryWord
new_entry name c a = record { taken = true; generation = name.generation; epoch = c; address = a }

-- a taken entry is freed, or gets another epoch where its record lies in the home, in a tablet that leaves no region
pub record AltersEntry (n : Numbers) (s : State) (V : Place → ℕ) (after : EntryWord) (x : ℕ) : Type 0 where
  pub inside : x < entries_of n
  pub stays : s.words (leaving (tablet_of_entry n x)) ≡ 0
  pub was : IsTaken n s x
  pub sets : Sets n s.words V (entry x) (entry_word after)
  pub fits : FitsEntry after
  pub address : after.taken ≡ true → after.address ≡ (entry_at (s.words (entry x))).address
  pub generation : after.taken ≡ true → after.generation ≡ (entry_at (s.words (entry x))).generation
  pub home : after.taken ≡ true → (slot_at n s x).region ≡ (layout n s).home (tablet_of_entry n x)
  -- who reads through the entry's address finds it taken
  pub read : (j : ℕ) (v : Work) → slice_get s.works j ≡ Some v → IsReading v → entry_of v ≡ x → after.taken ≡ true
