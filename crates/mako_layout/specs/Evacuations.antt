-- The whole: the layout that words, works, heap and choice give, what stands in the records, and what each view knows.
use Rattle.std.specs.Prelude.{ℕ, true, false, ◌≡◌, ◌≢◌, ◌+◌, ◌-◌, ◌<◌, ◌≤◌, ◌==◌, if◌then◌else◌, ◌⊎◌, List, [], ◌∷◌}
use Rattle.std.specs.Prelude.{length, map, get_or, replicate, slice_get, sum_by, Some}
use Rattle.std.specs.Option.{unwrap_or}
use Rattle.mako_words.specs.declared.name.Name.{Name}
use Rattle.mako_words.specs.declared.value.Value.{Value}
use Rattle.mako_words.specs.declared.value.Value.TheVariants.{Null}
use Rattle.mako_words.specs.Values.{value_word}
use Rattle.mako_words.specs.declared.entry_word.EntryWord.{EntryWord}
use Rattle.mako_words.specs.Entries.{entry_at}
use Rattle.mako_words.specs.Phases.{phase_at, cycle_of}
use Rattle.mako_shape.specs.declared.numbers.Numbers.{Numbers}
use Rattle.mako_shape.specs.Places.{Place, phase, entry, home, top, leaving, region_word, index}
use Rattle.mako_shape.specs.Belongings.{tablet_of_entry, region_of_address, word_of_address}
use Rattle.mako_model.specs.Heaps.{Heap, fields_of}
use Rattle.mako_gate.specs.Sums.{counted}
use Rattle.mako_gate.specs.Changes.{tablets_of}
use Rattle.mako_gate.specs.Standings.{GateFacet, has_drained, admitted, holds_turn, writes}
use Rattle.mako_gate.specs.Gates.{Gates}
use Rattle.mako_layout.specs.Layouts.{Slot, Layout, entries_of, Passed, OneCopy}
use Rattle.mako_layout.specs.Facets.{stands, Work, idle, reads, uses, holds_home, moves, asks, tops, finds, fills}
use Rattle.mako_layout.specs.Facets.{carries, raises, makes, counts, Debt, settled, owes_home, owes_top, Choice}
use Rattle.mako_layout.specs.Facets.{debt_of, given_of, spare_of, gift_of, times_in, Paused}

-- ---- the layout

-- the name of a taken entry with this word
abbrev pub name_of : ℕ → ℕ → Name
name_of x w = record { entry = x; generation = (entry_at w).generation }

abbrev pub fields_in : Heap → Name → List Value
fields_in h name = unwrap_or (fields_of h name) []

-- the entry with its record, whose size is that of the heap's object
abbrev pub slot_of_entry : Numbers → Heap → ℕ → EntryWord → Slot
slot_of_entry n h x e = record {
  taken = e.taken;
  generation = e.generation;
  epoch = e.epoch;
  region = region_of_address n e.address;
  offset = word_of_address n e.address;
  size = length (fields_in h (record { entry = x; generation = e.generation })) + 1;
}

abbrev pub slot_of : Numbers → Heap → ℕ → ℕ → Slot
slot_of n h x w = slot_of_entry n h x (entry_at w)

-- the home word of a tablet, or the region that is still to be stored there
abbrev pub home_read : Debt → ℕ → ℕ → ℕ
home_read (owes_home u r) t word = if u == t then r else word
home_read (owes_top u) t word = word
home_read settled t word = word

-- the top word of a tablet, or 0 where that is still to be stored
abbrev pub top_read : Debt → ℕ → ℕ → ℕ
top_read (owes_home u r) t word = if u == t then 0 else word
top_read (owes_top u) t word = if u == t then 0 else word
top_read settled t word = word

-- what a view is still to raise the tablet's top by
abbrev pub to_raise : Numbers → ℕ → Work → ℕ
to_raise n t (raises x r o z) = counted (tablet_of_entry n x == t) z
to_raise n t w = 0

-- what a view raised the tablet's top by, for a record that no entry has yet
abbrev pub counted_in : Numbers → ℕ → Work → ℕ
counted_in n t (counts name r o z) = counted (tablet_of_entry n name.entry == t) z
counted_in n t w = 0

-- The words in use are the top, with the copies that entries have but the top does not count yet, and without the new
-- records that it counts but no entry has yet: so they rise where an entry is stored, and nowhere else.
abbrev pub layout_of : Numbers → (Place → ℕ) → Heap → List Work → Choice → (ℕ → ℕ) → Layout
layout_of n W h js k d = record {
  cycle = cycle_of (phase_at (W phase));
  slot = λ x. slot_of n h x (W (entry x));
  home = λ t. home_read (debt_of k) t (W (home t));
  filled = λ t. top_read (debt_of k) t (W (top t)) + sum_by (to_raise n t) js - sum_by (counted_in n t) js;
  leaving = λ t. W (leaving t);
  given = gift_of (given_of k);
  spare = times_in (spare_of k);
  made = d;
}

-- ---- records

-- the words of a record: its header, and its fields
abbrev pub record_words : List Value → List ℕ
record_words fields = length fields ∷ map value_word fields

-- the first z words from a place on are these
abbrev pub Stand : (Place → ℕ) → ℕ → ℕ → ℕ → (ℕ → ℕ) → Type 0
Stand W r o z word = (i : ℕ) → i < z → W (region_word r (o + i)) ≡ word i

-- the words at the slot's place are those of the fields of the entry's name, and the entry has that place's address
pub record IsRecordOf (n : Numbers) (W : Place → ℕ) (h : Heap) (x : ℕ) (s : Slot) : Type 0 where
  pub fields : List Value
  pub are : fields_of h (name_of x (W (entry x))) ≡ Some fields
  pub address : index n (region_word s.region s.offset) ≡ (entry_at (W (entry x))).address
  pub words : Stand W s.region s.offset (length fields + 1) (λ i. get_or (record_words fields) i 0)

-- ---- what a view knows, by its work

-- the entry is taken, and a place in the home is its record's
pub record Reads (n : Numbers) (l : Layout) (g : GateFacet) (x r o : ℕ) : Type 0 where
  pub inside : x < entries_of n
  pub enters : 1 ≤ admitted (tablet_of_entry n x) g.standing
  pub taken : (l.slot x).taken ≡ true
  pub present : r ≡ l.home (tablet_of_entry n x) → ((l.slot x).region ≡ r) × ((l.slot x).offset ≡ o)

-- the place is that of the taken entry's record, in the home
pub record Uses (n : Numbers) (l : Layout) (g : GateFacet) (x r o : ℕ) : Type 0 where
  pub inside : x < entries_of n
  pub enters : 1 ≤ admitted (tablet_of_entry n x) g.standing
  pub taken : (l.slot x).taken ≡ true
  pub region : (l.slot x).region ≡ r
  pub offset : (l.slot x).offset ≡ o
  pub home : r ≡ l.home (tablet_of_entry n x)

-- the region that it keeps is the home
pub record HoldsHome (n : Numbers) (l : Layout) (g : GateFacet) (x r : ℕ) : Type 0 where
  pub inside : x < entries_of n
  pub stands_there : 1 ≤ stands (tablet_of_entry n x) g
  pub region : r ≡ l.home (tablet_of_entry n x)

-- the slot is that of the entry as it was found
pub record IsAsFound (n : Numbers) (s : Slot) (found : EntryWord) : Type 0 where
  pub taken : s.taken ≡ found.taken
  pub generation : s.generation ≡ found.generation
  pub epoch : s.epoch ≡ found.epoch
  pub address : index n (region_word s.region s.offset) ≡ found.address

-- it may write, and the record of the cycle of the entry that it found lies outside of the home
pub record Moves (n : Numbers) (l : Layout) (g : GateFacet) (x : ℕ) (found : EntryWord) (r : ℕ) : Type 0 where
  pub inside : x < entries_of n
  pub writer : 1 ≤ writes (tablet_of_entry n x) g
  pub region : r ≡ l.home (tablet_of_entry n x)
  pub taken : (l.slot x).taken ≡ true
  pub epoch : (l.slot x).epoch ≡ l.cycle
  pub out : (l.slot x).region ≢ r
  pub as_found : IsAsFound n (l.slot x) found

-- the place that it keeps is the first free word of the home
pub record Kept (n : Numbers) (l : Layout) (x r o : ℕ) : Type 0 where
  pub region : r ≡ l.home (tablet_of_entry n x)
  pub offset : o ≡ l.filled (tablet_of_entry n x)

-- j words of such a record are copied to the first free word
pub record Fills (n : Numbers) (l : Layout) (W : Place → ℕ) (g : GateFacet) (x : ℕ) (found : EntryWord) (r o j : ℕ) :
    Type 0 where
  pub inside : x < entries_of n
  pub writer : 1 ≤ writes (tablet_of_entry n x) g
  pub kept : Kept n l x r o
  pub taken : (l.slot x).taken ≡ true
  pub epoch : (l.slot x).epoch ≡ l.cycle
  pub out : (l.slot x).region ≢ r
  pub as_found : IsAsFound n (l.slot x) found
  pub most : j ≤ (l.slot x).size
  pub words : Stand W r o j (λ i. W (region_word (l.slot x).region ((l.slot x).offset + i)))

-- and v is the next
pub record Carries (n : Numbers) (l : Layout) (W : Place → ℕ) (g : GateFacet) (x : ℕ) (found : EntryWord)
    (r o j v : ℕ) : Type 0 where
  pub fills : Fills n l W g x found r o j
  pub more : j < (l.slot x).size
  pub word : v ≡ W (region_word (l.slot x).region ((l.slot x).offset + j))

-- the entry has the copy, which stands at the top, while the tablet leaves a region
pub record Raises (n : Numbers) (l : Layout) (W : Place → ℕ) (g : GateFacet) (x r o z : ℕ) : Type 0 where
  pub inside : x < entries_of n
  pub writer : 1 ≤ writes (tablet_of_entry n x) g
  pub taken : (l.slot x).taken ≡ true
  pub region : (l.slot x).region ≡ r
  pub home : r ≡ l.home (tablet_of_entry n x)
  pub offset : (l.slot x).offset ≡ o
  pub top : W (top (tablet_of_entry n x)) ≡ o
  pub left : l.leaving (tablet_of_entry n x) ≢ 0

-- it holds the turn of a tablet that leaves no region
pub record Asks (n : Numbers) (l : Layout) (g : GateFacet) (x : ℕ) : Type 0 where
  pub inside : x < entries_of n
  pub turn : 1 ≤ holds_turn (tablet_of_entry n x) g.standing
  pub stays : l.leaving (tablet_of_entry n x) ≡ 0

-- a record of z words has room behind the words in use
pub record Tops (n : Numbers) (l : Layout) (g : GateFacet) (x o z : ℕ) : Type 0 where
  pub asks : Asks n l g x
  pub offset : o ≡ l.filled (tablet_of_entry n x)
  pub some : 1 ≤ z
  pub fits : o + z ≤ n.words

-- the entry is free, with the generation of the name
pub record Finds (n : Numbers) (l : Layout) (g : GateFacet) (name : Name) (o z : ℕ) : Type 0 where
  pub tops : Tops n l g name.entry o z
  pub free : (l.slot name.entry).taken ≡ false
  pub generation : (l.slot name.entry).generation ≡ name.generation

-- the words of a new record of z words, all of whose fields are null
abbrev pub null_words : ℕ → ℕ → ℕ
null_words z i = get_or (record_words (replicate (z - 1) Null)) i 0

-- and j words of the new record stand at the first free word of the home
pub record Makes (n : Numbers) (l : Layout) (W : Place → ℕ) (g : GateFacet) (name : Name) (r o z j : ℕ) : Type 0 where
  pub inside : name.entry < entries_of n
  pub turn : 1 ≤ holds_turn (tablet_of_entry n name.entry) g.standing
  pub kept : Kept n l name.entry r o
  pub stays : l.leaving (tablet_of_entry n name.entry) ≡ 0
  pub free : (l.slot name.entry).taken ≡ false
  pub generation : (l.slot name.entry).generation ≡ name.generation
  pub some : 1 ≤ z
  pub fits : o + z ≤ n.words
  pub most : j ≤ z
  pub words : Stand W r o j (null_words z)

-- and all do
pub record Counts (n : Numbers) (l : Layout) (W : Place → ℕ) (g : GateFacet) (name : Name) (r o z : ℕ) : Type 0 where
  pub makes : Makes n l W g name r o z z

abbrev pub Knows : Numbers → Layout → (Place → ℕ) → GateFacet → Work → Type 0
Knows n l W g idle = Unit {0}
Knows n l W g (reads x r o) = Reads n l g x r o
Knows n l W g (uses x r o) = Uses n l g x r o
Knows n l W g (holds_home x r) = HoldsHome n l g x r
Knows n l W g (moves x found r) = Moves n l g x found r
Knows n l W g (fills x found r o j) = Fills n l W g x found r o j
Knows n l W g (carries x found r o j v) = Carries n l W g x found r o j v
Knows n l W g (raises x r o z) = Raises n l W g x r o z
Knows n l W g (asks x) = Asks n l g x
Knows n l W g (tops x o z) = Tops n l g x o z
Knows n l W g (finds name o z) = Finds n l g name o z
Knows n l W g (makes name r o z j) = Makes n l W g name r o z j
Knows n l W g (counts name r o z) = Counts n l W g name r o z

-- ---- the whole

-- what evacuation reads; gates and works stand by seat
pub record State : Type 0 where
  pub words : Place → ℕ
  pub heap : Heap
  pub gates : List GateFacet
  pub works : List Work
  pub choice : Choice
  -- by tablet, the words of the records of all names made
  pub made : ℕ → ℕ

abbrev pub layout : Numbers → State → Layout
layout n s = layout_of n s.words s.heap s.works s.choice s.made

abbrev pub slot_at : Numbers → State → ℕ → Slot
slot_at n s x = (layout n s).slot x

abbrev pub IsTaken : Numbers → State → ℕ → Type 0
IsTaken n s x = (slot_at n s x).taken ≡ true

-- a record of the entry, if it has one, is of the cycle that the phase names
abbrev pub IsOfCycle : Numbers → State → ℕ → Type 0
IsOfCycle n s x = (slot_at n s x).epoch ≡ (layout n s).cycle

-- the top of a tablet, as it is once the collector has stored what it owes
abbrev pub top_of : State → ℕ → ℕ
top_of s t = top_read (debt_of s.choice) t (s.words (top t))

-- this place at the gates, and this work, are those of the seat
pub record Seat (s : State) (i : ℕ) (g : GateFacet) (w : Work) : Type 0 where
  pub gate : slice_get s.gates i ≡ Some g
  pub work : slice_get s.works i ≡ Some w

pub record Evacuation (n : Numbers) (s : State) : Type 0 where
  pub seats : length s.works ≡ length s.gates
  pub gates : Gates n s.words s.gates
  pub copy : OneCopy n (layout n s)
  -- the collector owes nothing, or it is alone
  pub pause : (debt_of s.choice ≡ settled) ⊎ Paused n s.gates
  -- what was counted into a top is in it
  pub even : (t : ℕ) → t < tablets_of n →
      sum_by (counted_in n t) s.works ≤ top_of s t + sum_by (to_raise n t) s.works
  -- each taken entry has its record
  pub records : (x : ℕ) → x < entries_of n → IsTaken n s x → IsRecordOf n s.words s.heap x (slot_at n s x)
  -- a server that drained a tablet has brought home what it passed
  pub passed : (i t b : ℕ) (g : GateFacet) → slice_get s.gates i ≡ Some g → g.watch ≡ has_drained t b →
      Passed n (layout n s) t b
  pub knows : (i : ℕ) (g : GateFacet) (w : Work) → slice_get s.gates i ≡ Some g → slice_get s.works i ≡ Some w →
      Knows n (layout n s) s.words g w
