-- The kinds of step: what each does to words, views, heap and choice, and what it asks beside the invariant.
use Rattle.std.specs.Prelude.{ℕ, false, ◌≡◌, ◌≢◌, ◌+◌, ◌-◌, ◌<◌, ◌≤◌, ◌^◌, ◌==◌, ◌⊎◌, List, [], length, replicate}
use Rattle.std.specs.Prelude.{slice_set, Some}
use Rattle.mako_words.specs.declared.name.Name.{Name}
use Rattle.mako_words.specs.declared.value.Value.{Value}
use Rattle.mako_words.specs.declared.value.Value.TheVariants.{Null}
use Rattle.mako_words.specs.Values.{value_word}
use Rattle.mako_words.specs.declared.entry_word.EntryWord.{EntryWord}
use Rattle.mako_words.specs.Entries.{entry_word, entry_at}
use Rattle.mako_words.specs.Phases.{phase_at, cycle_of}
use Rattle.mako_shape.specs.declared.numbers.Numbers.{Numbers}
use Rattle.mako_shape.specs.Limits.{IsShape}
use Rattle.mako_shape.specs.Places.{Place, phase, entry, home, top, leaving, region_word, index}
use Rattle.mako_shape.specs.Belongings.{tablet_of_entry, server_of_tablet, server_of_region}
use Rattle.mako_model.specs.Heaps.{Heap, fields_of}
use Rattle.mako_gate.specs.Sums.{counted}
use Rattle.mako_gate.specs.Changes.{tablets_of, Sets, LeavesGates}
use Rattle.mako_gate.specs.Standings.{Standing, keeps_shut, has_drained, GateFacet, admitted, holds_turn, drained_by}
use Rattle.mako_gate.specs.Standings.{writes, mutator_at, shutter_at}
use Rattle.mako_gate.specs.GateActions.{GateAction}
use Rattle.mako_layout.specs.Layouts.{entries_of, regions_of, gifts_at}
use Rattle.mako_layout.specs.Facets.{stands, Work, idle, reads, uses, holds_home, moves, asks, tops, finds, fills}
use Rattle.mako_layout.specs.Facets.{carries, raises, makes, counts, settled, owes_home, owes_top, Gift, rests_with}
use Rattle.mako_layout.specs.Facets.{chooses, has_chosen, debt_of, gift_of, times_in, Paused}
use Rattle.mako_layout.specs.Evacuations.{name_of, null_words, State, layout, slot_at, IsTaken, IsOfCycle, Seat}
use Rattle.mako_layout.specs.Evacuations.{Evacuation}
use Rattle.mako_layout.specs.Beside.{IsWriting}
use Rattle.mako_layout.specs.Frames.{LeavesLayout}
use Rattle.mako_layout.specs.StepParts.{collector_seat, first_of, past_of, at_gate, at_work, OwesNothing, moved_entry}
use Rattle.mako_layout.specs.StepParts.{new_entry, AltersEntry}

-- A step of a seat leads from s to a state. V are the words after it.
pub data Step (n : Numbers) (s : State) : ℕ → State → Type 0 where
  -- ---- at gates and turns
  -- a view with nothing in hand acts, and drains no tablet; the collector does so only while it owes nothing
  acts : (V : Place → ℕ) (i : ℕ) (f g : GateFacet) → Seat s i f idle → GateAction n s.words V i f g →
      LeavesLayout n s.words V → ((t : ℕ) → drained_by t g.watch ≡ 0) →
      (i ≢ collector_seat n) ⊎ (debt_of s.choice ≡ settled) → Step n s i (at_gate s V i g)
  -- a mutator that reads at most acts, and stays admitted where it was
  acts_in_use : (V : Place → ℕ) (m : ℕ) (p q : Standing) (w : Work) → Seat s m (mutator_at m p) w →
      (IsWriting w → ⊥) → m < n.mutators → GateAction n s.words V m (mutator_at m p) (mutator_at m q) →
      LeavesLayout n s.words V → ((t : ℕ) → admitted t p ≤ admitted t q) → Step n s m (at_gate s V m (mutator_at m q))
  -- a server finds nobody at the gate that it keeps shut, while the collector owes nothing
  drains : (V : Place → ℕ) (i t : ℕ) → Seat s i (shutter_at i (keeps_shut t)) idle →
      GateAction n s.words V i (shutter_at i (keeps_shut t)) (shutter_at i (has_drained t (first_of n t))) →
      LeavesLayout n s.words V → debt_of s.choice ≡ settled →
      Step n s i (at_gate s V i (shutter_at i (has_drained t (first_of n t))))
  -- it passes an entry, whose record is not one of the cycle, or is at home by now
  passes : (i t b x r : ℕ) → Seat s i (shutter_at i (has_drained t b)) (holds_home x r) → tablet_of_entry n x ≡ t →
      (IsTaken n s b → IsOfCycle n s b → (slot_at n s b).region ≡ r) →
      Step n s i (at_gate s s.words i (shutter_at i (has_drained t (b + 1))))
  -- ---- a mutator reads and stores
  -- it loads a taken entry; then the home word, which names the region that it found
  load_entry : (i x : ℕ) (g : GateFacet) → Seat s i g idle → x < entries_of n →
      1 ≤ admitted (tablet_of_entry n x) g.standing → IsTaken n s x →
      Step n s i (at_work s s.words i (reads x (slot_at n s x).region (slot_at n s x).offset))
  load_home : (i x r o : ℕ) (g : GateFacet) → Seat s i g (reads x r o) → r ≡ s.words (home (tablet_of_entry n x)) →
      Step n s i (at_work s s.words i (uses x r o))
  -- a field is stored where the view uses the record; the heap's object has the value from then on
  store_field : (V : Place → ℕ) (h : Heap) (i x r o j : ℕ) (v : Value) (g : GateFacet) (fields : List Value) →
      Seat s i g (uses x r o) → fields_of s.heap (name_of x (s.words (entry x))) ≡ Some fields → j < length fields →
      Sets n s.words V (region_word r (o + (1 + j))) (value_word v) →
      fields_of h (name_of x (s.words (entry x))) ≡ Some (slice_set fields j v) →
      ((name : Name) → name.entry ≢ x → fields_of h name ≡ fields_of s.heap name) →
      Step n s i (record s { words = V; heap = h })
  -- a view lets go of what it has in hand
  forget : (i : ℕ) (g : GateFacet) (w : Work) → Seat s i g w → OwesNothing n w → Step n s i (at_work s s.words i idle)
  -- ---- a copy, by a mutator that holds the turn or by a server
  -- the home word is loaded; entries of the tablet follow, with a record in that home, or of the cycle outside of it
  keep_home : (i x : ℕ) (g : GateFacet) (w : Work) → Seat s i g w → OwesNothing n w → x < entries_of n →
      1 ≤ stands (tablet_of_entry n x) g →
      Step n s i (at_work s s.words i (holds_home x (s.words (home (tablet_of_entry n x)))))
  turns_to : (i x y r : ℕ) (g : GateFacet) → Seat s i g (holds_home x r) → y < entries_of n →
      tablet_of_entry n y ≡ tablet_of_entry n x → Step n s i (at_work s s.words i (holds_home y r))
  finds_home : (i x y r : ℕ) (g : GateFacet) → Seat s i g (holds_home x r) → y < entries_of n →
      tablet_of_entry n y ≡ tablet_of_entry n x → 1 ≤ admitted (tablet_of_entry n y) g.standing →
      IsTaken n s y → (slot_at n s y).region ≡ r → Step n s i (at_work s s.words i (uses y r (slot_at n s y).offset))
  finds_away : (i x y r : ℕ) (g : GateFacet) → Seat s i g (holds_home x r) → y < entries_of n →
      tablet_of_entry n y ≡ tablet_of_entry n x → 1 ≤ writes (tablet_of_entry n y) g →
      IsTaken n s y → IsOfCycle n s y → (slot_at n s y).region ≢ r →
      Step n s i (at_work s s.words i (moves y (entry_at (s.words (entry y))) r))
  -- the top is loaded; each word of the record is loaded and stored; the entry gets the new address; the top is raised
  load_top : (i x : ℕ) (found : EntryWord) (r : ℕ) (g : GateFacet) → Seat s i g (moves x found r) →
      Step n s i (at_work s s.words i (fills x found r (s.words (top (tablet_of_entry n x))) 0))
  load_word : (i x : ℕ) (found : EntryWord) (r o j : ℕ) (g : GateFacet) → Seat s i g (fills x found r o j) →
      j < (slot_at n s x).size →
      Step n s i (at_work s s.words i
      (carries x found r o j (s.words (region_word (slot_at n s x).region ((slot_at n s x).offset + j)))))
  store_word : (V : Place → ℕ) (i x : ℕ) (found : EntryWord) (r o j v : ℕ) (g : GateFacet) →
      Seat s i g (carries x found r o j v) → Sets n s.words V (region_word r (o + j)) v →
      Step n s i (at_work s V i (fills x found r o (j + 1)))
  store_moved : (V : Place → ℕ) (i x : ℕ) (found : EntryWord) (r o : ℕ) (g : GateFacet) →
      Seat s i g (fills x found r o (slot_at n s x).size) →
      Sets n s.words V (entry x) (entry_word (moved_entry found (index n (region_word r o)))) →
      Step n s i (at_work s V i (raises x r o (slot_at n s x).size))
  raise_and_use : (V : Place → ℕ) (i x r o z : ℕ) (g : GateFacet) → Seat s i g (raises x r o z) →
      1 ≤ admitted (tablet_of_entry n x) g.standing → Sets n s.words V (top (tablet_of_entry n x)) (o + z) →
      Step n s i (at_work s V i (uses x r o))
  raise_and_go_on : (V : Place → ℕ) (i x r o z : ℕ) (g : GateFacet) → Seat s i g (raises x r o z) →
      Sets n s.words V (top (tablet_of_entry n x)) (o + z) → Step n s i (at_work s V i (holds_home x r))
  -- ---- a new object, by a mutator that holds the turn
  -- the tablet leaves no region, and its home has room; entries are passed until one is free; the home word is loaded
  load_leaving : (i x : ℕ) (g : GateFacet) → Seat s i g idle → x < entries_of n →
      1 ≤ holds_turn (tablet_of_entry n x) g.standing → s.words (leaving (tablet_of_entry n x)) ≡ 0 →
      Step n s i (at_work s s.words i (asks x))
  load_room : (i x z : ℕ) (g : GateFacet) → Seat s i g (asks x) → 1 ≤ z →
      s.words (top (tablet_of_entry n x)) + z ≤ n.words →
      Step n s i (at_work s s.words i (tops x (s.words (top (tablet_of_entry n x))) z))
  skip_entry : (i x o z : ℕ) (g : GateFacet) → Seat s i g (tops x o z) → x + 1 < entries_of n →
      tablet_of_entry n (x + 1) ≡ tablet_of_entry n x → Step n s i (at_work s s.words i (tops (x + 1) o z))
  find_entry : (i : ℕ) (name : Name) (o z : ℕ) (g : GateFacet) → Seat s i g (tops name.entry o z) →
      (slot_at n s name.entry).taken ≡ false → (slot_at n s name.entry).generation ≡ name.generation →
      Step n s i (at_work s s.words i (finds name o z))
  begin_new : (i : ℕ) (name : Name) (o z : ℕ) (g : GateFacet) → Seat s i g (finds name o z) →
      Step n s i (at_work s s.words i (makes name (s.words (home (tablet_of_entry n name.entry))) o z 0))
  -- the record's words are stored; the top is raised; the entry is stored, and the heap has the object from then on
  store_null : (V : Place → ℕ) (i : ℕ) (name : Name) (r o z j : ℕ) (g : GateFacet) →
      Seat s i g (makes name r o z j) → j < z → Sets n s.words V (region_word r (o + j)) (null_words z j) →
      Step n s i (at_work s V i (makes name r o z (j + 1)))
  raise_for_new : (V : Place → ℕ) (i : ℕ) (name : Name) (r o z : ℕ) (g : GateFacet) → Seat s i g (makes name r o z z) →
      Sets n s.words V (top (tablet_of_entry n name.entry)) (o + z) → Step n s i (at_work s V i (counts name r o z))
  store_new : (V : Place → ℕ) (h : Heap) (d : ℕ → ℕ) (i : ℕ) (name : Name) (r o z : ℕ) (g : GateFacet) →
      Seat s i g (counts name r o z) → (layout n s).cycle < 2 ^ 20 →
      Sets n s.words V (entry name.entry)
      (entry_word (new_entry name (layout n s).cycle (index n (region_word r o)))) →
      fields_of h name ≡ Some (replicate (z - 1) Null) →
      ((other : Name) → other.entry ≢ name.entry → fields_of h other ≡ fields_of s.heap other) →
      s.made (tablet_of_entry n name.entry) + z ≤ d (tablet_of_entry n name.entry) → ((t : ℕ) → s.made t ≤ d t) →
      Step n s i (record s { words = V; heap = h; works = slice_set s.works i idle; made = d })
  -- ---- the collector chooses tablets
  begins_choice : (spare : List ℕ) → s.choice ≡ rests_with spare →
      Step n s (collector_seat n) (record s { choice = chooses settled [] spare })
  -- with all mutators outside, it gives a tablet the spare region r for its home, in three stores
  store_leaving : (V : Place → ℕ) (t r : ℕ) (given given' : List Gift) (spare spare' : List ℕ) → Paused n s.gates →
      s.choice ≡ chooses settled given spare → t < tablets_of n → r < regions_of n →
      server_of_region n r ≡ server_of_tablet n t → (layout n s).given t ≡ 0 → 1 ≤ (layout n s).spare r →
      Sets n s.words V (leaving t) (s.words (home t) + 1) →
      ((u : ℕ) → gift_of given' u ≡ gift_of given u + counted (t == u) (s.words (home t) + 1)) →
      ((q : ℕ) → times_in spare' q + counted (r == q) 1 ≡ times_in spare q) →
      Step n s (collector_seat n) (record s { words = V; choice = chooses (owes_home t r) given' spare' })
  store_home : (V : Place → ℕ) (t r : ℕ) (given : List Gift) (spare : List ℕ) → t < tablets_of n →
      s.choice ≡ chooses (owes_home t r) given spare → Sets n s.words V (home t) r →
      Step n s (collector_seat n) (record s { words = V; choice = chooses (owes_top t) given spare })
  zero_top : (V : Place → ℕ) (t : ℕ) (given : List Gift) (spare : List ℕ) → t < tablets_of n →
      s.choice ≡ chooses (owes_top t) given spare → Sets n s.words V (top t) 0 →
      Step n s (collector_seat n) (record s { words = V; choice = chooses settled given spare })
  ends_choice : (given : List Gift) (spare : List ℕ) → s.choice ≡ chooses settled given spare →
      Step n s (collector_seat n) (record s { choice = has_chosen given spare })
  -- ---- the collector stores the phase
  -- the next cycle begins, with all mutators outside
  store_trace : (V : Place → ℕ) (v : ℕ) (spare : List ℕ) → Paused n s.gates → s.choice ≡ rests_with spare →
      Sets n s.words V phase v → Step n s (collector_seat n) (record s { words = V })
  -- another phase of the same cycle
  store_phase : (V : Place → ℕ) (v : ℕ) → Sets n s.words V phase v → cycle_of (phase_at v) ≡ (layout n s).cycle →
      Step n s (collector_seat n) (record s { words = V })
  -- the cycle ends: no region is left, all taken entries are of the cycle, and the regions given up become spare
  store_idle : (V : Place → ℕ) (v : ℕ) (given : List Gift) (spare spare' : List ℕ) →
      s.choice ≡ has_chosen given spare → Sets n s.words V phase v → cycle_of (phase_at v) ≡ (layout n s).cycle →
      ((t : ℕ) → t < tablets_of n → s.words (leaving t) ≡ 0) →
      ((x : ℕ) → x < entries_of n → IsTaken n s x → IsOfCycle n s x) →
      ((r : ℕ) → r < regions_of n → times_in spare' r ≡ times_in spare r + gifts_at n (layout n s) r) →
      Step n s (collector_seat n) (record s { words = V; choice = rests_with spare' })
  -- ---- a server
  -- the tablet leaves its region for good, when the server has passed all its entries
  clear_leaving : (V : Place → ℕ) (i t x r : ℕ) →
      Seat s i (shutter_at i (has_drained t (past_of n t))) (holds_home x r) → t < tablets_of n →
      s.words (leaving t) ≢ 0 → Sets n s.words V (leaving t) 0 → Step n s i (record s { words = V })
  alter_entry : (i : ℕ) (V : Place → ℕ) (x : ℕ) (after : EntryWord) → AltersEntry n s V after x →
      Step n s i (record s { words = V })
  -- ---- any other word, and any other change of the heap
  outside : (i : ℕ) (V : Place → ℕ) (h : Heap) (d : ℕ → ℕ) → LeavesLayout n s.words V → LeavesGates n s.words V →
      ((name : Name) → fields_of h name ≡ fields_of s.heap name) → ((t : ℕ) → d t ≡ s.made t) →
      Step n s i (record s { words = V; heap = h; made = d })

-- each kind of step keeps the invariant
abbrev pub EachStepKeeps : Type 0
EachStepKeeps = (n : Numbers) → IsShape n → (s : State) (who : ℕ) (z : State) → Evacuation n s → Step n s who z →
    Evacuation n z
