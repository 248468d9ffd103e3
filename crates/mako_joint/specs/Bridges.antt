-- What each group gives to another.
use Rattle.std.specs.Prelude.{ℕ, ◌≡◌, ◌≢◌, ◌+◌, ◌<◌, ◌⊎◌, Bool, List, length, slice_get, slice_index, Some, true}
use Rattle.mako_words.specs.declared.name.Name.{Name}
use Rattle.mako_words.specs.declared.value.Value.{Value}
use Rattle.mako_words.specs.declared.value.Value.TheVariants.{Ref}
use Rattle.mako_words.specs.declared.phase_word.PhaseWord.TheVariants.{Trace, Evac}
use Rattle.mako_words.specs.Values.{value_at}
use Rattle.mako_shape.specs.declared.numbers.Numbers.{Numbers}
use Rattle.mako_shape.specs.Places.{Within, region_word, leaving, index, word_at}
use Rattle.mako_shape.specs.Belongings.{tablet_of_entry}
use Rattle.mako_gate.specs.Changes.{tablets_of}
use Rattle.mako_gate.specs.Standings.{GateFacet}
use Rattle.mako_model.specs.Heaps.{root_of}
use Rattle.mako_model.specs.Laws.{ValuesFit, RootsFit}
use Rattle.mako_model.specs.Lawful.{RefersTo}
use Rattle.mako_model.specs.Legal.{Facts, state_of}
use Rattle.mako_names.specs.Freeing.{AllMarked, TraceStands, EpochsStand, entry_by, own_entries}
use Rattle.mako_names.specs.Tables.{entry_of, phase_of}
use Rattle.mako_ring.specs.Shades.{IsComplete}
use Rattle.mako_shades.specs.Laws.{HeapStandsIn}
use Rattle.mako_layout.specs.Facets.{Work, uses, Paused, settled, debt_of}
use Rattle.mako_layout.specs.Evacuations.{layout, Seat, top_of}
use Rattle.mako_layout.specs.Beside as beside
use Rattle.mako_layout.specs.Beside.{IsReading}
use Rattle.mako_phases.specs.Facets.{serving, freeing, evacuating, IsInPause}
use Rattle.mako_phases.specs.Laws.{IsStaying}
use Rattle.mako_phases.specs.Orders.{AreDrained}
use Rattle.mako_joint.specs.Joints.{JointScene, names_in, trace_in, layout_in, phases_in, HasName, Joint}

-- ---- values

-- each value in a root or a field fits its word
pub record ValuesFitIn (w : Facts) (s : JointScene) : Type 0 where
  pub fields : ValuesFit (state_of w s.front.history)
  pub roots : RootsFit (state_of w s.front.history)

abbrev pub ValuesFitTheirWords : Type 0
ValuesFitTheirWords = (n : Numbers) (w : Facts) (s : JointScene) → Joint n w s → ValuesFitIn w s

-- ---- tracing

-- words and history are as tracing asks
abbrev pub HeapsStand : Type 0
HeapsStand = (n : Numbers) (w : Facts) (s : JointScene) → Joint n w s → HeapStandsIn n w (trace_in s)

-- where tracing is complete, each name that was reachable at the snapshot has the epoch, as the store of Evac asks
abbrev pub AllAreMarked : Type 0
AllAreMarked = (n : Numbers) (w : Facts) (s : JointScene) (cycle : ℕ) (admitted : ℕ → Bool) → Joint n w s
    → phase_of n s.words ≡ Trace cycle → IsComplete n s.words s.facets.trace admitted
    → AllMarked n s.words w s.front.history cycle

-- ---- names in use

-- the entry of a name that a seat has to use is taken
abbrev pub HeldAreTaken : Type 0
HeldAreTaken = (n : Numbers) (w : Facts) (s : JointScene) (seat x : ℕ) → Joint n w s
    → HasName s.facets.names.held seat x → (entry_of n s.words x).taken ≡ true

-- and has the epoch, while servers evacuate
abbrev pub HeldHaveTheEpoch : Type 0
HeldHaveTheEpoch = (n : Numbers) (w : Facts) (s : JointScene) (cycle seat x : ℕ) → Joint n w s
    → phase_of n s.words ≡ Evac cycle → HasName s.facets.names.held seat x → (entry_of n s.words x).epoch ≡ cycle

-- so no view reads an entry that is to be freed
abbrev pub NoneReadsTheFreed : Type 0
NoneReadsTheFreed = (n : Numbers) (w : Facts) (s : JointScene) (cycle x : ℕ) → Joint n w s
    → phase_of n s.words ≡ Evac cycle → (entry_of n s.words x).epoch ≢ cycle
    → (seat : ℕ) (v : Work) → slice_get s.facets.works seat ≡ Some v → IsReading v → beside.entry_of v ≢ x

-- ---- records

-- The record of an object that a root names, at a place: the place is the entry's address, the header counts the
-- fields, and each field's word packs its value.
pub record IsPresentRecord (n : Numbers) (w : Facts) (s : JointScene) (m q : ℕ) (object : Name) (r o : ℕ) : Type 0 where
  pub fields : List Value
  pub refers : RefersTo (state_of w s.front.history) m q object fields
  pub address : index n (region_word r o) ≡ (entry_of n s.words object.entry).address
  pub header : word_at n s.words (region_word r o) ≡ length fields
  pub each : (i : ℕ) (v : Value) → slice_get fields i ≡ Some v
      → value_at (word_at n s.words (region_word r (o + (1 + i)))) ≡ v

-- a view that uses a place for a name that a root has finds the object's record there
abbrev pub UsedRecordsArePresent : Type 0
UsedRecordsArePresent = (n : Numbers) (w : Facts) (s : JointScene) → Joint n w s
    → (m q r o : ℕ) (object : Name) (g : GateFacet) → Seat (layout_in n w s) m g (uses object.entry r o)
    → root_of (state_of w s.front.history) m q ≡ Some (Ref object) → IsPresentRecord n w s m q object r o

-- ---- pauses

-- where the collector's part is one in the pause, all gates are drained
abbrev pub PartsPause : Type 0
PartsPause = (n : Numbers) (w : Facts) (s : JointScene) (j : Joint n w s) → IsInPause j.order.part
    → Paused n s.facets.gates

-- and no mutator is admitted, as the order of the phases asks
abbrev pub GatesDrain : Type 0
GatesDrain = (n : Numbers) (w : Facts) (s : JointScene) → Joint n w s → AreDrained s.facets.phases

-- a tablet has given up no region, and leaves none, where none is chosen
abbrev pub NothingIsGiven : Type 0
NothingIsGiven = (n : Numbers) (w : Facts) (s : JointScene) (j : Joint n w s) → IsStaying j.order.part
    → (t : ℕ) → t < tablets_of n
    → ((layout n (layout_in n w s)).given t ≡ 0) × (word_at n s.words (leaving t) ≡ 0)

-- a server that frees its entries is in the evacuation of its cycle, and its tablets are not leaving
abbrev pub FreeingFollows : Type 0
FreeingFollows = (n : Numbers) (w : Facts) (s : JointScene) → Joint n w s
    → (seat server cycle ended i : ℕ) (laden : Bool)
    → slice_get s.facets.phases seat ≡ Some (serving server (freeing cycle) ended laden) → i < own_entries n
    → (phase_of n s.words ≡ Evac cycle)
    × (word_at n s.words (leaving (tablet_of_entry n (entry_by n server i))) ≡ 0)
