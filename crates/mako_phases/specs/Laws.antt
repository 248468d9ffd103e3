-- What the order of the phases tells.
use Rattle.std.specs.Prelude.{ℕ, ◌≡◌, ◌+◌, ◌*◌, ◌≤◌, List, slice_get, Some, Bool, false}
use Rattle.std.specs.List.{Contains}
use Rattle.mako_words.specs.declared.name.Name.{Name}
use Rattle.mako_words.specs.declared.value.Value.TheVariants.{Ref}
use Rattle.mako_words.specs.declared.phase_word.PhaseWord.TheVariants.{Evac}
use Rattle.mako_words.specs.Phases.{cycle_of}
use Rattle.mako_words.specs.Values.{value_at}
use Rattle.mako_shape.specs.declared.numbers.Numbers.{Numbers}
use Rattle.mako_shape.specs.Places.{Place, root, leaving, entry, Within, word_at}
use Rattle.mako_shape.specs.Belongings.{server_of_tablet}
use Rattle.mako_names.specs.Tables.{entry_of, phase_of}
use Rattle.mako_phases.specs.Marked.{IsMarked}
use Rattle.mako_phases.specs.Facets.{Part, rooting, choosing, evacuating, TabletStage, ServerStage, clearing, Admission}
use Rattle.mako_phases.specs.Facets.{PhaseFacet, mutating, serving, collecting, phase_during, cycle_during, IsRestful}
use Rattle.mako_phases.specs.Facets.{IsNotAdmitted}
use Rattle.mako_names.specs.Uses.{IsUseSlot}
use Rattle.mako_phases.specs.Orders.{TracesIn, PhaseOrder, AreDrained, AreUnladen}

-- no slot holds a name
abbrev pub SlotsAreEmpty : Numbers → List ℕ → Type 0
SlotsAreEmpty n words = (p : Place) → IsUseSlot p → Within n p → word_at n words p ≡ 0

-- outside of tracing no slot holds a name, and no server has anything to work on
abbrev pub NamesRest : Type 0
NamesRest = (n : Numbers) (words : List ℕ) (facets : List PhaseFacet) (o : PhaseOrder n words facets) → IsRestful o.part
    → SlotsAreEmpty n words × AreUnladen facets

-- the phase is that of the collector's part
abbrev pub PhasesAreOfParts : Type 0
PhasesAreOfParts = (n : Numbers) (words : List ℕ) (facets : List PhaseFacet) → PhaseOrder n words facets
    → (seat : ℕ) (part : Part) (pending : List Name) → slice_get facets seat ≡ Some (collecting part pending)
    → phase_of n words ≡ phase_during part

-- no entry has the epoch of a cycle to come
abbrev pub EpochsAreNotAhead : Type 0
EpochsAreNotAhead = (n : Numbers) (words : List ℕ) (facets : List PhaseFacet) → PhaseOrder n words facets
    → (e : ℕ) → Within n (entry e) → (entry_of n words e).epoch ≤ cycle_of (phase_of n words)

-- outside evacuation and the choice no tablet is leaving
abbrev pub IsStaying : Part → Type 0
IsStaying (choosing cycle left) = ⊥
IsStaying (evacuating cycle ended) = ⊥
IsStaying part = Unit {0}

abbrev pub TabletsStay : Type 0
TabletsStay = (n : Numbers) (words : List ℕ) (facets : List PhaseFacet) (o : PhaseOrder n words facets)
    → IsStaying o.part → (t : ℕ) → Within n (leaving t) → word_at n words (leaving t) ≡ 0

-- while the collector chooses, a tablet whose `leaving` is still to be stored is not leaving
abbrev pub WaitingAreNotLeaving : Type 0
WaitingAreNotLeaving = (n : Numbers) (words : List ℕ) (facets : List PhaseFacet) → PhaseOrder n words facets
    → (seat cycle : ℕ) (left : List ℕ) (pending : List Name)
    → slice_get facets seat ≡ Some (collecting (choosing cycle left) pending)
    → (t : ℕ) → Within n (leaving t) → (¬ Contains left t) → word_at n words (leaving t) ≡ 0

-- and no mutator is admitted, and no server has anything to work on or is at a tablet: so nobody but the collector
-- stores a top or a live word
pub record IsStill (facets : List PhaseFacet) (cycle : ℕ) : Type 0 where
  pub mutators : (seat : ℕ) (admission : Admission) → slice_get facets seat ≡ Some (mutating admission)
      → IsNotAdmitted admission
  pub servers : (seat s : ℕ) (stage : ServerStage) (ended : ℕ) (laden : Bool)
      → slice_get facets seat ≡ Some (serving s stage ended laden) → TracesIn cycle stage × (laden ≡ false)

abbrev pub ChoosingIsStill : Type 0
ChoosingIsStill = (n : Numbers) (words : List ℕ) (facets : List PhaseFacet) → PhaseOrder n words facets
    → AreDrained facets → (seat cycle : ℕ) (left : List ℕ) (pending : List Name)
    → slice_get facets seat ≡ Some (collecting (choosing cycle left) pending) → IsStill facets cycle

-- a server is at a tablet only in evacuation: so no tablet's gate is shut elsewhere
abbrev pub TabletsAreClearedInEvac : Type 0
TabletsAreClearedInEvac = (n : Numbers) (words : List ℕ) (facets : List PhaseFacet) → PhaseOrder n words facets
    → (seat s d t : ℕ) (at : TabletStage) (ended : ℕ) (laden : Bool)
    → slice_get facets seat ≡ Some (serving s (clearing d t at) ended laden) → phase_of n words ≡ Evac d

-- where Trace is about to be stored, all is ready for the snapshot of the next cycle
pub record IsReadyForSnapshot (n : Numbers) (words : List ℕ) (facets : List PhaseFacet) (cycle : ℕ)
    (pending : List Name) : Type 0 where
  pub slots : SlotsAreEmpty n words
  pub unladen : AreUnladen facets
  pub unmarked : (x : Name) → ¬ IsMarked n words (cycle + 1) x
  pub roots : (x : Name) (m q : ℕ) → Within n (root m q) → value_at (word_at n words (root m q)) ≡ Ref x
      → Contains pending x
  pub pends : (x : Name) → Contains pending x
      → (m : ℕ) × (q : ℕ) × Within n (root m q) × (value_at (word_at n words (root m q)) ≡ Ref x)

abbrev pub SnapshotsAreReady : Type 0
SnapshotsAreReady = (n : Numbers) (words : List ℕ) (facets : List PhaseFacet) → PhaseOrder n words facets
    → (seat cycle : ℕ) (pending : List Name)
    → slice_get facets seat ≡ Some (collecting (rooting cycle (n.mutators * n.roots)) pending)
    → IsReadyForSnapshot n words facets cycle pending

-- where Idle is about to be stored, each server has ended the cycle
abbrev pub CyclesEndLast : Type 0
CyclesEndLast = (n : Numbers) (words : List ℕ) (facets : List PhaseFacet) → PhaseOrder n words facets
    → (seat cycle : ℕ) (pending : List Name)
    → slice_get facets seat ≡ Some (collecting (evacuating cycle n.servers) pending)
    → (other s : ℕ) (stage : ServerStage) (ended : ℕ) (laden : Bool)
    → slice_get facets other ≡ Some (serving s stage ended laden) → ended ≡ cycle

-- a server that has ended the present cycle has no tablet that is leaving
abbrev pub EndedHaveNoLeaving : Type 0
EndedHaveNoLeaving = (n : Numbers) (words : List ℕ) (facets : List PhaseFacet) (o : PhaseOrder n words facets)
    → (seat s : ℕ) (stage : ServerStage) (laden : Bool)
    → slice_get facets seat ≡ Some (serving s stage (cycle_during o.part) laden) → (t : ℕ) → Within n (leaving t)
    → server_of_tablet n t ≡ s → word_at n words (leaving t) ≡ 0
