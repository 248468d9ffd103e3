-- The order of the phases.
use Rattle.std.specs.Prelude.{ℕ, zero, suc, ◌≡◌, ◌≢◌, ◌+◌, ◌*◌, ◌/◌, ◌%◌, ◌<◌, ◌≤◌, ◌⊎◌, ◌↔◌, List, [], ◌∷◌, ◌++◌}
use Rattle.std.specs.Prelude.{length, map, slice_get, Some, None, Bool, false}
use Rattle.std.specs.List.{Contains}
use Rattle.std.specs.declared.option.Option.{Option}
use Rattle.mako_words.specs.declared.name.Name.{Name}
use Rattle.mako_words.specs.declared.value.Value.{Value}
use Rattle.mako_words.specs.declared.value.Value.TheVariants.{Ref}
use Rattle.mako_words.specs.declared.phase_word.PhaseWord.{PhaseWord}
use Rattle.mako_words.specs.declared.phase_word.PhaseWord.TheVariants.{Trace}
use Rattle.mako_words.specs.Phases.{phase_word, cycle_of}
use Rattle.mako_words.specs.Values.{value_at}
use Rattle.mako_shape.specs.declared.numbers.Numbers.{Numbers}
use Rattle.mako_shape.specs.Limits.{IsShape}
use Rattle.mako_shape.specs.Places.{Place, phase, demand, root, notice, leaving, entry, Within, word_at, total}
use Rattle.mako_shape.specs.Belongings.{server_of_tablet}
use Rattle.mako_names.specs.Tables.{entry_of}
use Rattle.mako_names.specs.Uses.{IsUseSlot}
use Rattle.mako_phases.specs.Facets.{Part, idle, pausing, rooting, tracing, choosing, evacuating, stopped, TabletStage}
use Rattle.mako_phases.specs.Facets.{found, shut, cleared, ServerStage, resting, working, clearing, freeing, gone}
use Rattle.mako_phases.specs.Facets.{Admission, outside, asking, inside, PhaseFacet, mutating, serving, collecting}
use Rattle.mako_phases.specs.Facets.{SeatRole, server, collector, role_of, phase_during, cycle_during, IsRestful}
use Rattle.mako_phases.specs.Facets.{IsInPause, IsNotAdmitted}

-- the numbers of the part are in range
abbrev pub BoundFits : Numbers → Part → Type 0
BoundFits n (pausing cycle) = cycle + 1 ≤ n.cycles
BoundFits n (rooting cycle loaded) = (cycle + 1 ≤ n.cycles) × (loaded ≤ n.mutators * n.roots)
BoundFits n part = cycle_during part ≤ n.cycles

-- the name that a word packs, if any
abbrev pub names_in : Value → List Name
names_in (Ref x) = x ∷ []
names_in v = []

-- the name of the i-th root word, if any
abbrev pub root_names : Numbers → List ℕ → ℕ → List Name
root_names n words i = names_in (value_at (word_at n words (root (i / n.roots) (i % n.roots))))

-- the names of the first so many root words, in order
unfoldable pub loaded_names : Numbers → List ℕ → ℕ → List Name
loaded_names n words zero = []
loaded_names n words (suc k) = loaded_names n words k ++ root_names n words k

-- names are pending while roots are loaded, exactly those loaded, and in tracing
abbrev pub PendingFits : Numbers → List ℕ → Part → List Name → Type 0
PendingFits n words (rooting cycle loaded) pending = pending ≡ loaded_names n words loaded
PendingFits n words (tracing cycle) pending = Unit {0}
PendingFits n words part pending = pending ≡ []

-- the tablet may be leaving
abbrev pub MayLeave : Part → ℕ → Type 0
MayLeave (choosing cycle left) t = Contains left t
MayLeave (evacuating cycle ended) t = Unit {0}
MayLeave part t = ⊥

-- a notice slot of the server may hold its last word of the cycle
abbrev pub MayTell : Part → ℕ → Type 0
MayTell (evacuating cycle ended) s = ended ≤ s
MayTell part s = ⊥

-- what stands in the words
pub record WordsStand (n : Numbers) (words : List ℕ) (part : Part) (pending : List Name) : Type 0 where
  pub size : length words ≡ total n
  pub phase_is : word_at n words phase ≡ phase_word (phase_during part)
  pub bound : BoundFits n part
  pub asked : word_at n words demand ≤ n.cycles
  pub slots : IsRestful part → (p : Place) → IsUseSlot p → Within n p → word_at n words p ≡ 0
  pub pends : PendingFits n words part pending
  pub leavings : (t : ℕ) → Within n (leaving t) → (word_at n words (leaving t) ≡ 0) ⊎ MayLeave part t
  pub tellers : (s slot : ℕ) → Within n (notice s slot) → word_at n words (notice s slot) ≡ 1 → MayTell part s
  pub tell_once : (s slot other : ℕ) → Within n (notice s slot) → Within n (notice s other)
      → word_at n words (notice s slot) ≡ 1 → word_at n words (notice s other) ≡ 1 → slot ≡ other
  pub epochs : (e : ℕ) → Within n (entry e) → (entry_of n words e).epoch ≤ cycle_during part

-- the phase is Trace
abbrev pub IsTracePhase : PhaseWord → Type 0
IsTracePhase (Trace cycle) = Unit {0}
IsTracePhase p = ⊥

-- a phase that an admitted view keeps has the present cycle, and is Trace exactly where it is Trace now
abbrev pub KeptFits : Part → Option PhaseWord → Type 0
KeptFits part None = Unit {0}
KeptFits part (Some p) = (cycle_of p ≡ cycle_during part) × (IsTracePhase p ↔ IsTracePhase (phase_during part))

abbrev pub AdmissionFits : Numbers → Part → Admission → Type 0
AdmissionFits n part outside = Unit {0}
AdmissionFits n part (asking k) = k ≤ n.cycles
AdmissionFits n part (inside kept) = KeptFits part kept

-- at its turn
abbrev pub IsResting : ServerStage → Type 0
IsResting resting = Unit {0}
IsResting stage = ⊥

-- at its turn or at its end
abbrev pub IsParting : ServerStage → Type 0
IsParting resting = Unit {0}
IsParting gone = Unit {0}
IsParting stage = ⊥

-- at its turn, or tracing this cycle
abbrev pub TracesIn : ℕ → ServerStage → Type 0
TracesIn cycle resting = Unit {0}
TracesIn cycle (working d) = d ≡ cycle
TracesIn cycle stage = ⊥

-- still tracing, evacuating, or at its turn before or after
abbrev pub EvacuatesIn : ℕ → ℕ → ServerStage → Type 0
EvacuatesIn cycle ended resting = (ended ≡ cycle) ⊎ (ended + 1 ≡ cycle)
EvacuatesIn cycle ended (working d) = (d ≡ cycle) × (ended + 1 ≡ cycle)
EvacuatesIn cycle ended (clearing d t at) = (d ≡ cycle) × (ended + 1 ≡ cycle)
EvacuatesIn cycle ended (freeing d) = (d ≡ cycle) × (ended + 1 ≡ cycle)
EvacuatesIn cycle ended gone = ⊥

-- the stage of a server, and the cycle that it ended last, are those of the collector's part
abbrev pub ServerFits : Part → ℕ → ServerStage → ℕ → Type 0
ServerFits (idle cycle) s stage ended = IsResting stage × (ended ≡ cycle)
ServerFits (pausing cycle) s stage ended = IsResting stage × (ended ≡ cycle)
ServerFits (rooting cycle loaded) s stage ended = IsResting stage × (ended ≡ cycle)
ServerFits (tracing cycle) s stage ended = TracesIn cycle stage × (ended + 1 ≡ cycle)
ServerFits (choosing cycle left) s stage ended = TracesIn cycle stage × (ended + 1 ≡ cycle)
ServerFits (evacuating cycle told) s stage ended = EvacuatesIn cycle ended stage × (s < told → ended ≡ cycle)
ServerFits (stopped cycle) s stage ended = IsParting stage × (ended ≡ cycle)

-- the server has passed this one of its tablets
abbrev pub TabletPassed : TabletStage → ℕ → ℕ → Type 0
TabletPassed cleared t u = u ≤ t
TabletPassed at t u = u < t

abbrev pub StagePassed : ServerStage → ℕ → Type 0
StagePassed (clearing d t at) u = TabletPassed at t u
StagePassed (freeing d) u = Unit {0}
StagePassed stage u = ⊥

abbrev pub HasPassed : ℕ → ServerStage → ℕ → ℕ → Type 0
HasPassed cycle stage ended u = (ended ≡ cycle) ⊎ StagePassed stage u

-- the server has found this tablet leaving, and not yet cleared it
abbrev pub IsAtFound : TabletStage → Type 0
IsAtFound found = Unit {0}
IsAtFound shut = Unit {0}
IsAtFound at = ⊥

abbrev pub IsAtLeaving : ServerStage → ℕ → Type 0
IsAtLeaving (clearing d t at) u = (t ≡ u) × IsAtFound at
IsAtLeaving stage u = ⊥

-- the server works on this one of its own tablets only
abbrev pub IsAtOwn : Numbers → ℕ → ServerStage → Type 0
IsAtOwn n s (clearing d t at) = (t < n.servers * n.tablets) × (server_of_tablet n t ≡ s)
IsAtOwn n s stage = Unit {0}

-- what stands at a server
pub record ServerStands (n : Numbers) (words : List ℕ) (part : Part) (s : ℕ) (stage : ServerStage) (ended : ℕ)
    (laden : Bool) : Type 0 where
  pub known : s < n.servers
  pub fits : ServerFits part s stage ended
  pub rests : IsRestful part → laden ≡ false
  pub own : IsAtOwn n s stage
  -- its tablets that it has passed are not leaving, and the one that it is at is
  pub passed : (u : ℕ) → Within n (leaving u) → server_of_tablet n u ≡ s → HasPassed (cycle_during part) stage ended u
      → word_at n words (leaving u) ≡ 0
  pub at_leaving : (u : ℕ) → IsAtLeaving stage u → word_at n words (leaving u) ≢ 0
  -- where it has told that it is done, it has ended the cycle
  pub told : (slot : ℕ) → Within n (notice s slot) → word_at n words (notice s slot) ≡ 1 → ended ≡ cycle_during part

-- what stands at a seat
abbrev pub SeatStands : Numbers → List ℕ → Part → PhaseFacet → Type 0
SeatStands n words part (mutating admission) = AdmissionFits n part admission
SeatStands n words part (serving s stage ended laden) = ServerStands n words part s stage ended laden
SeatStands n words part (collecting other pending) = Unit {0}

-- one seat of the collector, one of each server
pub record AreSeated (n : Numbers) (roles : List SeatRole) : Type 0 where
  pub collectors : (i j : ℕ) → slice_get roles i ≡ Some collector → slice_get roles j ≡ Some collector → i ≡ j
  pub servers : (s i j : ℕ) → slice_get roles i ≡ Some (server s) → slice_get roles j ≡ Some (server s) → i ≡ j
  pub present : (s : ℕ) → s < n.servers → (i : ℕ) × (slice_get roles i ≡ Some (server s))

-- the order of the phases
pub record PhaseOrder (n : Numbers) (words : List ℕ) (facets : List PhaseFacet) : Type 0 where
  pub shape : IsShape n
  -- where the collector stands
  pub seat : ℕ
  pub part : Part
  pub pending : List Name
  pub here : slice_get facets seat ≡ Some (collecting part pending)
  pub words_stand : WordsStand n words part pending
  pub each : (other : ℕ) (f : PhaseFacet) → slice_get facets other ≡ Some f → SeatStands n words part f
  pub seated : AreSeated n (map role_of facets)

-- what the gates say: where the collector has shut and drained them all, no mutator is admitted
abbrev pub AreDrained : List PhaseFacet → Type 0
AreDrained facets =
    (seat : ℕ) (part : Part) (pending : List Name) → slice_get facets seat ≡ Some (collecting part pending)
    → IsInPause part
    → (other : ℕ) (admission : Admission) → slice_get facets other ≡ Some (mutating admission) → IsNotAdmitted admission

-- no server has a name, an entry, a scan or a slot's word to work on
abbrev pub AreUnladen : List PhaseFacet → Type 0
AreUnladen facets = (seat s : ℕ) (stage : ServerStage) (ended : ℕ) (laden : Bool)
    → slice_get facets seat ≡ Some (serving s stage ended laden) → laden ≡ false
