-- What the order of the phases reads of each seat.
use Rattle.std.specs.Prelude.{ℕ, List, Bool}
use Rattle.std.specs.declared.option.Option.{Option}
use Rattle.mako_words.specs.declared.name.Name.{Name}
use Rattle.mako_words.specs.declared.phase_word.PhaseWord.{PhaseWord}
use Rattle.mako_words.specs.declared.phase_word.PhaseWord.TheVariants.{Idle, Trace, Evac, Stop}
use Rattle.mako_words.specs.Phases.{cycle_of}

-- where the collector stands
pub data Part : Type 0 where
  -- idle, also where it is about to stop
  idle : (cycle : ℕ) → Part
  -- shutting and watching the gates for the next cycle
  pausing : (cycle : ℕ) → Part
  -- loading roots, with all gates shut and drained: so many are loaded
  rooting : (cycle loaded : ℕ) → Part
  -- from the store of Trace to the completion that is told with the gates shut
  tracing : (cycle : ℕ) → Part
  -- from there to the store of Evac, with all gates shut and drained: the tablets whose `leaving` is stored
  choosing : (cycle : ℕ) (left : List ℕ) → Part
  -- from there to the store of Idle: the servers below `ended` have told that they are done
  evacuating : (cycle ended : ℕ) → Part
  -- at its end
  stopped : (cycle : ℕ) → Part

-- what a server has done of a tablet: nothing, found it leaving, shut its gate, stored its `leaving` as 0
pub data TabletStage : Type 0 where
  looking : TabletStage
  found : TabletStage
  shut : TabletStage
  cleared : TabletStage

-- where a server stands
pub data ServerStage : Type 0 where
  -- at its turn
  resting : ServerStage
  -- tracing
  working : (cycle : ℕ) → ServerStage
  -- evacuating a tablet
  clearing : (cycle tablet : ℕ) (at : TabletStage) → ServerStage
  -- past its tablets: freeing entries, and telling that it is done
  freeing : (cycle : ℕ) → ServerStage
  -- at its end
  gone : ServerStage

-- how a mutator stands to its own gate
pub data Admission : Type 0 where
  -- not admitted
  outside : Admission
  -- about to ask for a cycle, not admitted
  asking : (cycle : ℕ) → Admission
  -- admitted, with the phase that it keeps
  inside : (kept : Option PhaseWord) → Admission

-- what the order of the phases reads of a seat
pub data PhaseFacet : Type 0 where
  mutating : Admission → PhaseFacet
  -- a server with its number, its stage, the cycle that it ended last, and whether it has a name, an entry, a scan
  -- or a slot's word to work on
  serving : (server : ℕ) (stage : ServerStage) (ended : ℕ) (laden : Bool) → PhaseFacet
  -- the collector with its pending names
  collecting : (part : Part) (pending : List Name) → PhaseFacet

-- whose seat it is
pub data SeatRole : Type 0 where
  mutator : SeatRole
  server : ℕ → SeatRole
  collector : SeatRole

abbrev pub role_of : PhaseFacet → SeatRole
role_of (mutating admission) = mutator
role_of (serving s stage ended laden) = server s
role_of (collecting part pending) = collector

-- the phase that stands where the collector stands
abbrev pub phase_during : Part → PhaseWord
phase_during (idle cycle) = Idle cycle
phase_during (pausing cycle) = Idle cycle
phase_during (rooting cycle loaded) = Idle cycle
phase_during (tracing cycle) = Trace cycle
phase_during (choosing cycle left) = Trace cycle
phase_during (evacuating cycle ended) = Evac cycle
phase_during (stopped cycle) = Stop cycle

-- and its cycle
abbrev pub cycle_during : Part → ℕ
cycle_during part = cycle_of (phase_during part)

-- no names are on their way: everywhere but in tracing
abbrev pub IsRestful : Part → Type 0
IsRestful (tracing cycle) = ⊥
IsRestful part = Unit {0}

-- all mutator gates are shut and drained
abbrev pub IsInPause : Part → Type 0
IsInPause (rooting cycle loaded) = Unit {0}
IsInPause (choosing cycle left) = Unit {0}
IsInPause part = ⊥

-- not admitted
abbrev pub IsNotAdmitted : Admission → Type 0
IsNotAdmitted (inside kept) = ⊥
IsNotAdmitted admission = Unit {0}
