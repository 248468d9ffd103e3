-- All seats over runs of a core: what each step of a seat keeps, and what stands after any steps of any seats.
use Rattle.std.specs.Prelude.{ℕ, ◌≡◌, List, slice_get, slice_set, Some}
use Rattle.mako_shape.specs.declared.numbers.Numbers.{Numbers}
use Rattle.mako_step.specs.Acts.{finds, words_stepped}
use Rattle.mako_model.specs.Legal.{Facts}
use Rattle.mako_mutator.specs.Drivers.{Driving}
use Rattle.mako_server.specs.Serving.{Serving}
use Rattle.mako_pause.specs.Collecting.{Collecting, Holdings, at, next_of, event_of, Fits}
use Rattle.mako_pause.specs.declared.stage.IdleStage.TheVariants.{StoringStop}
use Rattle.mako_pause.specs.declared.stage.PauseStage.TheVariants.{StoringTrace}
use Rattle.mako_pause.specs.declared.stage.ChoiceStage.{ChoiceStage}
use Rattle.mako_pause.specs.declared.stage.ChoiceStage.TheVariants.{StoringEvac}
use Rattle.mako_pause.specs.declared.stage.CollectStage.{CollectStage}
use Rattle.mako_pause.specs.declared.stage.CollectStage.TheVariants.{Idle, Pausing, Polling, Choosing}
use Rattle.mako_collecting.specs.Roles.{HasSpare}
use Rattle.mako_collecting.specs.Steps.{collector_next}
use Rattle.mako_seat.specs.declared.seat.Seat.{Seat}
use Rattle.mako_seat.specs.declared.seat.Seat.TheVariants.{Mutator, Server, Collector}
use Rattle.mako_state.specs.CoreStates.{CoreState, front_after, step_of}
use Rattle.mako_joint.specs.Joints.{JointFacets, JointScene}
use Rattle.mako_sitting.specs.Seats.{AllSit}
use Rattle.mako_sitting_collector.specs.CollectorSteps.{IsLook}
use Rattle.mako_sitting_collector.specs.CollectorRounds.{IsRoundStore}
use Rattle.mako_sitting_collector.specs.CollectorChoices.{IsOfChoice}
use Rattle.mako_sitting_collector.specs.CollectorGates.{IsGateStore}
use Rattle.mako_sitting_collector.specs.CollectorSnaps.{SeatsAreAll}

-- ---- states

-- the scene of a state with these facets
abbrev pub scene_in : CoreState → JointFacets → JointScene
scene_in st facets = record { words = st.words; front = st.front; facets = facets }

-- there are facets with which all seats sit, and none behind those of the seats
pub record SeatsSit (n : Numbers) (w : Facts) (st : CoreState) : Type 0 where
  pub facets : JointFacets
  pub all : AllSit n w (scene_in st facets) st.seats
  pub only : SeatsAreAll n (scene_in st facets)

-- ---- steps of mutators and servers

-- so it is after the step of a mutator, which at its end changes nothing
abbrev pub MutatorRuns : Type 0
MutatorRuns = (n : Numbers) (w : Facts) (st : CoreState) (m : ℕ) (d : Driving) → SeatsSit n w st
    → slice_get st.seats m ≡ Some (Mutator d) → SeatsSit n w (step_of st m)

-- and after the step of a server
abbrev pub ServerRuns : Type 0
ServerRuns = (n : Numbers) (w : Facts) (st : CoreState) (i : ℕ) (v : Serving) → SeatsSit n w st
    → slice_get st.seats i ≡ Some (Server v) → SeatsSit n w (step_of st i)

-- ---- steps of the collector

-- The scene after its step has the words after its act and the front after its event, and all seats sit there with the
-- collector after it.
pub record CollectorCame (n : Numbers) (w : Facts) (s : JointScene) (seats : List Seat) (i : ℕ) (c : Collecting) :
    Type 0 where
  pub after : JointScene
  pub words : after.words ≡ words_stepped (next_of c) s.words
  pub front : after.front ≡ front_after s.front c.kept.freed (event_of c (finds (next_of c) s.words))
  pub all : AllSit n w after (slice_set seats i (Collector (collector_next c s.words)))
  pub only : SeatsAreAll n after

-- then so it is
abbrev pub CollectorRuns : Type 0
CollectorRuns = (n : Numbers) (w : Facts) (st : CoreState) (i : ℕ) (c : Collecting)
    → (sits : SeatsSit n w st) → slice_get st.seats i ≡ Some (Collector c)
    → CollectorCame n w (scene_in st sits.facets) st.seats i c → SeatsSit n w (step_of st i)

-- the collector is at this stage, and what its act finds is what it can go on with
pub record CollectorIsAt (st : CoreState) (i : ℕ) (k : Holdings) (stage : CollectStage) : Type 0 where
  pub here : slice_get st.seats i ≡ Some (Collector (at k stage))
  pub fits : Fits (at k stage) (finds (next_of (at k stage)) st.words)

-- so it is after each of its looks
abbrev pub LookRuns : Type 0
LookRuns = (n : Numbers) (w : Facts) (st : CoreState) (i : ℕ) (k : Holdings) (stage : CollectStage) → IsLook stage
    → SeatsSit n w st → CollectorIsAt st i k stage → SeatsSit n w (step_of st i)

-- after its stores of a pending name, and where it empties a barrier slot
abbrev pub RoundStoreRuns : Type 0
RoundStoreRuns = (n : Numbers) (w : Facts) (st : CoreState) (i : ℕ) (k : Holdings) (stage : CollectStage)
    → IsRoundStore stage → SeatsSit n w st → CollectorIsAt st i k stage → SeatsSit n w (step_of st i)

-- after each step of its poll
abbrev pub PollRuns : Type 0
PollRuns = (n : Numbers) (w : Facts) (st : CoreState) (i : ℕ) (k : Holdings) → SeatsSit n w st
    → CollectorIsAt st i k Polling → SeatsSit n w (step_of st i)

-- after each step of the choice up to the store of Evac, where there is a spare region left for a home that it loads
abbrev pub ChoiceRuns : Type 0
ChoiceRuns = (n : Numbers) (w : Facts) (st : CoreState) (i : ℕ) (k : Holdings) (stage : ChoiceStage)
    → IsOfChoice stage → HasSpare k stage → SeatsSit n w st → CollectorIsAt st i k (Choosing stage)
    → SeatsSit n w (step_of st i)

-- after each store at a gate
abbrev pub GateRuns : Type 0
GateRuns = (n : Numbers) (w : Facts) (st : CoreState) (i : ℕ) (k : Holdings) (stage : CollectStage) → IsGateStore stage
    → SeatsSit n w st → slice_get st.seats i ≡ Some (Collector (at k stage)) → SeatsSit n w (step_of st i)

-- after the store of Stop
abbrev pub StopRuns : Type 0
StopRuns = (n : Numbers) (w : Facts) (st : CoreState) (i : ℕ) (k : Holdings) → SeatsSit n w st
    → slice_get st.seats i ≡ Some (Collector (at k (Idle StoringStop))) → SeatsSit n w (step_of st i)

-- after the store of Trace, with the snapshot
abbrev pub SnapshotRuns : Type 0
SnapshotRuns = (n : Numbers) (w : Facts) (st : CoreState) (i : ℕ) (k : Holdings) → SeatsSit n w st
    → slice_get st.seats i ≡ Some (Collector (at k (Pausing StoringTrace))) → SeatsSit n w (step_of st i)

-- and after the store of Evac
abbrev pub EvacRuns : Type 0
EvacRuns = (n : Numbers) (w : Facts) (st : CoreState) (i : ℕ) (k : Holdings) → SeatsSit n w st
    → slice_get st.seats i ≡ Some (Collector (at k (Choosing StoringEvac))) → SeatsSit n w (step_of st i)
