-- Barrier slots over the steps of all seats: from the start of a script on each has a name or nothing.
use Rattle.std.specs.Prelude.{ℕ, ◌≡◌, List, slice_get, Some}
use Rattle.mako_words.specs.declared.name.Name.{Name}
use Rattle.mako_shape.specs.declared.numbers.Numbers.{Numbers}
use Rattle.mako_step.specs.Machines.{IsAct}
use Rattle.mako_model.specs.Legal.{Facts}
use Rattle.mako_script.specs.Scripts.{ScriptView, IsProper}
use Rattle.mako_joint.specs.Joints.{JointScene}
use Rattle.mako_mutator.specs.Drivers as drivers
use Rattle.mako_mutator.specs.Drivers.{Driving}
use Rattle.mako_server.specs.Serving.{Serving}
use Rattle.mako_pause.specs.Collecting.{Collecting}
use Rattle.mako_seat.specs.declared.seat.Seat.{Seat}
use Rattle.mako_seat.specs.declared.seat.Seat.TheVariants.{Mutator, Server, Collector}
use Rattle.mako_state.specs.CoreStates.{CoreState, step_of}
use Rattle.mako_mutating.specs.Mutators.{stepped}
use Rattle.mako_collecting.specs.Steps.{words_next}
use Rattle.mako_whole.specs.AllRuns.{SeatsSit}
use Rattle.mako_sitting_collector.specs.CollectorGoing.{BarriersHold}
use Rattle.mako_sitting.specs.Openings.{opening_scene}
use Rattle.mako_sitting.specs.Seats.{AllSit}
use Rattle.mako_sitting_servers.specs.ServerSteps.{server_stepped}

-- before the first step of a script
abbrev pub OpeningsHoldBarriers : Type 0
OpeningsHoldBarriers = (s : ScriptView) → IsProper s → BarriersHold s.numbers (opening_scene s).words

-- after each step of a mutator, which stores a name into its barrier slot or leaves all of them
abbrev pub MutatorsHoldBarriers : Type 0
MutatorsHoldBarriers = (n : Numbers) (w : Facts) (s : JointScene) (seats : List Seat) (m : ℕ) (d : Driving)
    → AllSit n w s seats → slice_get seats m ≡ Some (Mutator d) → IsAct (drivers.next_of d)
    → BarriersHold n s.words → BarriersHold n (stepped s m d).words

-- after each step of a server, which leaves them
abbrev pub ServersHoldBarriers : Type 0
ServersHoldBarriers = (n : Numbers) (w : Facts) (s : JointScene) (seats : List Seat) (i : ℕ) (v : Serving)
    (sent : List Name) → AllSit n w s seats → slice_get seats i ≡ Some (Server v)
    → BarriersHold n s.words → BarriersHold n (server_stepped n s i v sent).words

-- and after each step of the collector, which leaves or empties them: in any scene with the words after its act
abbrev pub CollectorsHoldBarriers : Type 0
CollectorsHoldBarriers = (n : Numbers) (w : Facts) (s after : JointScene) (seats : List Seat) (i : ℕ)
    (c : Collecting) → AllSit n w s seats → slice_get seats i ≡ Some (Collector c)
    → after.words ≡ words_next c s.words → BarriersHold n s.words → BarriersHold n after.words

-- ---- states

-- so it is after any step of any seat of a state in which all seats sit, and after a step that there is not
abbrev pub StepsHoldBarriers : Type 0
StepsHoldBarriers = (n : Numbers) (w : Facts) (st : CoreState) (i : ℕ) → SeatsSit n w st → BarriersHold n st.words
    → BarriersHold n (step_of st i).words
