-- The collector among all seats found each home as it stored it: at the start, and past each step of each seat.
use Rattle.std.specs.Prelude.{ℕ, ◌≡◌, List, slice_get, slice_set, Some}
use Rattle.mako_words.specs.declared.name.Name.{Name}
use Rattle.mako_shape.specs.declared.numbers.Numbers.{Numbers}
use Rattle.mako_step.specs.Acts.{finds}
use Rattle.mako_model.specs.Legal.{Facts}
use Rattle.mako_joint.specs.Joints.{JointScene}
use Rattle.mako_script.specs.Scripts.{ScriptView, IsProper}
use Rattle.mako_mutator.specs.Drivers.{Driving}
use Rattle.mako_server.specs.Serving.{Serving}
use Rattle.mako_pause.specs.Collecting.{Collecting, Holdings, at, next_of, Fits}
use Rattle.mako_pause.specs.declared.stage.ChoiceStage.{ChoiceStage}
use Rattle.mako_pause.specs.declared.stage.CollectStage.TheVariants.{Choosing}
use Rattle.mako_seat.specs.declared.seat.Seat.{Seat}
use Rattle.mako_seat.specs.declared.seat.Seat.TheVariants.{Mutator, Server, Collector}
use Rattle.mako_state.specs.Openings.{opening_seats}
use Rattle.mako_mutating.specs.Mutators.{stepped}
use Rattle.mako_tracing.specs.Laws.{server_next}
use Rattle.mako_collecting.specs.Roles.{HasSpare}
use Rattle.mako_collecting.specs.Steps.{words_next, collector_next}
use Rattle.mako_sitting_collector.specs.CollectorHoused.{IsHoused}
use Rattle.mako_sitting_mutators.specs.MutatorSteps.{mutator_next}
use Rattle.mako_sitting.specs.Openings.{opening_scene}
use Rattle.mako_sitting.specs.Seats.{AllSit}
use Rattle.mako_sitting_servers.specs.ServerSteps.{server_stepped}

-- nothing is asked of the other seats
abbrev pub SeatIsHoused : Numbers → List ℕ → Seat → Type 0
SeatIsHoused n words (Mutator d) = Unit {0}
SeatIsHoused n words (Server v) = Unit {0}
SeatIsHoused n words (Collector c) = IsHoused n words c

abbrev pub AllHoused : Numbers → List ℕ → List Seat → Type 0
AllHoused n words seats = (i : ℕ) (v : Seat) → slice_get seats i ≡ Some v → SeatIsHoused n words v

-- before the first step of any script
abbrev pub OpeningsAreHoused : Type 0
OpeningsAreHoused = (s : ScriptView) → IsProper s → AllHoused s.numbers (opening_scene s).words (opening_seats s)

-- after each step of a mutator
abbrev pub MutatorsLeaveHoused : Type 0
MutatorsLeaveHoused = (n : Numbers) (w : Facts) (s : JointScene) (seats : List Seat) (m : ℕ) (d : Driving)
    → AllSit n w s seats → slice_get seats m ≡ Some (Mutator d) → AllHoused n s.words seats
    → AllHoused n (stepped s m d).words (slice_set seats m (Mutator (mutator_next s d)))

-- of a server
abbrev pub ServersLeaveHoused : Type 0
ServersLeaveHoused = (n : Numbers) (w : Facts) (s : JointScene) (seats : List Seat) (i : ℕ) (v : Serving)
    (sent : List Name) → AllSit n w s seats → slice_get seats i ≡ Some (Server v) → AllHoused n s.words seats
    → AllHoused n (server_stepped n s i v sent).words (slice_set seats i (Server (server_next v s.words)))

-- and of the collector, at every stage: all of its scenes have these words
abbrev pub CollectorsStayHoused : Type 0
CollectorsStayHoused = (n : Numbers) (w : Facts) (s : JointScene) (seats : List Seat) (i : ℕ) (c : Collecting)
    → AllSit n w s seats → slice_get seats i ≡ Some (Collector c) → Fits c (finds (next_of c) s.words)
    → AllHoused n s.words seats
    → AllHoused n (words_next c s.words) (slice_set seats i (Collector (collector_next c s.words)))

-- then there is a spare region for each home that it loads
abbrev pub AllHousedHaveSpares : Type 0
AllHousedHaveSpares = (n : Numbers) (words : List ℕ) (seats : List Seat) (i : ℕ) (k : Holdings) (stage : ChoiceStage)
    → AllHoused n words seats → slice_get seats i ≡ Some (Collector (at k (Choosing stage))) → HasSpare k stage
