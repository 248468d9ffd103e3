-- The steps of the collector among all seats, while servers trace: those that store into rings, and those of the poll.
use Rattle.std.specs.Prelude.{ℕ, ◌≡◌, List, slice_get, slice_set, Some}
use Rattle.mako_shape.specs.declared.numbers.Numbers.{Numbers}
use Rattle.mako_step.specs.Acts.{finds}
use Rattle.mako_model.specs.Legal.{Facts}
use Rattle.mako_joint.specs.Joints.{JointScene}
use Rattle.mako_pause.specs.Collecting.{Holdings, at, next_of, Fits}
use Rattle.mako_pause.specs.declared.stage.ForwardStage.TheVariants.{Storing}
use Rattle.mako_pause.specs.declared.stage.BarrierStage.TheVariants.{Clearing}
use Rattle.mako_pause.specs.declared.stage.CollectStage.{CollectStage}
use Rattle.mako_pause.specs.declared.stage.CollectStage.TheVariants.{Forwarding, Barriers, Polling}
use Rattle.mako_seat.specs.declared.seat.Seat.{Seat}
use Rattle.mako_seat.specs.declared.seat.Seat.TheVariants.{Collector}
use Rattle.mako_collecting.specs.Steps.{collector_next, stepped, polled}
use Rattle.mako_sitting.specs.Seats.{AllSit}

-- it stores a pending name into a work ring, or empties the barrier slot in which it found one
abbrev pub IsRoundStore : CollectStage → Type 0
IsRoundStore (Forwarding (Storing x)) = Unit {0}
IsRoundStore (Barriers (Clearing m x)) = Unit {0}
IsRoundStore stage = ⊥

-- after such a store all seats sit
abbrev pub RoundStoresKeepAll : Type 0
RoundStoresKeepAll = (n : Numbers) (w : Facts) (s : JointScene) (seats : List Seat) (i : ℕ) (k : Holdings)
    (stage : CollectStage) → IsRoundStore stage → AllSit n w s seats
    → slice_get seats i ≡ Some (Collector (at k stage)) → Fits (at k stage) (finds (next_of (at k stage)) s.words)
    → AllSit n w (stepped n s (at k stage)) (slice_set seats i (Collector (collector_next (at k stage) s.words)))

-- and so they do after each step of the poll, also where completion is told, and where the choice begins
abbrev pub PollsKeepAll : Type 0
PollsKeepAll = (n : Numbers) (w : Facts) (s : JointScene) (seats : List Seat) (i : ℕ) (k : Holdings)
    → AllSit n w s seats → slice_get seats i ≡ Some (Collector (at k Polling))
    → Fits (at k Polling) (finds (next_of (at k Polling)) s.words)
    → AllSit n w (polled n s (at k Polling))
    (slice_set seats i (Collector (collector_next (at k Polling) s.words)))
