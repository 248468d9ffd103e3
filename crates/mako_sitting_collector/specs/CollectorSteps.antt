-- The steps of the collector among all seats: those that leave all words.
use Rattle.std.specs.Prelude.{ℕ, ◌≡◌, List, slice_get, slice_set, Some}
use Rattle.mako_shape.specs.declared.numbers.Numbers.{Numbers}
use Rattle.mako_step.specs.Acts.{finds}
use Rattle.mako_model.specs.Legal.{Facts}
use Rattle.mako_joint.specs.Joints.{JointScene}
use Rattle.mako_pause.specs.Collecting.{Collecting, Holdings, at, next_of, Fits}
use Rattle.mako_pause.specs.declared.stage.IdleStage.{IdleStage}
use Rattle.mako_pause.specs.declared.stage.IdleStage.TheVariants.{LoadingDemand, LookingFinished, StoringStop}
use Rattle.mako_pause.specs.declared.stage.PauseStage.TheVariants.{Draining, LoadingRoot}
use Rattle.mako_pause.specs.declared.stage.ForwardStage.TheVariants.{Looking}
use Rattle.mako_pause.specs.declared.stage.BarrierStage.TheVariants.{Loading}
use Rattle.mako_pause.specs.declared.stage.CollectStage.{CollectStage}
use Rattle.mako_pause.specs.declared.stage.CollectStage.TheVariants.{Idle, Pausing, Forwarding, Barriers, Emptying}
use Rattle.mako_pause.specs.declared.stage.CollectStage.TheVariants.{Choosing}
use Rattle.mako_pause.specs.declared.stage.ChoiceStage.TheVariants.{LoadingLive, LoadingTop}
use Rattle.mako_seat.specs.declared.seat.Seat.{Seat}
use Rattle.mako_seat.specs.declared.seat.Seat.TheVariants.{Collector}
use Rattle.mako_collecting.specs.Steps.{with_collector, collector_next, stepped}
use Rattle.mako_sitting.specs.Seats.{AllSit}

-- the scene in which the collector is another, and all words are as they were
abbrev pub looked : Numbers → JointScene → Collecting → JointScene
looked n s next = with_collector n s s.words s.facets.choice next

-- where no cycle runs it looks at the demand, and at the finished word
abbrev pub IsIdleLook : IdleStage → Type 0
IsIdleLook LoadingDemand = Unit {0}
IsIdleLook LookingFinished = Unit {0}
IsIdleLook StoringStop = ⊥

-- and in a cycle at a gate that it drains, a root, the head of a work ring, a barrier slot, a work slot, and
-- where it chooses a live word and a top
abbrev pub IsLook : CollectStage → Type 0
IsLook (Idle stage) = IsIdleLook stage
IsLook (Pausing (Draining pause m)) = Unit {0}
IsLook (Pausing (LoadingRoot m q)) = Unit {0}
IsLook (Forwarding (Looking x)) = Unit {0}
IsLook (Barriers (Loading m)) = Unit {0}
IsLook (Emptying r) = Unit {0}
IsLook (Choosing (LoadingLive r place)) = Unit {0}
IsLook (Choosing (LoadingTop r place words)) = Unit {0}
IsLook stage = ⊥

-- after such a look all seats sit
abbrev pub LooksKeepAll : Type 0
LooksKeepAll = (n : Numbers) (w : Facts) (s : JointScene) (seats : List Seat) (i : ℕ) (k : Holdings)
    (stage : CollectStage) → IsLook stage → AllSit n w s seats → slice_get seats i ≡ Some (Collector (at k stage))
    → Fits (at k stage) (finds (next_of (at k stage)) s.words)
    → AllSit n w (stepped n s (at k stage)) (slice_set seats i (Collector (collector_next (at k stage) s.words)))
