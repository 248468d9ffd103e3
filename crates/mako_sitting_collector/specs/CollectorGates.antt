-- The steps of the collector that store a gate of a mutator, and the store of Stop.
use Rattle.std.specs.Prelude.{ℕ, ◌≡◌, List, slice_get, slice_set, Some}
use Rattle.mako_shape.specs.declared.numbers.Numbers.{Numbers}
use Rattle.mako_model.specs.Legal.{Facts}
use Rattle.mako_joint.specs.Joints.{JointScene}
use Rattle.mako_pause.specs.Collecting.{Holdings, at}
use Rattle.mako_pause.specs.declared.stage.IdleStage.TheVariants.{StoringStop}
use Rattle.mako_pause.specs.declared.stage.PauseStage.TheVariants.{Shutting, Opening}
use Rattle.mako_pause.specs.declared.stage.ChoiceStage.TheVariants.{Opening as Reopening}
use Rattle.mako_pause.specs.declared.stage.CollectStage.{CollectStage}
use Rattle.mako_pause.specs.declared.stage.CollectStage.TheVariants.{Idle, Pausing, Choosing}
use Rattle.mako_seat.specs.declared.seat.Seat.{Seat}
use Rattle.mako_seat.specs.declared.seat.Seat.TheVariants.{Collector}
use Rattle.mako_collecting.specs.Steps.{collector_next, stepped}
use Rattle.mako_sitting.specs.Seats.{AllSit}

-- it shuts a gate for a pause, or opens one after the snapshot or after the store of Evac
abbrev pub IsGateStore : CollectStage → Type 0
IsGateStore (Pausing (Shutting pause m)) = Unit {0}
IsGateStore (Pausing (Opening m)) = Unit {0}
IsGateStore (Choosing (Reopening m)) = Unit {0}
IsGateStore stage = ⊥

-- after such a store all seats sit; any word found is one that it can go on with
abbrev pub GatesKeepAll : Type 0
GatesKeepAll = (n : Numbers) (w : Facts) (s : JointScene) (seats : List Seat) (i : ℕ) (k : Holdings)
    (stage : CollectStage) → IsGateStore stage → AllSit n w s seats
    → slice_get seats i ≡ Some (Collector (at k stage))
    → AllSit n w (stepped n s (at k stage)) (slice_set seats i (Collector (collector_next (at k stage) s.words)))

-- and so they do after the store of Stop
abbrev pub StopsKeepAll : Type 0
StopsKeepAll = (n : Numbers) (w : Facts) (s : JointScene) (seats : List Seat) (i : ℕ) (k : Holdings)
    → AllSit n w s seats → slice_get seats i ≡ Some (Collector (at k (Idle StoringStop)))
    → AllSit n w (stepped n s (at k (Idle StoringStop)))
    (slice_set seats i (Collector (collector_next (at k (Idle StoringStop)) s.words)))
