-- The step of the collector among all seats that finishes a cycle.
use Rattle.std.specs.Prelude.{ℕ, ◌≡◌, List, slice_get, slice_set, Some}
use Rattle.mako_shape.specs.declared.numbers.Numbers.{Numbers}
use Rattle.mako_step.specs.Machines.{CanStep}
use Rattle.mako_model.specs.Legal.{Facts}
use Rattle.mako_joint.specs.Joints.{JointScene}
use Rattle.mako_pause.specs.Collecting.{Holdings, next_of, Fits}
use Rattle.mako_pause.specs.declared.stage.NoticeStage.TheVariants.{StoringIdle}
use Rattle.mako_seat.specs.declared.seat.Seat.{Seat}
use Rattle.mako_seat.specs.declared.seat.Seat.TheVariants.{Collector}
use Rattle.mako_clearing.specs.Hearing.{noticing, words_next, hears_next, with_finish}
use Rattle.mako_sitting.specs.Seats.{AllSit}
use Rattle.mako_sitting_collector.specs.CollectorHears.{ReadAreHeard, GivenAreNext}

-- Its act can step, and all seats sit in the scene with the finished cycle, where no cycle runs and these are spare.
pub record FinishesOn (n : Numbers) (w : Facts) (s : JointScene) (seats : List Seat) (i : ℕ) (k : Holdings) :
    Type 0 where
  pub can : CanStep (next_of (noticing k StoringIdle)) s.words (Fits (noticing k StoringIdle))
  pub spare : List ℕ
  pub all : AllSit n w (with_finish n s (words_next k StoringIdle s.words) k spare s.facets.names.collector)
      (slice_set seats i (Collector (hears_next k StoringIdle s.words)))

-- so it is with the store of Idle
abbrev pub FinishKeepsAll : Type 0
FinishKeepsAll = (n : Numbers) (w : Facts) (s : JointScene) (seats : List Seat) (i : ℕ) (k : Holdings)
    → AllSit n w s seats → slice_get seats i ≡ Some (Collector (noticing k StoringIdle)) → ReadAreHeard s
    → GivenAreNext n w s k → FinishesOn n w s seats i k
