-- The steps of the collector among all seats: those of the choice of tablets, up to the store of Evac.
use Rattle.std.specs.Prelude.{ℕ, ◌≡◌, ◌+◌, List, length, slice_get, slice_set, Some}
use Rattle.mako_shape.specs.declared.numbers.Numbers.{Numbers}
use Rattle.mako_step.specs.Acts.{finds}
use Rattle.mako_model.specs.Legal.{Facts}
use Rattle.mako_layout.specs.Facets.{Gift, Choice}
use Rattle.mako_joint.specs.Joints.{JointScene}
use Rattle.mako_pause.specs.Collecting.{Collecting, Holdings, at, next_of, Fits}
use Rattle.mako_pause.specs.declared.stage.ChoiceStage.{ChoiceStage}
use Rattle.mako_pause.specs.declared.stage.ChoiceStage.TheVariants.{StoringEvac, Opening as Reopening}
use Rattle.mako_pause.specs.declared.stage.CollectStage.TheVariants.{Choosing}
use Rattle.mako_seat.specs.declared.seat.Seat.{Seat}
use Rattle.mako_seat.specs.declared.seat.Seat.TheVariants.{Collector}
use Rattle.mako_collecting.specs.Roles.{ChoiceOf, HasSpare}
use Rattle.mako_collecting.specs.Steps.{with_collector, collector_next, chosen}
use Rattle.mako_sitting.specs.Seats.{AllSit}

-- the stages that store no phase, and open no gate
abbrev pub IsOfChoice : ChoiceStage → Type 0
IsOfChoice StoringEvac = ⊥
IsOfChoice (Reopening m) = ⊥
IsOfChoice stage = Unit {0}

-- After such a step all seats sit, with the choice of the stage after it. Where a home is loaded, the server of the
-- tablet has to have a spare region left.
abbrev pub ChoicesKeepAll : Type 0
ChoicesKeepAll = (n : Numbers) (w : Facts) (s : JointScene) (seats : List Seat) (i : ℕ) (k : Holdings)
    (stage : ChoiceStage) → IsOfChoice stage → AllSit n w s seats
    → slice_get seats i ≡ Some (Collector (at k (Choosing stage)))
    → Fits (at k (Choosing stage)) (finds (next_of (at k (Choosing stage))) s.words) → HasSpare k stage
    → (given : List Gift) (spare : List ℕ) → ChoiceOf n s.words s.facets.choice k (Choosing stage) given spare
    → AllSit n w (chosen n s k stage given spare)
    (slice_set seats i (Collector (collector_next (at k (Choosing stage)) s.words)))

-- ---- the store of Evac

-- there is a facet of tracing for each seat, and no other
abbrev pub TracesAreOfSeats : Numbers → JointScene → Type 0
TracesAreOfSeats n s = length s.facets.trace ≡ n.mutators + n.servers + 1

-- all seats sit after it too, with live counts that are past from then on
abbrev pub EvacKeepsAll : Type 0
EvacKeepsAll = (n : Numbers) (w : Facts) (s : JointScene) (seats : List Seat) (i : ℕ) (k : Holdings)
    → AllSit n w s seats → slice_get seats i ≡ Some (Collector (at k (Choosing StoringEvac)))
    → TracesAreOfSeats n s → (given : List Gift) (spare : List ℕ)
    → ChoiceOf n s.words s.facets.choice k (Choosing StoringEvac) given spare
    → AllSit n w (chosen n s k StoringEvac given spare)
    (slice_set seats i (Collector (collector_next (at k (Choosing StoringEvac)) s.words)))

-- each step of the collector leaves it so
abbrev pub TracesStayOfSeats : Type 0
TracesStayOfSeats = (n : Numbers) (s : JointScene) (words : List ℕ) (choice : Choice) (c : Collecting)
    → TracesAreOfSeats n s → TracesAreOfSeats n (with_collector n s words choice c)
