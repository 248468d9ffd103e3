-- What a step tells, and histories with it.
use Rattle.std.specs.Prelude.{List, [], ◌∷◌, ◌++◌}
use Rattle.mako_step.specs.declared.stepping.Stepped.{Stepped}
use Rattle.mako_step.specs.declared.stepping.Stepped.TheVariants.{Ended as StepEnded, Waiting as StepWaiting}
use Rattle.mako_step.specs.declared.stepping.Stepped.TheVariants.{Moved as StepMoved}
use Rattle.mako_model.specs.declared.event.Event.{Event}
use Rattle.mako_model.specs.declared.event.Event.TheVariants.{Nothing, Answered, Snapped, Finished}
use Rattle.mako_model.specs.declared.point.Point.{Point}
use Rattle.mako_model.specs.declared.point.Point.TheVariants.{Snap}

-- what a step tells: the event of a step that moves, and else nothing
abbrev pub told_by : Stepped Event → Event
told_by StepEnded = Nothing
told_by (StepWaiting word) = Nothing
told_by (StepMoved event) = event

-- the same step, without what it tells
abbrev pub untold : Stepped Event → Stepped (Unit {0})
untold StepEnded = StepEnded
untold (StepWaiting word) = StepWaiting word
untold (StepMoved event) = StepMoved tt

-- the answer to a call is a point, and a snapshot is one
abbrev pub history_after : List Point → Event → List Point
history_after points Nothing = points
history_after points (Answered point) = points ++ point ∷ []
history_after points (Snapped cycle) = points ++ Snap cycle ∷ []
history_after points (Finished cycle) = points
