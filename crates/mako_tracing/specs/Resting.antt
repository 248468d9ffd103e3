-- What follows from the facets of a server being of one machine, and what is kept beside the steps of others.
use Rattle.std.specs.Prelude.{◌≡◌, ◌<◌, false, List, ◌++◌}
use Rattle.mako_shape.specs.declared.numbers.Numbers.{Numbers}
use Rattle.mako_model.specs.declared.point.Point.{Point}
use Rattle.mako_model.specs.Legal.{Facts, state_of, IsLegal}
use Rattle.mako_ring.specs.Facets.{Scene}
use Rattle.mako_ring.specs.Polling.{IsQuietScene, PollingStands}
use Rattle.mako_ring.specs.TraceFacets.{serving, IsIdle}
use Rattle.mako_ring.specs.TracerFacets.{work_of, serving_of}
use Rattle.mako_ring.specs.Tracing.{TracerView}
use Rattle.mako_ring.specs.declared.tracing.TraceStage.{TraceStage}
use Rattle.mako_tracing.specs.ServerFacets.{tracer_laden}
use Rattle.mako_tracing.specs.ServerLives.{IsMeasured}

-- a server that is not laden, as the order of the phases reads it, has nothing to trace, as tracing and polls read it
abbrev pub UnladenServersRest : Type 0
UnladenServersRest = (t : TracerView) → tracer_laden t ≡ false
    → IsIdle (serving (work_of t)) × ((serving_of t).working ≡ false)

-- in a quiet heap no server is laden
abbrev pub QuietServersAreUnladen : Type 0
QuietServersAreUnladen = (n : Numbers) (s : Scene) (t : TracerView) → PollingStands n s → IsQuietScene n s
    → t.server < n.servers → s.server t.server ≡ serving_of t → tracer_laden t ≡ false

-- a record that was measured keeps its size, whatever the history goes on with
abbrev pub MeasuredStays : Type 0
MeasuredStays = (w : Facts) (before after : List Point) → IsLegal w (before ++ after) → (stage : TraceStage)
    → IsMeasured (state_of w before) stage → IsMeasured (state_of w (before ++ after)) stage
