-- What the groups of the invariant read of a server, and the scene in which its seat has these facets.
use Rattle.std.specs.Prelude.{ℕ, ◌≡◌, ◌+◌, ◌==◌, ◌||◌, if◌then◌else◌, Bool, true, false, List, slice_get, slice_set}
use Rattle.std.specs.Prelude.{Option, Some, None}
use Rattle.mako_words.specs.declared.name.Name.{Name}
use Rattle.mako_gate.specs.Standings.{Watch, rests, GateFacet, shutter_at}
use Rattle.mako_ring.specs.Facets as rings
use Rattle.mako_ring.specs.Facets.{Doing, resting, sending, storing, taking, clearing}
use Rattle.mako_ring.specs.TraceFacets as trace
use Rattle.mako_ring.specs.TraceFacets.{TraceFacet}
use Rattle.mako_ring.specs.TracerFacets.{work_of, serving_of}
use Rattle.mako_ring.specs.Tracing.{TracerView}
use Rattle.mako_ring.specs.declared.tracing.MarkStage.{MarkStage}
use Rattle.mako_ring.specs.declared.tracing.MarkStage.TheVariants.{Considering, Measuring, Marking as EntryMark}
use Rattle.mako_ring.specs.declared.tracing.MarkStage.TheVariants.{Counting}
use Rattle.mako_ring.specs.declared.tracing.TraceStage.{TraceStage}
use Rattle.mako_ring.specs.declared.tracing.TraceStage.TheVariants.{Sending, Scanning, Receiving, Marking, Resting}
use Rattle.mako_ring.specs.declared.tracing.TraceStage.TheVariants.{Ended as AtEnd}
use Rattle.mako_layout.specs.Facets.{Work, idle}
use Rattle.mako_phases.specs.Facets as order
use Rattle.mako_phases.specs.Facets.{PhaseFacet}
use Rattle.mako_phases.specs.Lives.{LiveFacet, counting}
use Rattle.mako_joint.specs.Joints.{JointScene}
use Rattle.mako_server.specs.declared.stage.ServerStage.{ServerStage}
use Rattle.mako_server.specs.declared.stage.ServerStage.TheVariants.{Turning, Tracing, Evacuating, Ended}
use Rattle.mako_server.specs.Serving.{Serving}
use Rattle.mako_clearing.specs.ClearingFacets.{clearing_phase, clearing_gate, clearing_work}

-- ---- by its stage

-- what it has to trace
abbrev pub server_trace : Serving → TraceFacet
server_trace v = trace.serving (work_of v.tracer)

-- what rings, flags and polls read of it
abbrev pub server_serving : Serving → rings.ServerFacet
server_serving v = serving_of v.tracer

-- a slot's word is on its way into its hand
abbrev pub is_taking : Doing → Bool
is_taking resting = false
is_taking (sending receiver) = false
is_taking (storing receiver) = false
is_taking (taking source word) = true
is_taking (clearing source word) = true

-- it has a name, an entry, a scan or a slot's word to work on
abbrev pub is_laden : rings.ServerFacet → Bool
is_laden f = f.working || is_taking f.doing

abbrev pub tracer_laden : TracerView → Bool
tracer_laden t = is_laden (serving_of t)

-- where it stands in the order of the phases
abbrev pub stage_order : TracerView → ServerStage → order.ServerStage
stage_order t Turning = order.resting
stage_order t Tracing = order.working t.cycle
stage_order t (Evacuating e) = clearing_phase e
stage_order t Ended = order.gone

abbrev pub server_phase : Serving → PhaseFacet
server_phase v = order.serving v.tracer.server (stage_order v.tracer v.stage) v.ended (tracer_laden v.tracer)

-- the gate that it keeps shut
abbrev pub stage_watch : ServerStage → Watch
stage_watch Turning = rests
stage_watch Tracing = rests
stage_watch (Evacuating e) = clearing_gate e
stage_watch Ended = rests

abbrev pub server_gate : ℕ → Serving → GateFacet
server_gate seat v = shutter_at seat (stage_watch v.stage)

-- what it holds of a record
abbrev pub stage_work : ServerStage → Work
stage_work Turning = idle
stage_work Tracing = idle
stage_work (Evacuating e) = clearing_work e
stage_work Ended = idle

abbrev pub server_work : Serving → Work
server_work v = stage_work v.stage

-- a name that it marked and has not counted yet, with the words of its record
abbrev pub mark_owed : MarkStage → Option (Name × ℕ)
mark_owed (Considering x) = None
mark_owed (Measuring x e) = None
mark_owed (EntryMark x e fields) = None
mark_owed (Counting x fields) = Some (x, fields + 1)

abbrev pub tracer_owed : TraceStage → Option (Name × ℕ)
tracer_owed (Sending stage) = None
tracer_owed (Scanning stage) = None
tracer_owed (Receiving stage) = None
tracer_owed (Marking stage) = mark_owed stage
tracer_owed (Resting stage) = None
tracer_owed AtEnd = None

abbrev pub server_live : Serving → LiveFacet
server_live v = counting v.tracer.server v.tracer.cycle v.tracer.lives (tracer_owed v.tracer.stage)

-- ---- in a scene

-- the facets of the seat are those of the server
pub record IsServerSeat (s : JointScene) (seat : ℕ) (v : Serving) : Type 0 where
  pub trace : slice_get s.facets.trace seat ≡ Some (server_trace v)
  pub gate : slice_get s.facets.gates seat ≡ Some (server_gate seat v)
  pub work : slice_get s.facets.works seat ≡ Some (server_work v)
  pub phase : slice_get s.facets.phases seat ≡ Some (server_phase v)
  pub serving : s.facets.servers v.tracer.server ≡ server_serving v

-- the facets by server, once those of one are others
abbrev pub servers_with : (ℕ → rings.ServerFacet) → ℕ → rings.ServerFacet → ℕ → rings.ServerFacet
servers_with servers i f j = if j == i then f else servers j

-- the scene once the words are others, and the seat's facets those of this server
abbrev pub with_server : JointScene → ℕ → Serving → List ℕ → JointScene
with_server s seat v words = record {
  words = words;
  front = s.front;
  facets = record s.facets {
    trace = slice_set s.facets.trace seat (server_trace v);
    gates = slice_set s.facets.gates seat (server_gate seat v);
    works = slice_set s.facets.works seat (server_work v);
    servers = servers_with s.facets.servers v.tracer.server (server_serving v);
    phases = slice_set s.facets.phases seat (server_phase v);
  };
}
