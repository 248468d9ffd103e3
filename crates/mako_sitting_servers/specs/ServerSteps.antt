-- A server among all seats: the scene after its step, and what the step leaves to others.
use Rattle.std.specs.Prelude.{ℕ, ◌≡◌, ◌≢◌, List, slice_get, slice_set, Some}
use Rattle.mako_words.specs.declared.name.Name.{Name}
use Rattle.mako_shape.specs.declared.numbers.Numbers.{Numbers}
use Rattle.mako_step.specs.Machines.{IsAct, CanStep}
use Rattle.mako_model.specs.Legal.{Facts}
use Rattle.mako_joint.specs.Joints.{JointScene}
use Rattle.mako_server.specs.declared.stage.ServerStage.{ServerStage}
use Rattle.mako_server.specs.declared.stage.ServerStage.TheVariants.{Turning, Tracing, Evacuating, Ended}
use Rattle.mako_server.specs.Serving.{Serving, next_of, Fits}
use Rattle.mako_seat.specs.declared.seat.Seat.{Seat}
use Rattle.mako_seat.specs.declared.seat.Seat.TheVariants.{Server, Collector}
use Rattle.mako_pause.specs.Collecting.{Collecting}
use Rattle.mako_collecting.specs.Findings.{StageFound}
use Rattle.mako_tracing.specs.Laws.{server_next, scene_next}
use Rattle.mako_tracing.specs.ServerFacets.{tracer_laden}
use Rattle.mako_clearing.specs.Clearing.{evacuated}
use Rattle.mako_writes.specs.Writes.{ServerWrites, LeavesOthers}
use Rattle.mako_sitting.specs.Seats.{AllSit}

-- ---- what a step of a server leaves

-- The front is as it was, and so are the facets of all other seats, those of other servers, and all words that are not
-- the server's to write.
pub record LeavesSeats (n : Numbers) (s after : JointScene) (seat server : ℕ) : Type 0 where
  pub front : after.front ≡ s.front
  pub trace : (j : ℕ) → j ≢ seat → slice_get after.facets.trace j ≡ slice_get s.facets.trace j
  pub gates : (j : ℕ) → j ≢ seat → slice_get after.facets.gates j ≡ slice_get s.facets.gates j
  pub works : (j : ℕ) → j ≢ seat → slice_get after.facets.works j ≡ slice_get s.facets.works j
  pub phases : (j : ℕ) → j ≢ seat → slice_get after.facets.phases j ≡ slice_get s.facets.phases j
  pub held : after.facets.names.held ≡ s.facets.names.held
  pub trying : after.facets.names.trying ≡ s.facets.names.trying
  pub left : after.facets.names.left ≡ s.facets.names.left
  pub gathers : after.facets.names.collector ≡ s.facets.names.collector
  pub choice : after.facets.choice ≡ s.facets.choice
  pub rings : after.facets.collector ≡ s.facets.collector
  pub servers : (j : ℕ) → j ≢ server → after.facets.servers j ≡ s.facets.servers j
  pub through : (j : ℕ) → j ≢ server
      → slice_get after.facets.names.through j ≡ slice_get s.facets.names.through j
  pub sent : (j : ℕ) → j ≢ server → slice_get after.facets.names.sent j ≡ slice_get s.facets.names.sent j
  pub words : LeavesOthers n (ServerWrites n server) s.words after.words

-- ---- the scene after its step

-- at its turn and in its tracing, and where it evacuates, with what it has sent
abbrev pub stage_after : Numbers → JointScene → ℕ → Serving → List Name → ServerStage → JointScene
stage_after n s seat v sent Turning = scene_next s seat v
stage_after n s seat v sent Tracing = scene_next s seat v
stage_after n s seat v sent (Evacuating e) = evacuated n s e v.ended (tracer_laden v.tracer) sent
stage_after n s seat v sent Ended = s

abbrev pub server_stepped : Numbers → JointScene → ℕ → Serving → List Name → JointScene
server_stepped n s seat v sent = stage_after n s seat v sent v.stage

-- ---- the law

-- The collector's findings stand past the step.
abbrev pub FindingsStand : Numbers → JointScene → JointScene → List Seat → Type 0
FindingsStand n s after seats = (i : ℕ) (c : Collecting) → slice_get seats i ≡ Some (Collector c)
    → StageFound n s.words c.kept c.stage → StageFound n after.words c.kept c.stage

-- Its act can step, and all seats sit in the scene after it: its own is that of the server after it.
pub record ServerGoesOn (n : Numbers) (w : Facts) (s : JointScene) (seats : List Seat) (i : ℕ) (v : Serving) : Type 0
  where
    pub can : CanStep (next_of v) s.words (Fits v)
    pub sent : List Name
    pub all : AllSit n w (server_stepped n s i v sent) (slice_set seats i (Server (server_next v s.words)))

-- each step of a server keeps all seats
abbrev pub ServersKeepAll : Type 0
ServersKeepAll = (n : Numbers) (w : Facts) (s : JointScene) (seats : List Seat) (i : ℕ) (v : Serving)
    → AllSit n w s seats → slice_get seats i ≡ Some (Server v) → IsAct (next_of v) → ServerGoesOn n w s seats i v
