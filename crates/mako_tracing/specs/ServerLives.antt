-- What a server's turn and its tracing do to live counts.
use Rattle.std.specs.Prelude.{ℕ, ◌≡◌, ◌≢◌, ◌+◌, List, ◌∷◌, ◌++◌, slice_get, slice_set, Some}
use Rattle.mako_words.specs.declared.phase_word.PhaseWord.TheVariants.{Trace}
use Rattle.mako_shape.specs.declared.numbers.Numbers.{Numbers}
use Rattle.mako_model.specs.declared.point.Point.{Point}
use Rattle.mako_model.specs.declared.point.Point.TheVariants.{Snap}
use Rattle.mako_model.specs.Heaps.{Heap}
use Rattle.mako_model.specs.Legal.{Facts, state_of}
use Rattle.mako_model.specs.Sizes.{ObjectsAreSmall}
use Rattle.mako_names.specs.Tables.{phase_of}
use Rattle.mako_ring.specs.declared.tracing.MarkStage.{MarkStage}
use Rattle.mako_ring.specs.declared.tracing.MarkStage.TheVariants.{Considering, Measuring, Marking as EntryMark}
use Rattle.mako_ring.specs.declared.tracing.MarkStage.TheVariants.{Counting}
use Rattle.mako_ring.specs.declared.tracing.TraceStage.{TraceStage}
use Rattle.mako_ring.specs.declared.tracing.TraceStage.TheVariants.{Sending, Scanning, Receiving, Marking, Resting}
use Rattle.mako_ring.specs.declared.tracing.TraceStage.TheVariants.{Ended}
use Rattle.mako_phases.specs.Lives.{LiveFacet, record_size, AreCounted}
use Rattle.mako_phases.specs.LiveSteps.{AgreeOnLives}
use Rattle.mako_joint.specs.Joints.{JointScene}
use Rattle.mako_server.specs.declared.stage.ServerStage.TheVariants.{Turning, Tracing}
use Rattle.mako_server.specs.Serving.{Serving}
use Rattle.mako_tracing.specs.Laws.{words_next, server_next, scene_next, ServerStands}
use Rattle.mako_tracing.specs.ServerFacets.{server_live}
use Rattle.mako_tracing.specs.ServerKeeps.{CountsAreLow}

-- the record of the name that is marked next was measured
abbrev pub MarkIsMeasured : Heap → MarkStage → Type 0
MarkIsMeasured h (Considering x) = Unit {0}
MarkIsMeasured h (Measuring x e) = Unit {0}
MarkIsMeasured h (EntryMark x e fields) = record_size h x ≡ fields + 1
MarkIsMeasured h (Counting x fields) = Unit {0}

abbrev pub IsMeasured : Heap → TraceStage → Type 0
IsMeasured h (Sending stage) = Unit {0}
IsMeasured h (Scanning stage) = Unit {0}
IsMeasured h (Receiving stage) = Unit {0}
IsMeasured h (Marking stage) = MarkIsMeasured h stage
IsMeasured h (Resting stage) = Unit {0}
IsMeasured h Ended = Unit {0}

-- while the cycle is traced, live counts are right, and the seat's facet of them is that of the server
pub record LivesStand (n : Numbers) (w : Facts) (s : JointScene) (lives : List LiveFacet) (before : List Point)
    (cycle seat : ℕ) (v : Serving) : Type 0 where
  pub counts : AreCounted n w s.words lives before cycle
  pub here : slice_get lives seat ≡ Some (server_live v)
  pub traced : phase_of n s.words ≡ Trace cycle
  pub after : List Point
  pub split : s.front.history ≡ before ++ Snap cycle ∷ after
  pub measured : IsMeasured (state_of w s.front.history) v.tracer.stage

-- so it is after its step
abbrev pub LivesGo : Numbers → Facts → JointScene → List LiveFacet → List Point → (cycle seat : ℕ) → Serving → Type 0
LivesGo n w s lives before cycle seat v =
    LivesStand n w (scene_next s seat v) (slice_set lives seat (server_live (server_next v s.words))) before cycle seat
    (server_next v s.words)

-- each step of its tracing
abbrev pub TracingCounts : Type 0
TracingCounts = (n : Numbers) (w : Facts) (s : JointScene) (lives : List LiveFacet) (before : List Point)
    (cycle seat : ℕ) (v : Serving) → ServerStands n w s seat v → v.stage ≡ Tracing
    → ObjectsAreSmall (state_of w s.front.history) → LivesStand n w s lives before cycle seat v
    → LivesGo n w s lives before cycle seat v

-- its turn on the phase
abbrev pub TurnsCount : Type 0
TurnsCount = (n : Numbers) (w : Facts) (s : JointScene) (lives : List LiveFacet) (before : List Point)
    (cycle seat : ℕ) (v : Serving) → ServerStands n w s seat v → v.stage ≡ Turning
    → LivesStand n w s lives before cycle seat v → LivesGo n w s lives before cycle seat v

-- where no object has many fields, its counts are far from their bound
abbrev pub CountsStayLow : Type 0
CountsStayLow = (n : Numbers) (w : Facts) (s : JointScene) (lives : List LiveFacet) (before : List Point)
    (cycle seat : ℕ) (v : Serving) → ServerStands n w s seat v → v.stage ≡ Tracing
    → LivesStand n w s lives before cycle seat v → ObjectsAreSmall (state_of w s.front.history) → CountsAreLow v.tracer

-- where no cycle is traced, its step stores no live word, and leaves what live counts read of it
pub record LivesRest (n : Numbers) (s : JointScene) (v : Serving) : Type 0 where
  pub facet : server_live (server_next v s.words) ≡ server_live v
  pub words : AgreeOnLives n s.words (words_next v s.words)

abbrev pub IsUntraced : Numbers → JointScene → Type 0
IsUntraced n s = (cycle : ℕ) → phase_of n s.words ≢ Trace cycle

abbrev pub TracingLeavesCounts : Type 0
TracingLeavesCounts = (n : Numbers) (w : Facts) (s : JointScene) (seat : ℕ) (v : Serving) → ServerStands n w s seat v
    → v.stage ≡ Tracing → ObjectsAreSmall (state_of w s.front.history) → IsUntraced n s → LivesRest n s v

abbrev pub TurnsLeaveCounts : Type 0
TurnsLeaveCounts = (n : Numbers) (w : Facts) (s : JointScene) (seat : ℕ) (v : Serving) → ServerStands n w s seat v
    → v.stage ≡ Turning → IsUntraced n s → LivesRest n s v
