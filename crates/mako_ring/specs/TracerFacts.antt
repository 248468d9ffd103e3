-- What is kept of a server's tracing machine, as far as polls need it.
use Rattle.std.specs.Prelude.{ℕ, Bool, true, false, ◌≡◌, ◌≢◌, ◌<◌, ◌||◌, List, length, position, slice_index_or}
use Rattle.std.specs.Prelude.{is_some, is_none, Some, None}
use Rattle.std.specs.declared.option.Option.{Option}
use Rattle.mako_words.specs.declared.name.Name.{Name}
use Rattle.mako_shape.specs.declared.numbers.Numbers.{Numbers}
use Rattle.mako_ring.specs.Facets.{IsSource}
use Rattle.mako_ring.specs.TraceFacets.{is_filled}
use Rattle.mako_ring.specs.Tracing.{TracerView, owner, no_window, window_of, is_open, IsNamed}
use Rattle.mako_ring.specs.declared.window.Window.{Window}
use Rattle.mako_ring.specs.declared.tracing.SendStage.{SendStage}
use Rattle.mako_ring.specs.declared.tracing.SendStage.TheVariants.{HeadLook, GhostRaise, HeadStore}
use Rattle.mako_ring.specs.declared.tracing.ScanStage.{ScanStage}
use Rattle.mako_ring.specs.declared.tracing.ScanStage.TheVariants.{FieldLoad, EntryLoad, HeaderLoad}
use Rattle.mako_ring.specs.declared.tracing.ReceiveStage.{ReceiveStage}
use Rattle.mako_ring.specs.declared.tracing.ReceiveStage.TheVariants.{SlotLook, BusyRaise, SlotClear}
use Rattle.mako_ring.specs.declared.tracing.MarkStage.{MarkStage}
use Rattle.mako_ring.specs.declared.tracing.MarkStage.TheVariants.{Considering, Measuring, Marking as EntryMark}
use Rattle.mako_ring.specs.declared.tracing.MarkStage.TheVariants.{Counting}
use Rattle.mako_ring.specs.declared.tracing.RestStage.{RestStage}
use Rattle.mako_ring.specs.declared.tracing.RestStage.TheVariants.{BusyLower, TailLook, GhostLower}
use Rattle.mako_ring.specs.declared.tracing.TraceStage.{TraceStage}
use Rattle.mako_ring.specs.declared.tracing.TraceStage.TheVariants.{Sending, Scanning, Receiving, Marking, Resting}
use Rattle.mako_ring.specs.declared.tracing.TraceStage.TheVariants.{Ended}

-- anything outgoing, under a scan, or on the stack
abbrev pub holds : TracerView → Bool
holds t = is_some t.outgoing || (is_some t.scan || is_filled t.stack)

-- an outgoing name is one of another server
abbrev pub OutgoingStands : Numbers → ℕ → Option Name → Type 0
OutgoingStands n s (Some x) = (owner n x < n.servers) × (owner n x ≢ s)
OutgoingStands n s None = Unit {0}

-- what is sent is the outgoing name
abbrev pub SendStands : TracerView → SendStage → Type 0
SendStands t (HeadLook x) = t.outgoing ≡ Some x
SendStands t (GhostRaise x) = t.outgoing ≡ Some x
SendStands t (HeadStore x) = t.outgoing ≡ Some x

-- what is scanned is the scan
abbrev pub ScanStands : TracerView → ScanStage → Type 0
ScanStands t (FieldLoad s) = t.scan ≡ Some s
ScanStands t (EntryLoad x) = Unit {0}
ScanStands t (HeaderLoad x address) = Unit {0}

-- at an incoming ring with nothing outgoing, nothing is held; what is taken is a name of an entry in range
abbrev pub ReceiveStands : TracerView → ReceiveStage → Type 0
ReceiveStands t (SlotLook source) = IsSource t.shape t.server source × (is_some t.outgoing ≡ false → holds t ≡ false)
ReceiveStands t (BusyRaise source x) = IsSource t.shape t.server source × IsNamed t.shape x
ReceiveStands t (SlotClear source x) = IsSource t.shape t.server source × IsNamed t.shape x

-- the name in hand is one of an entry in range
abbrev pub MarkStands : TracerView → MarkStage → Type 0
MarkStands t (Considering x) = IsNamed t.shape x
MarkStands t (Measuring x e) = IsNamed t.shape x
MarkStands t (EntryMark x e fields) = IsNamed t.shape x
MarkStands t (Counting x fields) = IsNamed t.shape x

-- at rest nothing is held; a window that is looked at is open and leads to another server; where ghost is lowered none
-- is open
abbrev pub RestStands : TracerView → RestStage → Type 0
RestStands t BusyLower = holds t ≡ false
RestStands t (TailLook r) = (holds t ≡ false) × (r < t.shape.servers) × (r ≢ t.server)
    × ((window_of t r).tail < (window_of t r).head)
RestStands t GhostLower = (holds t ≡ false) × (is_none (position is_open t.windows) ≡ true)

abbrev pub StageStands : TracerView → TraceStage → Type 0
StageStands t (Sending stage) = SendStands t stage
StageStands t (Scanning stage) = ScanStands t stage
StageStands t (Receiving stage) = ReceiveStands t stage
StageStands t (Marking stage) = MarkStands t stage
StageStands t (Resting stage) = RestStands t stage
StageStands t Ended = Unit {0}

-- what is kept at every stage
pub record TracerKeeps (n : Numbers) (i server : ℕ) (windows : List Window) (ghost_at : List ℕ)
    (outgoing : Option Name) : Type 0 where
  -- it is the machine of this server
  pub number : server ≡ i
  pub in_range : server < n.servers
  pub windows_are : length windows ≡ n.servers
  pub ghost_at_are : length ghost_at ≡ n.servers
  pub outgoing_stands : OutgoingStands n server outgoing
  -- its window of a ring to itself is empty
  pub own : (slice_index_or windows server no_window).tail ≡ (slice_index_or windows server no_window).head

-- the machine of server i
pub record TracerStands (n : Numbers) (i : ℕ) (t : TracerView) : Type 0 where
  pub shape_is : t.shape ≡ n
  pub keeps : TracerKeeps n i t.server t.windows t.ghost_at t.outgoing
  pub stage : StageStands t t.stage
