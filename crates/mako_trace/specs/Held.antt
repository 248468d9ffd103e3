-- What a server's tracing keeps between its steps, and the ranges of its numbers.
use Rattle.std.specs.Prelude.{ℕ, ◌≡◌, ◌+◌, ◌*◌, ◌<◌, ◌≤◌, ◌^◌, Option, Some, None, All, length, vec_capacity}
use Rattle.mako_words.specs.Entries.{FitsEntry}
use Rattle.mako_words.specs.Names.{FitsName}
use Rattle.mako_words.specs.declared.name.Name.{Name}
use Rattle.mako_shape.specs.declared.numbers.Numbers.{Numbers}
use Rattle.mako_shape.specs.Belongings.{IsAddress}
use Rattle.mako_shape.specs.Limits.{IsShape, all_entries}
use Rattle.mako_shape.specs.Places.{total}
use Rattle.mako_ring.specs.Tracing.{TracerView, owner, window_of, live_of, at_stage, IsNamed}
use Rattle.mako_ring.specs.Windows.{IsWindow}
use Rattle.mako_ring.specs.declared.tracing.Scan.{Scan}
use Rattle.mako_ring.specs.declared.tracing.Source.{Source}
use Rattle.mako_ring.specs.declared.tracing.Source.TheVariants.{Collector, Server}
use Rattle.mako_ring.specs.declared.tracing.SendStage.{SendStage}
use Rattle.mako_ring.specs.declared.tracing.SendStage.TheVariants.{HeadLook, GhostRaise, HeadStore}
use Rattle.mako_ring.specs.declared.tracing.ScanStage.{ScanStage}
use Rattle.mako_ring.specs.declared.tracing.ScanStage.TheVariants.{FieldLoad, EntryLoad, HeaderLoad}
use Rattle.mako_ring.specs.declared.tracing.ReceiveStage.{ReceiveStage}
use Rattle.mako_ring.specs.declared.tracing.ReceiveStage.TheVariants.{SlotLook, BusyRaise, SlotClear}
use Rattle.mako_ring.specs.declared.tracing.MarkStage.{MarkStage}
use Rattle.mako_ring.specs.declared.tracing.MarkStage.TheVariants.{Considering, Measuring, Marking as EntryMark}
use Rattle.mako_ring.specs.declared.tracing.MarkStage.TheVariants.{Counting}
use Rattle.mako_ring.specs.declared.tracing.RestStage.{RestStage}
use Rattle.mako_ring.specs.declared.tracing.RestStage.TheVariants.{BusyLower, TailLook, GhostLower}
use Rattle.mako_ring.specs.declared.tracing.TraceStage.{TraceStage}
use Rattle.mako_ring.specs.declared.tracing.TraceStage.TheVariants.{Sending, Scanning, Receiving, Marking, Resting}
use Rattle.mako_ring.specs.declared.tracing.TraceStage.TheVariants.{Ended}
use Rattle.mako_trace.specs.declared.holdings.Holdings.{Holdings}

-- the tracer that keeps this, at a stage
abbrev pub tracer_in : Holdings → TraceStage → TracerView
tracer_in h stage = record {
  shape = h.shape;
  server = h.server;
  cycle = h.cycle;
  stack = h.stack.items;
  scan = h.scan;
  outgoing = h.outgoing;
  windows = h.windows.items;
  work_at = h.work_at;
  ghost_at = h.ghost_at.items;
  lives = h.lives.items;
  busy_up = h.busy_up;
  ghost_up = h.ghost_up;
  stage = stage;
}

-- the record that is scanned lies within the words, and a field of it is left
abbrev pub ScanKnown : Numbers → Scan → Type 0
ScanKnown n s = (s.next < s.fields) × (s.fields ≤ 14) × (s.address + s.fields < total n)

abbrev pub SomeScanKnown : Numbers → Option Scan → Type 0
SomeScanKnown n (Some s) = ScanKnown n s
SomeScanKnown n None = Unit {0}

-- a name that is sent fits its word, and is one of an entry in range
abbrev pub NameKnown : Numbers → Name → Type 0
NameKnown n x = FitsName x × IsNamed n x

abbrev pub SomeNameKnown : Numbers → Option Name → Type 0
SomeNameKnown n (Some x) = NameKnown n x
SomeNameKnown n None = Unit {0}

-- the ranges of what is kept at every stage
pub record AreHeld (t : TracerView) : Type 0 where
  pub shape : IsShape t.shape
  pub server : t.server < t.shape.servers
  pub cycle : t.cycle ≤ t.shape.cycles
  pub stack : All (λ x. x < all_entries t.shape) t.stack
  pub scan : SomeScanKnown t.shape t.scan
  pub outgoing : SomeNameKnown t.shape t.outgoing
  pub windows_are : length t.windows ≡ t.shape.servers
  pub windows : All (IsWindow t.shape.ring) t.windows
  pub work_at : t.work_at < t.shape.ring
  pub ghost_at_are : length t.ghost_at ≡ t.shape.servers
  pub ghost_at : All (λ at. at < t.shape.ring) t.ghost_at
  pub lives_are : length t.lives ≡ t.shape.tablets

abbrev pub IsHeld : TracerView → Type 0
IsHeld t = AreHeld (at_stage t Ended)

-- ---- the ranges of what a stage carries
-- the window to the name's server has room
abbrev pub RoomKnown : TracerView → Name → Type 0
RoomKnown t x = (window_of t (owner t.shape x)).head < (window_of t (owner t.shape x)).tail + t.shape.ring

abbrev pub SendKnown : TracerView → SendStage → Type 0
SendKnown t (HeadLook x) = NameKnown t.shape x
SendKnown t (GhostRaise x) = NameKnown t.shape x × RoomKnown t x
SendKnown t (HeadStore x) = NameKnown t.shape x × RoomKnown t x

-- while a record is scanned no name is outgoing
abbrev pub ScanStageKnown : TracerView → ScanStage → Type 0
ScanStageKnown t (FieldLoad s) = ScanKnown t.shape s × (t.outgoing ≡ None)
ScanStageKnown t (EntryLoad x) = (x < all_entries t.shape) × (t.outgoing ≡ None)
ScanStageKnown t (HeaderLoad x address) = IsAddress t.shape address × (t.outgoing ≡ None)

abbrev pub SourceKnown : Numbers → Source → Type 0
SourceKnown n Collector = Unit {0}
SourceKnown n (Server a) = a < n.servers

abbrev pub ReceiveKnown : TracerView → ReceiveStage → Type 0
ReceiveKnown t (SlotLook source) = SourceKnown t.shape source
ReceiveKnown t (BusyRaise source x) = SourceKnown t.shape source × IsNamed t.shape x
ReceiveKnown t (SlotClear source x) = SourceKnown t.shape source × IsNamed t.shape x

-- the live count has room for the record's words
abbrev pub CountKnown : TracerView → Name → ℕ → Type 0
CountKnown t x fields = IsNamed t.shape x × (live_of t x + (fields + 1) < 2 ^ 32)

abbrev pub MarkKnown : TracerView → MarkStage → Type 0
MarkKnown t (Considering x) = IsNamed t.shape x
MarkKnown t (Measuring x e) = IsNamed t.shape x × FitsEntry e × IsAddress t.shape e.address
MarkKnown t (EntryMark x e fields) = CountKnown t x fields × FitsEntry e
MarkKnown t (Counting x fields) = CountKnown t x fields

-- a window whose tail is looked at has a slot that was not seen emptied
abbrev pub RestKnown : TracerView → RestStage → Type 0
RestKnown t BusyLower = Unit {0}
RestKnown t (TailLook r) = (r < t.shape.servers) × ((window_of t r).tail < (window_of t r).head)
RestKnown t GhostLower = Unit {0}

abbrev pub StageKnown : TracerView → TraceStage → Type 0
StageKnown t (Sending stage) = SendKnown t stage
StageKnown t (Scanning stage) = ScanStageKnown t stage
StageKnown t (Receiving stage) = ReceiveKnown t stage
StageKnown t (Marking stage) = MarkKnown t stage
StageKnown t (Resting stage) = RestKnown t stage
StageKnown t Ended = Unit {0}

pub record IsKnown (t : TracerView) : Type 0 where
  pub held : IsHeld t
  pub stage : StageKnown t t.stage

-- the stack has memory for every entry of the server
abbrev pub HasRoom : Holdings → Type 0
HasRoom h = h.shape.tablets * h.shape.entries ≤ vec_capacity h.stack

-- which stays as it is
abbrev pub SameRoom : Holdings → Holdings → Type 0
SameRoom h g = (g.shape ≡ h.shape) × (vec_capacity g.stack ≡ vec_capacity h.stack)
