-- The jobs of a server's tracing: the work on one name or on one record, and one round of looks.
use Rattle.std.specs.Prelude.{ℕ, Bool, true, false, ◌+◌, ◌-◌, ◌==◌, ◌&&◌, ◌||◌, not, nat_lt, is_some, is_none}
use Rattle.mako_words.specs.Entries.{entry_at}
use Rattle.mako_words.specs.Values.{value_at}
use Rattle.mako_words.specs.declared.value.Value.{Value}
use Rattle.mako_words.specs.declared.value.Value.TheVariants.{Null, Num, Ref}
use Rattle.mako_ring.specs.Tracing.{TracerView, after_source, behind_field}
use Rattle.mako_ring.specs.declared.tracing.Source.{Source}
use Rattle.mako_ring.specs.declared.tracing.Source.TheVariants.{Collector, Server}
use Rattle.mako_ring.specs.declared.tracing.SendStage.{SendStage}
use Rattle.mako_ring.specs.declared.tracing.SendStage.TheVariants.{HeadLook, GhostRaise, HeadStore}
use Rattle.mako_ring.specs.declared.tracing.ScanStage.{ScanStage}
use Rattle.mako_ring.specs.declared.tracing.ScanStage.TheVariants.{FieldLoad, EntryLoad, HeaderLoad}
use Rattle.mako_ring.specs.declared.tracing.ReceiveStage.{ReceiveStage}
use Rattle.mako_ring.specs.declared.tracing.ReceiveStage.TheVariants.{SlotLook, BusyRaise, SlotClear}
use Rattle.mako_ring.specs.declared.tracing.MarkStage.{MarkStage}
use Rattle.mako_ring.specs.declared.tracing.MarkStage.TheVariants.{Considering, Measuring, Marking as EntryMark}
use Rattle.mako_ring.specs.declared.tracing.MarkStage.TheVariants.{Counting}
use Rattle.mako_ring.specs.declared.tracing.RestStage.{RestStage}
use Rattle.mako_ring.specs.declared.tracing.RestStage.TheVariants.{BusyLower, TailLook, GhostLower}
use Rattle.mako_ring.specs.declared.tracing.TraceStage.{TraceStage}
use Rattle.mako_ring.specs.declared.tracing.TraceStage.TheVariants.{Sending, Scanning, Receiving, Marking, Resting}
use Rattle.mako_ring.specs.declared.tracing.TraceStage.TheVariants.{Ended}

abbrev pub is_name : Value → Bool
is_name (Ref x) = true
is_name (Num x) = false
is_name Null = false

-- ---- where a job ends and another begins
-- a name is sent, or its slot is filled and a round of looks begins
abbrev pub send_renews : SendStage → ℕ → Bool
send_renews (HeadLook x) w = not (w == 0)
send_renews (GhostRaise x) w = false
send_renews (HeadStore x) w = true

-- a field holds a name, whose work begins, or a record has no fields left
abbrev pub scan_renews : ScanStage → ℕ → Bool
scan_renews (FieldLoad s) w = is_name (value_at w) || is_none (behind_field s)
scan_renews (EntryLoad x) w = false
scan_renews (HeaderLoad x address) w = w == 0

-- a slot holds a name, whose work begins, or all rings are looked at and the outgoing name is tried again
abbrev pub receive_renews : TracerView → ReceiveStage → ℕ → Bool
receive_renews t (SlotLook source) w =
    not (w == 0) || (not (nat_lt (after_source t source) t.shape.servers) && is_some t.outgoing)
receive_renews t (BusyRaise source x) w = false
receive_renews t (SlotClear source x) w = false

-- the object of a name is marked
abbrev pub mark_renews : TracerView → MarkStage → ℕ → Bool
mark_renews t (Considering x) w = (entry_at w).epoch == t.cycle
mark_renews t (Measuring x e) w = false
mark_renews t (EntryMark x e fields) w = false
mark_renews t (Counting x fields) w = true

abbrev pub stage_renews : TracerView → TraceStage → ℕ → Bool
stage_renews t (Sending stage) w = send_renews stage w
stage_renews t (Scanning stage) w = scan_renews stage w
stage_renews t (Receiving stage) w = receive_renews t stage w
stage_renews t (Marking stage) w = mark_renews t stage w
stage_renews t (Resting stage) w = false
stage_renews t Ended w = false

abbrev pub is_renewed : TracerView → ℕ → Bool
is_renewed t w = stage_renews t t.stage w

-- ---- the most steps that the present job still takes
abbrev pub send_rank : SendStage → ℕ
send_rank (HeadLook x) = 3
send_rank (GhostRaise x) = 2
send_rank (HeadStore x) = 1

-- a record has at most 14 fields
abbrev pub scan_rank : ScanStage → ℕ
scan_rank (FieldLoad s) = s.fields - s.next
scan_rank (EntryLoad x) = 16
scan_rank (HeaderLoad x address) = 15

-- the incoming rings that are left to look at
abbrev pub rings_left : ℕ → Source → ℕ
rings_left servers Collector = servers + 1
rings_left servers (Server a) = servers - a

-- behind the rings a round has busy, the windows and ghost
abbrev pub receive_rank : ℕ → ReceiveStage → ℕ
receive_rank servers (SlotLook source) = rings_left servers source + (servers + 2)
receive_rank servers (BusyRaise source x) = 6
receive_rank servers (SlotClear source x) = 5

abbrev pub mark_rank : MarkStage → ℕ
mark_rank (Considering x) = 4
mark_rank (Measuring x e) = 3
mark_rank (EntryMark x e fields) = 2
mark_rank (Counting x fields) = 1

abbrev pub rest_rank : ℕ → RestStage → ℕ
rest_rank servers BusyLower = servers + 2
rest_rank servers (TailLook r) = servers - r + 1
rest_rank servers GhostLower = 1

abbrev pub stage_rank : ℕ → TraceStage → ℕ
stage_rank servers (Sending stage) = send_rank stage
stage_rank servers (Scanning stage) = scan_rank stage
stage_rank servers (Receiving stage) = receive_rank servers stage
stage_rank servers (Marking stage) = mark_rank stage
stage_rank servers (Resting stage) = rest_rank servers stage
stage_rank servers Ended = 0

abbrev pub rank : TracerView → ℕ
rank t = stage_rank t.shape.servers t.stage
