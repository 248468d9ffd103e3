-- Each step of a server's tracing lowers the rank of its job, or ends the job.
use Rattle.std.proofs.Common.{◌≡◌, ℕ, ◌+◌, ◌-◌, ◌<◌, ◌≤◌, ◌&&◌, ◌||◌, not, nat_lt, if◌then◌else◌, false, Option, Some}
use Rattle.std.proofs.Common.{None, is_some, is_none, drop, arith}
use Rattle.std.specs.List.{position}
use Rattle.mako_step.specs.Machines.{IsAct, Lowers}
use Rattle.mako_step.proofs.Cases.{by_eq, by_lt, when_eq, when_test}
use Rattle.mako_trace.specs.Ranks.{is_name, send_renews, scan_renews, receive_renews, mark_renews, stage_renews}
use Rattle.mako_trace.specs.Ranks.{is_renewed, send_rank, scan_rank, rings_left, receive_rank, mark_rank, rest_rank}
use Rattle.mako_trace.specs.Ranks.{stage_rank, rank}
use Rattle.mako_words.specs.Entries.{entry_at}
use Rattle.mako_words.specs.Names.{name_at}
use Rattle.mako_words.specs.Values.{value_at}
use Rattle.mako_words.specs.declared.name.Name.{Name}
use Rattle.mako_words.specs.declared.value.Value.{Value}
use Rattle.mako_words.specs.declared.value.Value.TheVariants.{Null, Num, Ref}
use Rattle.mako_shape.specs.declared.numbers.Numbers.{Numbers}
use Rattle.mako_ring.specs.Tracing.{TracerView, owner, window_of, set_window, is_open, at_stage, work_on, next_work}
use Rattle.mako_ring.specs.Tracing.{next_of, stage_next, past_windows, windows_from, rest, past_rings, rings_from}
use Rattle.mako_ring.specs.Tracing.{after_source, advanced, behind_field, field_found, send_fed, scan_fed, receive_fed}
use Rattle.mako_ring.specs.Tracing.{mark_fed, rest_fed, stage_fed, fed, ScanFits, StageFits, Fits}
use Rattle.mako_ring.specs.Windows.{tail_up, found_room}
use Rattle.mako_ring.specs.declared.tracing.Scan.{Scan}
use Rattle.mako_ring.specs.declared.tracing.Source.{Source}
use Rattle.mako_ring.specs.declared.tracing.Source.TheVariants.{Collector, Server}
use Rattle.mako_ring.specs.declared.tracing.SendStage.{SendStage}
use Rattle.mako_ring.specs.declared.tracing.SendStage.TheVariants.{HeadLook, GhostRaise, HeadStore}
use Rattle.mako_ring.specs.declared.tracing.ScanStage.{ScanStage}
use Rattle.mako_ring.specs.declared.tracing.ScanStage.TheVariants.{FieldLoad, EntryLoad, HeaderLoad}
use Rattle.mako_ring.specs.declared.tracing.ReceiveStage.{ReceiveStage}
use Rattle.mako_ring.specs.declared.tracing.ReceiveStage.TheVariants.{SlotLook, BusyRaise, SlotClear}
use Rattle.mako_ring.specs.declared.tracing.MarkStage.{MarkStage}
use Rattle.mako_ring.specs.declared.tracing.MarkStage.TheVariants.{Considering, Measuring, Marking as EntryMark}
use Rattle.mako_ring.specs.declared.tracing.MarkStage.TheVariants.{Counting}
use Rattle.mako_ring.specs.declared.tracing.RestStage.{RestStage}
use Rattle.mako_ring.specs.declared.tracing.RestStage.TheVariants.{BusyLower, TailLook, GhostLower}
use Rattle.mako_ring.specs.declared.tracing.TraceStage.{TraceStage}
use Rattle.mako_ring.specs.declared.tracing.TraceStage.TheVariants.{Sending, Scanning, Receiving, Marking, Resting}
use Rattle.mako_ring.specs.declared.tracing.TraceStage.TheVariants.{Ended}
use Rattle.mako_trace.specs.Held.{ScanKnown, ScanStageKnown, SourceKnown, ReceiveKnown, RestKnown, StageKnown, IsKnown}

-- the steps that are left, of so many servers
abbrev left : TracerView → ℕ
left t = stage_rank t.shape.servers t.stage

-- ---- where parts begin
past_windows_left : (t : TracerView) (first : ℕ) (o : Option ℕ)
    → left (past_windows t first o) ≤ t.shape.servers - first + 1
past_windows_left t first (Some k) = omega arith
past_windows_left t first None =
    when_test (λ (u : TracerView). left u ≤ t.shape.servers - first + 1) (at_stage t (Resting GhostLower))
    (at_stage t Ended) (t.ghost_up && is_none (position is_open t.windows))
    (λ _. omega arith) (λ _. omega arith)

windows_left : (t : TracerView) (first : ℕ) → left (windows_from t first) ≤ t.shape.servers - first + 1
windows_left t first = past_windows_left t first (position is_open (drop first t.windows))

rest_left : (t : TracerView) → left (rest t) ≤ t.shape.servers + 2
rest_left t = when_test (λ (u : TracerView). left u ≤ t.shape.servers + 2) (at_stage t (Resting BusyLower))
    (windows_from t 0) t.busy_up
    (λ _. omega arith) (λ _. let l = windows_left t 0 in omega arith)

-- ---- sending
send_lowers : (t : TracerView) (s : SendStage) (w : ℕ) → Lowers (send_renews s w) (send_rank s) (left (send_fed t s w))
send_lowers t (HeadLook x) w =
    let r : ℕ = owner t.shape x in
    by_eq (λ b. Lowers (not b) 3
    (left (if b then at_stage (set_window t r (found_room t.shape.ring (window_of t r)))
    (Sending (GhostRaise x)) else at_stage t (Receiving (SlotLook Collector))))) w 0
    (λ e. omega arith) (λ d. omega arith)
send_lowers t (GhostRaise x) w = omega arith
send_lowers t (HeadStore x) w = omega arith

-- ---- scanning
-- the scan goes on, with no name outgoing
scans_on : (t : TracerView) (o : Option Name) (s : Scan) (r : ℕ) → o ≡ None → s.fields - s.next < r
    → left (work_on t o (Some s)) < r
scans_on t (Some x) s r e l = absurd (some_none e)
  where
    some_none : Some x ≡ None → ⊥
    some_none e = cc
scans_on t None s r e l = l

-- a field without a name
plain_lowers : (t : TracerView) (s : Scan) → ScanKnown t.shape s → t.outgoing ≡ None
    → Lowers (is_none (behind_field s)) (s.fields - s.next) (left (next_work (record t { scan = behind_field s })))
plain_lowers t s k none =
    let l = k.0 in
    let more : Scan = record s { next = s.next + 1 } in
    by_eq (λ b. Lowers (is_none (if b then None else Some more)) (s.fields - s.next)
    (left (next_work (record t { scan = if b then None else Some more })))) (s.next + 1) s.fields
    (λ e. omega arith)
    (λ d. scans_on (record t { scan = Some more }) t.outgoing more (s.fields - s.next) none (omega arith))

field_lowers : (t : TracerView) (v : Value) (s : Scan) → ScanKnown t.shape s → t.outgoing ≡ None
    → Lowers (is_name v || is_none (behind_field s)) (s.fields - s.next)
    (left (field_found (record t { scan = behind_field s }) v))
field_lowers t (Ref x) s k none = let l = k.0 in omega arith
field_lowers t (Num x) s k none = plain_lowers t s k none
field_lowers t Null s k none = plain_lowers t s k none

scan_lowers : (t : TracerView) (s : ScanStage) (w : ℕ) → ScanStageKnown t s → ScanFits t s w
    → Lowers (scan_renews s w) (scan_rank s) (left (scan_fed t s w))
scan_lowers t (FieldLoad s) w k f = field_lowers t (value_at w) s k.0 k.1
scan_lowers t (EntryLoad x) w k f = omega arith
scan_lowers t (HeaderLoad x address) w k f = let few = f.0 in
    by_eq (λ b. Lowers b 15
    (left (work_on (record t {
      scan =
          if b then None else Some (record { address = address; fields = w; next = 0 });
    }) t.outgoing
    (if b then None else Some (record { address = address; fields = w; next = 0 }))))) w 0
    (λ e. omega arith)
    (λ d. scans_on (record t { scan = Some (record { address = address; fields = w; next = 0 }) }) t.outgoing
    (record { address = address; fields = w; next = 0 }) 15 k.1 (omega arith))

-- ---- receiving
past_rings_lower : (t : TracerView) (o : Option Name) (r : ℕ) → t.shape.servers + 2 < r
    → Lowers (is_some o) r (left (past_rings t o))
past_rings_lower t (Some x) r l = omega arith
past_rings_lower t None r l = let m = rest_left t in omega arith

rings_lower : (t : TracerView) (a r : ℕ) → t.shape.servers + 2 < r
    → (a < t.shape.servers → t.shape.servers - a + (t.shape.servers + 2) < r)
    → Lowers (not (nat_lt a t.shape.servers) && is_some t.outgoing) r (left (rings_from t a))
rings_lower t a r two more =
    by_lt (λ b. Lowers (not b && is_some t.outgoing) r
    (left (if b then at_stage t (Receiving (SlotLook (Server a))) else past_rings t t.outgoing))) a t.shape.servers
    (λ l. more l)
    (λ _. past_rings_lower t t.outgoing r two)

-- the rings behind a ring are fewer
fewer_left : (t : TracerView) (source : Source) → SourceKnown t.shape source → after_source t source < t.shape.servers
    → t.shape.servers - after_source t source < rings_left t.shape.servers source
fewer_left t Collector k l = omega arith
fewer_left t (Server a) k l =
    when_eq (λ b. t.shape.servers - b < t.shape.servers - a) (a + 2) (a + 1) (a + 1) t.server (λ _. omega arith)
    (λ _. omega arith)

some_left : (n : Numbers) (source : Source) → SourceKnown n source → 0 < rings_left n.servers source
some_left n Collector k = omega arith
some_left n (Server a) k = omega arith

receive_lowers : (t : TracerView) (s : ReceiveStage) (w : ℕ) → ReceiveKnown t s
    → Lowers (receive_renews t s w) (receive_rank t.shape.servers s) (left (receive_fed t s w))
receive_lowers t (SlotLook source) w k =
    let a : ℕ = after_source t source in
    let r : ℕ = rings_left t.shape.servers source + (t.shape.servers + 2) in
    let some = some_left t.shape source k in
    by_eq (λ b. Lowers (not b || (not (nat_lt a t.shape.servers) && is_some t.outgoing)) r
    (left (if b then rings_from t a else at_stage t (Receiving (BusyRaise source (name_at w)))))) w 0
    (λ _. rings_lower t a r (omega arith) (λ l. let fewer = fewer_left t source k l in omega arith))
    (λ _. omega arith)
receive_lowers t (BusyRaise source x) w k = omega arith
receive_lowers t (SlotClear source x) w k = marks source
  where
    marks : (a : Source) → left (at_stage (advanced t a) (Marking (Considering x))) < 5
    marks Collector = omega arith
    marks (Server a) = omega arith

-- ---- marking
mark_lowers : (t : TracerView) (s : MarkStage) (w : ℕ)
    → Lowers (mark_renews t s w) (mark_rank s) (left (mark_fed t s w))
mark_lowers t (Considering x) w =
    by_eq (λ b. Lowers b 4 (left (if b then next_work t else at_stage t (Marking (Measuring x (entry_at w))))))
    (entry_at w).epoch t.cycle (λ _. omega arith) (λ _. omega arith)
mark_lowers t (Measuring x e) w = omega arith
mark_lowers t (EntryMark x e fields) w = omega arith
mark_lowers t (Counting x fields) w = omega arith

-- ---- rest
rest_lowers : (t : TracerView) (s : RestStage) (w : ℕ) → RestKnown t s
    → left (rest_fed t s w) < rest_rank t.shape.servers s
rest_lowers t BusyLower w k = let l = windows_left (record t { busy_up = false }) 0 in omega arith
rest_lowers t (TailLook r) w k =
    let below = k.0 in
    when_eq (λ (q : TracerView). left (windows_from q (r + 1)) < t.shape.servers - r + 1)
    (set_window t r (tail_up t.shape.ring (window_of t r))) t w 0
    (λ e. let l = windows_left (set_window t r (tail_up t.shape.ring (window_of t r))) (r + 1) in omega arith)
    (λ d. let l = windows_left t (r + 1) in omega arith)
rest_lowers t GhostLower w k = omega arith

stage_lowers : (t : TracerView) (s : TraceStage) (w : ℕ) → IsAct (stage_next t s) → StageKnown t s → StageFits t s w
    → Lowers (stage_renews t s w) (stage_rank t.shape.servers s) (left (stage_fed t s w))
stage_lowers t (Sending s) w acts k f = send_lowers t s w
stage_lowers t (Scanning s) w acts k f = scan_lowers t s w k f
stage_lowers t (Receiving s) w acts k f = receive_lowers t s w k
stage_lowers t (Marking s) w acts k f = mark_lowers t s w
stage_lowers t (Resting s) w acts k f = rest_lowers t s w k
stage_lowers t Ended w acts k f = absurd acts

pub step_lowers : (t : TracerView) (w : ℕ) → IsAct (next_of t) → IsKnown t → Fits t w
    → Lowers (is_renewed t w) (rank t) (rank (fed t w))
step_lowers t w acts k f = stage_lowers t t.stage w acts k.stage f
