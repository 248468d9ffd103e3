-- A step of a server's tracing leaves its geometry and its server as they are.
use Rattle.std.proofs.Common.{◌≡◌, ℕ, ◌+◌, ◌==◌, ◌&&◌, ◌∙◌, Bool, true, false, if◌then◌else◌, nat_lt, is_none, Option}
use Rattle.std.proofs.Common.{Some, None, ◌-◌, [], ◌∷◌, ◌++◌, length, take, drop, replicate, slice_index, slice_set}
use Rattle.std.proofs.Common.{refl}
use Rattle.std.specs.List.{position}
use Rattle.mako_words.specs.Entries.{entry_at}
use Rattle.mako_words.specs.Names.{name_at}
use Rattle.mako_words.specs.Values.{value_at}
use Rattle.mako_words.specs.declared.name.Name.{Name}
use Rattle.mako_words.specs.declared.value.Value.{Value}
use Rattle.mako_words.specs.declared.value.Value.TheVariants.{Null, Num, Ref}
use Rattle.mako_ring.specs.Tracing.{TracerView, owner, window_of, set_window, is_open, at_stage, work_on, next_work}
use Rattle.mako_ring.specs.Tracing.{past_windows, windows_from, rest, past_rings, rings_from, after_source, advanced}
use Rattle.mako_ring.specs.Tracing.{own_tablet, live_of, scan_of, behind_field, field_found, send_fed, scan_fed}
use Rattle.mako_ring.specs.Tracing.{receive_fed, mark_fed, rest_fed, stage_fed, fed, begun}
use Rattle.mako_ring.specs.Windows.{tail_up, head_up, found_room}
use Rattle.mako_ring.specs.declared.tracing.Scan.{Scan}
use Rattle.mako_ring.specs.declared.tracing.Source.{Source}
use Rattle.mako_ring.specs.declared.tracing.Source.TheVariants.{Collector, Server}
use Rattle.mako_ring.specs.declared.tracing.SendStage.{SendStage}
use Rattle.mako_ring.specs.declared.tracing.SendStage.TheVariants.{HeadLook, GhostRaise, HeadStore}
use Rattle.mako_ring.specs.declared.tracing.ScanStage.{ScanStage}
use Rattle.mako_ring.specs.declared.tracing.ScanStage.TheVariants.{FieldLoad, EntryLoad, HeaderLoad}
use Rattle.mako_ring.specs.declared.tracing.ReceiveStage.{ReceiveStage}
use Rattle.mako_ring.specs.declared.tracing.ReceiveStage.TheVariants.{SlotLook, BusyRaise, SlotClear}
use Rattle.mako_ring.specs.declared.tracing.MarkStage.{MarkStage}
use Rattle.mako_ring.specs.declared.tracing.MarkStage.TheVariants.{Considering, Measuring, Marking as EntryMark}
use Rattle.mako_ring.specs.declared.tracing.MarkStage.TheVariants.{Counting}
use Rattle.mako_ring.specs.declared.tracing.RestStage.{RestStage}
use Rattle.mako_ring.specs.declared.tracing.RestStage.TheVariants.{BusyLower, TailLook, GhostLower}
use Rattle.mako_ring.specs.declared.tracing.TraceStage.{TraceStage}
use Rattle.mako_ring.specs.declared.tracing.TraceStage.TheVariants.{Sending, Scanning, Receiving, Marking, Resting}
use Rattle.mako_ring.specs.declared.tracing.TraceStage.TheVariants.{Ended}

-- the tracing of the same server, in the same geometry
pub record SameServer (t u : TracerView) : Type 0 where
  pub shape : u.shape ≡ t.shape
  pub server : u.server ≡ t.server

then_same : (t u v : TracerView) → SameServer t u → SameServer u v → SameServer t v
then_same t u v first second = record { shape = second.shape ∙ first.shape; server = second.server ∙ first.server }

either_same : (t : TracerView) (b : Bool) (u v : TracerView) → SameServer t u → SameServer t v
    → SameServer t (if b then u else v)
either_same t true u v first second = first
either_same t false u v first second = second

-- ---- where its parts begin
work_same : (t : TracerView) (o : Option Name) (s : Option Scan) → SameServer t (work_on t o s)
work_same t (Some x) s = record { shape = refl; server = refl }
work_same t None (Some s) = record { shape = refl; server = refl }
work_same t None None =
    either_same t (length t.stack == 0) (at_stage t (Receiving (SlotLook Collector)))
    (record t {
      stack = take (length t.stack - 1) t.stack;
      stage = Scanning (EntryLoad (slice_index t.stack (length t.stack - 1)));
    })
    (record { shape = refl; server = refl }) (record { shape = refl; server = refl })

pub next_work_same : (t : TracerView) → SameServer t (next_work t)
next_work_same t = work_same t t.outgoing t.scan

past_windows_same : (t : TracerView) (first : ℕ) (o : Option ℕ) → SameServer t (past_windows t first o)
past_windows_same t first (Some k) = record { shape = refl; server = refl }
past_windows_same t first None =
    either_same t (t.ghost_up && is_none (position is_open t.windows)) (at_stage t (Resting GhostLower))
    (at_stage t Ended)
    (record { shape = refl; server = refl }) (record { shape = refl; server = refl })

windows_same : (t : TracerView) (first : ℕ) → SameServer t (windows_from t first)
windows_same t first = past_windows_same t first (position is_open (drop first t.windows))

rest_same : (t : TracerView) → SameServer t (rest t)
rest_same t = either_same t t.busy_up (at_stage t (Resting BusyLower)) (windows_from t 0) (record {
  shape = refl;
  server = refl;
}) (windows_same t 0)

past_rings_same : (t : TracerView) (o : Option Name) → SameServer t (past_rings t o)
past_rings_same t (Some x) = record { shape = refl; server = refl }
past_rings_same t None = rest_same t

rings_same : (t : TracerView) (a : ℕ) → SameServer t (rings_from t a)
rings_same t a =
    either_same t (nat_lt a t.shape.servers) (at_stage t (Receiving (SlotLook (Server a)))) (past_rings t t.outgoing)
    (record { shape = refl; server = refl }) (past_rings_same t t.outgoing)

-- ---- what it becomes
field_same : (t : TracerView) (v : Value) → SameServer t (field_found t v)
field_same t (Ref x) =
    let sent : TracerView = record t { outgoing = Some x } in
    either_same t (owner t.shape x == t.server) (at_stage t (Marking (Considering x))) (next_work sent)
    (record { shape = refl; server = refl })
    (then_same t sent (next_work sent) (record { shape = refl; server = refl }) (next_work_same sent))
field_same t (Num x) = next_work_same t
field_same t Null = next_work_same t

-- it goes on with what it keeps then
on_with : (t u : TracerView) → SameServer t u → SameServer t (next_work u)
on_with t u same = then_same t u (next_work u) same (next_work_same u)

send_same : (t : TracerView) (s : SendStage) (w : ℕ) → SameServer t (send_fed t s w)
send_same t (HeadLook x) w =
    either_same t (w == 0)
    (at_stage (set_window t (owner t.shape x) (found_room t.shape.ring (window_of t (owner t.shape x))))
    (Sending (GhostRaise x)))
    (at_stage t (Receiving (SlotLook Collector))) (record { shape = refl; server = refl }) (record {
      shape = refl;
      server = refl;
    })
send_same t (GhostRaise x) w = record { shape = refl; server = refl }
send_same t (HeadStore x) w =
    on_with t (record (set_window t (owner t.shape x) (head_up (window_of t (owner t.shape x)))) { outgoing = None })
    (record { shape = refl; server = refl })

scan_same : (t : TracerView) (s : ScanStage) (w : ℕ) → SameServer t (scan_fed t s w)
scan_same t (FieldLoad s) w =
    let passed : TracerView = record t { scan = behind_field s } in
    then_same t passed (field_found passed (value_at w)) (record { shape = refl; server = refl })
    (field_same passed (value_at w))
scan_same t (EntryLoad x) w = record { shape = refl; server = refl }
scan_same t (HeaderLoad x address) w =
    on_with t (record t { scan = scan_of address w }) (record { shape = refl; server = refl })

advanced_same : (t : TracerView) (source : Source) → SameServer t (advanced t source)
advanced_same t Collector = record { shape = refl; server = refl }
advanced_same t (Server a) = record { shape = refl; server = refl }

receive_same : (t : TracerView) (s : ReceiveStage) (w : ℕ) → SameServer t (receive_fed t s w)
receive_same t (SlotLook source) w =
    either_same t (w == 0) (rings_from t (after_source t source))
    (at_stage t (Receiving (BusyRaise source (name_at w))))
    (rings_same t (after_source t source)) (record { shape = refl; server = refl })
receive_same t (BusyRaise source x) w = record { shape = refl; server = refl }
receive_same t (SlotClear source x) w = let same = advanced_same t source in
    record { shape = same.shape; server = same.server }

mark_same : (t : TracerView) (s : MarkStage) (w : ℕ) → SameServer t (mark_fed t s w)
mark_same t (Considering x) w =
    either_same t ((entry_at w).epoch == t.cycle) (next_work t) (at_stage t (Marking (Measuring x (entry_at w))))
    (next_work_same t) (record { shape = refl; server = refl })
mark_same t (Measuring x e) w = record { shape = refl; server = refl }
mark_same t (EntryMark x e fields) w = record { shape = refl; server = refl }
mark_same t (Counting x fields) w =
    on_with t (record t {
      lives = slice_set t.lives (own_tablet t.shape x.entry) (live_of t x + (fields + 1));
      stack = t.stack ++ x.entry ∷ [];
    })
    (record { shape = refl; server = refl })

resting_same : (t : TracerView) (s : RestStage) (w : ℕ) → SameServer t (rest_fed t s w)
resting_same t BusyLower w =
    let lowered : TracerView = record t { busy_up = false } in
    then_same t lowered (windows_from lowered 0) (record { shape = refl; server = refl }) (windows_same lowered 0)
resting_same t (TailLook r) w =
    let emptied : TracerView = set_window t r (tail_up t.shape.ring (window_of t r)) in
    let seen : TracerView = if w == 0 then emptied else t in
    then_same t seen (windows_from seen (r + 1))
    (either_same t (w == 0) emptied t (record { shape = refl; server = refl }) (record { shape = refl; server = refl }))
    (windows_same seen (r + 1))
resting_same t GhostLower w = record { shape = refl; server = refl }

stage_same : (t : TracerView) (s : TraceStage) (w : ℕ) → SameServer t (stage_fed t s w)
stage_same t (Sending s) w = send_same t s w
stage_same t (Scanning s) w = scan_same t s w
stage_same t (Receiving s) w = receive_same t s w
stage_same t (Marking s) w = mark_same t s w
stage_same t (Resting s) w = resting_same t s w
stage_same t Ended w = record { shape = refl; server = refl }

pub fed_same : (t : TracerView) (w : ℕ) → SameServer t (fed t w)
fed_same t w = stage_same t t.stage w

-- a turn's beginning too
pub begun_same : (t : TracerView) (c : ℕ) → SameServer t (begun t c)
begun_same t c =
    on_with t (record t { cycle = c; lives = if c == t.cycle then t.lives else replicate t.shape.tablets 0 })
    (record { shape = refl; server = refl })
