-- A step of a server's tracing keeps its numbers in their ranges.
use Rattle.std.proofs.Common.{◌≡◌, ℕ, ◌+◌, ◌-◌, ◌*◌, ◌<◌, ◌≤◌, ◌==◌, ◌&&◌, inl, inr, if◌then◌else◌, Bool, true, false}
use Rattle.std.proofs.Common.{Option, Some, None, is_none, List, ◌∷◌, [], ◌++◌, length, take, drop, slice_index}
use Rattle.std.proofs.Common.{slice_set, get_or, replicate, sym, subst, refl, ◌∙◌, arith, length-set, vec_capacity}
use Rattle.std.specs.List.{All, position}
use Rattle.std.proofs.lemmas.List.{get_or-set_same, length-replicate}
use Rattle.std.proofs.lemmas.List.Elements.{All-get_or, All-set, All-take, All-push}
use Rattle.mako_words.specs.Entries.{entry_at, FitsEntry}
use Rattle.mako_words.specs.Names.{name_at}
use Rattle.mako_words.specs.Values.{value_at, FitsValue}
use Rattle.mako_words.specs.declared.name.Name.{Name}
use Rattle.mako_words.specs.declared.value.Value.{Value}
use Rattle.mako_words.specs.declared.value.Value.TheVariants.{Null, Num, Ref}
use Rattle.mako_shape.specs.declared.numbers.Numbers.{Numbers}
use Rattle.mako_shape.specs.Limits.{all_entries}
use Rattle.mako_shape.specs.Places.{total}
use Rattle.mako_step.proofs.Cases.{when_eq, when_lt, when_test}
use Rattle.mako_ring.specs.Contents.{after_place}
use Rattle.mako_ring.specs.Tracing.{TracerView, owner, no_window, window_of, set_window, own_tablet, live_of, is_open}
use Rattle.mako_ring.specs.Tracing.{at_stage, work_on, next_work, past_windows, windows_from, rest, past_rings}
use Rattle.mako_ring.specs.Tracing.{rings_from, after_source, advanced, scan_of, behind_field, field_found, send_fed}
use Rattle.mako_ring.specs.Tracing.{scan_fed, receive_fed, mark_fed, rest_fed, stage_fed, fed, begun, IsNamed}
use Rattle.mako_ring.specs.Tracing.{FieldFits, ScanFits, ReceiveFits, MarkFits, StageFits, Fits}
use Rattle.mako_ring.specs.Windows.{IsWindow, tail_up, head_up, found_room}
use Rattle.mako_ring.proofs.Found.{found_window, owner_in_range}
use Rattle.mako_ring.specs.declared.window.Window.{Window}
use Rattle.mako_ring.specs.declared.tracing.Scan.{Scan}
use Rattle.mako_ring.specs.declared.tracing.Source.{Source}
use Rattle.mako_ring.specs.declared.tracing.Source.TheVariants.{Collector, Server}
use Rattle.mako_ring.specs.declared.tracing.SendStage.{SendStage}
use Rattle.mako_ring.specs.declared.tracing.SendStage.TheVariants.{HeadLook, GhostRaise, HeadStore}
use Rattle.mako_ring.specs.declared.tracing.ScanStage.{ScanStage}
use Rattle.mako_ring.specs.declared.tracing.ScanStage.TheVariants.{FieldLoad, EntryLoad, HeaderLoad}
use Rattle.mako_ring.specs.declared.tracing.ReceiveStage.{ReceiveStage}
use Rattle.mako_ring.specs.declared.tracing.ReceiveStage.TheVariants.{SlotLook, BusyRaise, SlotClear}
use Rattle.mako_ring.specs.declared.tracing.MarkStage.{MarkStage}
use Rattle.mako_ring.specs.declared.tracing.MarkStage.TheVariants.{Considering, Measuring, Marking as EntryMark}
use Rattle.mako_ring.specs.declared.tracing.MarkStage.TheVariants.{Counting}
use Rattle.mako_ring.specs.declared.tracing.RestStage.{RestStage}
use Rattle.mako_ring.specs.declared.tracing.RestStage.TheVariants.{BusyLower, TailLook, GhostLower}
use Rattle.mako_ring.specs.declared.tracing.TraceStage.{TraceStage}
use Rattle.mako_ring.specs.declared.tracing.TraceStage.TheVariants.{Sending, Scanning, Receiving, Marking, Resting}
use Rattle.mako_ring.specs.declared.tracing.TraceStage.TheVariants.{Ended}
use Rattle.mako_trace.specs.declared.holdings.Holdings.{Holdings}
use Rattle.mako_trace.specs.Held.{HasRoom, SameRoom, ScanKnown, SomeScanKnown, SomeNameKnown, IsHeld, SendKnown}
use Rattle.mako_trace.specs.Held.{ScanStageKnown, SourceKnown, ReceiveKnown, MarkKnown, RestKnown, StageKnown, IsKnown}

-- ---- changes of what is kept
held_window : (t : TracerView) (r : ℕ) (v : Window) → IsHeld t → IsWindow t.shape.ring v → IsHeld (set_window t r v)
held_window t r v h w = record {
  shape = h.shape;
  server = h.server;
  cycle = h.cycle;
  stack = h.stack;
  scan = h.scan;
  outgoing = h.outgoing;
  windows_are = length-set t.windows r v ∙ h.windows_are;
  windows = All-set (IsWindow t.shape.ring) t.windows r v w h.windows;
  work_at = h.work_at;
  ghost_at_are = h.ghost_at_are;
  ghost_at = h.ghost_at;
  lives_are = h.lives_are;
}

held_outgoing : (t : TracerView) (o : Option Name) → IsHeld t → SomeNameKnown t.shape o
    → IsHeld (record t { outgoing = o })
held_outgoing t o h k = record {
  shape = h.shape;
  server = h.server;
  cycle = h.cycle;
  stack = h.stack;
  scan = h.scan;
  outgoing = k;
  windows_are = h.windows_are;
  windows = h.windows;
  work_at = h.work_at;
  ghost_at_are = h.ghost_at_are;
  ghost_at = h.ghost_at;
  lives_are = h.lives_are;
}

held_scan : (t : TracerView) (s : Option Scan) → IsHeld t → SomeScanKnown t.shape s → IsHeld (record t { scan = s })
held_scan t s h k = record {
  shape = h.shape;
  server = h.server;
  cycle = h.cycle;
  stack = h.stack;
  scan = k;
  outgoing = h.outgoing;
  windows_are = h.windows_are;
  windows = h.windows;
  work_at = h.work_at;
  ghost_at_are = h.ghost_at_are;
  ghost_at = h.ghost_at;
  lives_are = h.lives_are;
}

held_stack : (t : TracerView) (xs : List ℕ) → IsHeld t → All (λ x. x < all_entries t.shape) xs
    → IsHeld (record t { stack = xs })
held_stack t xs h k = record {
  shape = h.shape;
  server = h.server;
  cycle = h.cycle;
  stack = k;
  scan = h.scan;
  outgoing = h.outgoing;
  windows_are = h.windows_are;
  windows = h.windows;
  work_at = h.work_at;
  ghost_at_are = h.ghost_at_are;
  ghost_at = h.ghost_at;
  lives_are = h.lives_are;
}

held_lives : (t : TracerView) (c : ℕ) (ls : List ℕ) → IsHeld t → c ≤ t.shape.cycles → length ls ≡ t.shape.tablets
    → IsHeld (record t { cycle = c; lives = ls })
held_lives t c ls h l k = record {
  shape = h.shape;
  server = h.server;
  cycle = l;
  stack = h.stack;
  scan = h.scan;
  outgoing = h.outgoing;
  windows_are = h.windows_are;
  windows = h.windows;
  work_at = h.work_at;
  ghost_at_are = h.ghost_at_are;
  ghost_at = h.ghost_at;
  lives_are = k;
}

held_flags : (t : TracerView) (busy up : Bool) → IsHeld t → IsHeld (record t { busy_up = busy; ghost_up = up })
held_flags t busy up h = record {
  shape = h.shape;
  server = h.server;
  cycle = h.cycle;
  stack = h.stack;
  scan = h.scan;
  outgoing = h.outgoing;
  windows_are = h.windows_are;
  windows = h.windows;
  work_at = h.work_at;
  ghost_at_are = h.ghost_at_are;
  ghost_at = h.ghost_at;
  lives_are = h.lives_are;
}

after_below : (size at : ℕ) → at < size → after_place size at < size
after_below size at l = when_eq (λ v. v < size) 0 (at + 1) (at + 1) size (λ e. omega arith) (λ d. omega arith)

-- other positions in the rings that it takes from
held_places : (t : TracerView) (at : ℕ) (ghosts : List ℕ) → IsHeld t → at < t.shape.ring
    → length ghosts ≡ t.shape.servers → All (λ p. p < t.shape.ring) ghosts →
    IsHeld (record t { work_at = at; ghost_at = ghosts })
held_places t at ghosts h below count all = record {
  shape = h.shape;
  server = h.server;
  cycle = h.cycle;
  stack = h.stack;
  scan = h.scan;
  outgoing = h.outgoing;
  windows_are = h.windows_are;
  windows = h.windows;
  work_at = below;
  ghost_at_are = count;
  ghost_at = all;
  lives_are = h.lives_are;
}

held_advanced : (t : TracerView) (source : Source) → IsHeld t → SourceKnown t.shape source → IsHeld (advanced t source)
held_advanced t Collector h k =
    held_places t (after_place t.shape.ring t.work_at) t.ghost_at h
    (after_below t.shape.ring t.work_at h.work_at) h.ghost_at_are h.ghost_at
held_advanced t (Server a) h k =
    let l = h.ghost_at_are in
    let at : slice_index t.ghost_at a < t.shape.ring =
    All-get_or (λ p. p < t.shape.ring) t.ghost_at a 0 (omega arith) h.ghost_at in
    let next : ℕ = after_place t.shape.ring (slice_index t.ghost_at a) in
    held_places t t.work_at (slice_set t.ghost_at a next) h h.work_at (length-set t.ghost_at a next ∙ h.ghost_at_are)
    (All-set (λ p. p < t.shape.ring) t.ghost_at a next
    (after_below t.shape.ring (slice_index t.ghost_at a) at) h.ghost_at)

-- ---- where parts begin
work_known : (t : TracerView) (o : Option Name) (s : Option Scan) → t.outgoing ≡ o → t.scan ≡ s → IsHeld t
    → IsKnown (work_on t o s)
work_known t (Some x) s eo es h = record { held = h; stage = subst (SomeNameKnown t.shape) eo h.outgoing }
work_known t None (Some s) eo es h = record { held = h; stage = (subst (SomeScanKnown t.shape) es h.scan, eo) }
work_known t None None eo es h =
    let last : ℕ = length t.stack - 1 in
    when_eq IsKnown (at_stage t (Receiving (SlotLook Collector))) (record t {
      stack = take last t.stack;
      stage = Scanning (EntryLoad (slice_index t.stack last));
    }) (length t.stack) 0
    (λ e. record { held = h; stage = tt })
    (λ some. record {
      held = held_stack t (take last t.stack) h (All-take (λ x. x < all_entries t.shape) last t.stack h.stack);
      stage = (All-get_or (λ x. x < all_entries t.shape) t.stack last 0 (omega arith) h.stack, eo);
    })

pub next_work_known : (t : TracerView) → IsHeld t → IsKnown (next_work t)
next_work_known t h = work_known t t.outgoing t.scan refl refl h

past_windows_known : (t : TracerView) (first : ℕ) (o : Option ℕ) → position is_open (drop first t.windows) ≡ o
    → IsHeld t → IsKnown (past_windows t first o)
past_windows_known t first (Some k) e h =
    let f = found_window first t.windows k e in
    let l = h.windows_are in
    record { held = h; stage = (let below = f.0 in omega arith, f.1) }
past_windows_known t first None e h =
    when_test IsKnown (at_stage t (Resting GhostLower)) (at_stage t Ended)
    (t.ghost_up && is_none (position is_open t.windows))
    (λ _. record { held = h; stage = tt })
    (λ _. record { held = h; stage = tt })

windows_known : (t : TracerView) (first : ℕ) → IsHeld t → IsKnown (windows_from t first)
windows_known t first h = past_windows_known t first (position is_open (drop first t.windows)) refl h

rests_known : (t : TracerView) → IsHeld t → IsKnown (rest t)
rests_known t h = when_test IsKnown (at_stage t (Resting BusyLower)) (windows_from t 0) t.busy_up
    (λ _. record { held = h; stage = tt }) (λ _. windows_known t 0 h)

past_rings_known : (t : TracerView) (o : Option Name) → t.outgoing ≡ o → IsHeld t → IsKnown (past_rings t o)
past_rings_known t (Some x) e h = record { held = h; stage = subst (SomeNameKnown t.shape) e h.outgoing }
past_rings_known t None e h = rests_known t h

rings_known : (t : TracerView) (a : ℕ) → IsHeld t → IsKnown (rings_from t a)
rings_known t a h = when_lt IsKnown (at_stage t (Receiving (SlotLook (Server a))))
    (past_rings t t.outgoing) a t.shape.servers
    (λ l. record { held = h; stage = l })
    (λ _. past_rings_known t t.outgoing refl h)

-- ---- sending
window_at : (t : TracerView) (r : ℕ) → IsHeld t → r < t.shape.servers → IsWindow t.shape.ring (window_of t r)
window_at t r h l = let e = h.windows_are in
    All-get_or (IsWindow t.shape.ring) t.windows r no_window (omega arith) h.windows

tail_window : (size : ℕ) (w : Window) → IsWindow size w → w.tail < w.head → IsWindow size (tail_up size w)
    × ((tail_up size w).head < (tail_up size w).tail + size)
tail_window size w k l = let a = k.tail_below in let b = k.few in let c = k.ordered in
    when_eq (λ (v : Window). IsWindow size v
    × (v.head < v.tail + size)) (record { head = w.head - size; tail = 0 }) (record {
      head = w.head;
      tail = w.tail + 1;
    }) (w.tail + 1) size
    (λ e. (record { tail_below = omega arith; ordered = omega arith; few = omega arith }, omega arith))
    (λ d. (record { tail_below = omega arith; ordered = omega arith; few = omega arith }, omega arith))

room_window : (size : ℕ) (w : Window) → IsWindow size w → IsWindow size (found_room size w)
    × ((found_room size w).head < (found_room size w).tail + size)
room_window size w k = let a = k.tail_below in let b = k.few in let c = k.ordered in
    when_eq (λ (v : Window). IsWindow size v × (v.head < v.tail + size)) (tail_up size w) w w.head (w.tail + size)
    (λ e. tail_window size w k (omega arith))
    (λ d. (k, omega arith))

head_window : (size : ℕ) (w : Window) → IsWindow size w → w.head < w.tail + size → IsWindow size (head_up w)
head_window size w k l = let a = k.tail_below in let c = k.ordered in
    record { tail_below = a; ordered = omega arith; few = omega arith }

send_known : (t : TracerView) (s : SendStage) (w : ℕ) → IsHeld t → SendKnown t s → IsKnown (send_fed t s w)
send_known t (HeadLook x) w h k =
    let r : ℕ = owner t.shape x in
    let below = owner_in_range t.shape x k.1 in
    let l = h.windows_are in
    let room = room_window t.shape.ring (window_of t r) (window_at t r h below) in
    let v : Window = found_room t.shape.ring (window_of t r) in
    let set : window_of (set_window t r v) r ≡ v = get_or-set_same t.windows r v no_window (omega arith) in
    when_eq IsKnown (at_stage (set_window t r v) (Sending (GhostRaise x)))
    (at_stage t (Receiving (SlotLook Collector))) w 0
    (λ e. record {
      held = held_window t r v h room.0;
      stage = (k, subst (λ (u : Window). u.head < u.tail + t.shape.ring) (sym set) room.1);
    })
    (λ d. record { held = h; stage = tt })
send_known t (GhostRaise x) w h k = record { held = held_flags t t.busy_up true h; stage = k }
send_known t (HeadStore x) w h k =
    let r : ℕ = owner t.shape x in
    let v : Window = head_up (window_of t r) in
    let u = head_window t.shape.ring (window_of t r) (window_at t r h (owner_in_range t.shape x k.0.1)) k.1 in
    next_work_known (record (set_window t r v) { outgoing = None })
    (held_outgoing (set_window t r v) None (held_window t r v h u) tt)

-- ---- scanning
behind_known : (n : Numbers) (s : Scan) → ScanKnown n s → SomeScanKnown n (behind_field s)
behind_known n s k = let l = k.0 in
    when_eq (SomeScanKnown n) None (Some (record s { next = s.next + 1 })) (s.next + 1) s.fields (λ e. tt)
    (λ d. (omega arith, k.1, k.2))

found_known : (t : TracerView) (v : Value) → IsHeld t → FitsValue v → FieldFits t.shape v → IsKnown (field_found t v)
found_known t (Ref x) h f k =
    when_eq IsKnown (at_stage t (Marking (Considering x))) (next_work (record t { outgoing = Some x }))
    (owner t.shape x) t.server
    (λ e. record { held = h; stage = k })
    (λ d. next_work_known (record t { outgoing = Some x }) (held_outgoing t (Some x) h (f, k)))
found_known t (Num x) h f k = next_work_known t h
found_known t Null h f k = next_work_known t h

scan_of_known : (n : Numbers) (address w : ℕ) → w ≤ 14 → address + w < total n → SomeScanKnown n (scan_of address w)
scan_of_known n address w l b =
    when_eq (SomeScanKnown n) None (Some (record { address = address; fields = w; next = 0 })) w 0 (λ e. tt)
    (λ d. (omega arith, l, b))

scan_known : (t : TracerView) (s : ScanStage) (w : ℕ) → IsHeld t → ScanStageKnown t s → ScanFits t s w
    → IsKnown (scan_fed t s w)
scan_known t (FieldLoad s) w h k f =
    found_known (record t { scan = behind_field s }) (value_at w)
    (held_scan t (behind_field s) h (behind_known t.shape s k.0)) f.0.fits f.1
scan_known t (EntryLoad x) w h k f = record { held = h; stage = (f, k.1) }
scan_known t (HeaderLoad x address) w h k f =
    next_work_known (record t { scan = scan_of address w })
    (held_scan t (scan_of address w) h (scan_of_known t.shape address w f.0 f.1))

-- ---- receiving
receive_known : (t : TracerView) (s : ReceiveStage) (w : ℕ) → IsHeld t → ReceiveKnown t s → ReceiveFits t s w
    → IsKnown (receive_fed t s w)
receive_known t (SlotLook source) w h k f =
    when_eq IsKnown (rings_from t (after_source t source)) (at_stage t (Receiving (BusyRaise source (name_at w)))) w 0
    (λ e. rings_known t (after_source t source) h)
    (λ d. record { held = h; stage = (k, elim f [ inl zero_is ↦ absurd (d zero_is) | inr found ↦ found.1.0 ]) })
receive_known t (BusyRaise source x) w h k f = record { held = held_flags t true t.ghost_up h; stage = k }
receive_known t (SlotClear source x) w h k f = marks source k
  where
    marks : (a : Source) → SourceKnown t.shape a × IsNamed t.shape x
        → IsKnown (at_stage (advanced t a) (Marking (Considering x)))
    marks Collector k = record { held = held_advanced t Collector h k.0; stage = k.1 }
    marks (Server a) k = record { held = held_advanced t (Server a) h k.0; stage = k.1 }

-- ---- marking
entry_fits : (w : ℕ) → FitsEntry (entry_at w)
entry_fits w = record { address = omega arith; epoch = omega arith; generation = omega arith }

mark_known : (t : TracerView) (s : MarkStage) (w : ℕ) → IsHeld t → MarkKnown t s → MarkFits t s w
    → IsKnown (mark_fed t s w)
mark_known t (Considering x) w h k f =
    when_eq IsKnown (next_work t) (at_stage t (Marking (Measuring x (entry_at w)))) (entry_at w).epoch t.cycle
    (λ e. next_work_known t h)
    (λ d. record { held = h; stage = (k, entry_fits w, f) })
mark_known t (Measuring x e) w h k f = record { held = h; stage = ((k.0, f.1), k.1) }
mark_known t (EntryMark x e fields) w h k f = record { held = h; stage = k.0 }
mark_known t (Counting x fields) w h k f =
    let ls : List ℕ = slice_set t.lives (own_tablet t.shape x.entry) (live_of t x + (fields + 1)) in
    let counted : TracerView = record t { lives = ls } in
    let xs : List ℕ = t.stack ++ x.entry ∷ [] in
    let lengths = length-set t.lives (own_tablet t.shape x.entry) (live_of t x + (fields + 1)) ∙ h.lives_are in
    next_work_known (record counted { stack = xs })
    (held_stack counted xs (held_lives t t.cycle ls h h.cycle lengths)
    (All-push (λ y. y < all_entries t.shape) t.stack x.entry h.stack k.0))

-- ---- rest
rest_known : (t : TracerView) (s : RestStage) (w : ℕ) → IsHeld t → RestKnown t s → IsKnown (rest_fed t s w)
rest_known t BusyLower w h k = windows_known (record t { busy_up = false }) 0 (held_flags t false t.ghost_up h)
rest_known t (TailLook r) w h k =
    let v : Window = tail_up t.shape.ring (window_of t r) in
    let u = tail_window t.shape.ring (window_of t r) (window_at t r h k.0) k.1 in
    when_eq (λ q. IsKnown (windows_from q (r + 1))) (set_window t r v) t w 0
    (λ e. windows_known (set_window t r v) (r + 1) (held_window t r v h u.0))
    (λ d. windows_known t (r + 1) h)
rest_known t GhostLower w h k = record { held = held_flags t t.busy_up false h; stage = tt }

stage_known : (t : TracerView) (s : TraceStage) (w : ℕ) → t.stage ≡ s → IsHeld t → StageKnown t s → StageFits t s w
    → IsKnown (stage_fed t s w)
stage_known t (Sending s) w e h k f = send_known t s w h k
stage_known t (Scanning s) w e h k f = scan_known t s w h k f
stage_known t (Receiving s) w e h k f = receive_known t s w h k f
stage_known t (Marking s) w e h k f = mark_known t s w h k f
stage_known t (Resting s) w e h k f = rest_known t s w h k
stage_known t Ended w e h k f = record { held = h; stage = subst (StageKnown t) (sym e) tt }

-- the tracer after a step is known
pub known_fed : (t : TracerView) (w : ℕ) → IsKnown t → Fits t w → IsKnown (fed t w)
known_fed t w k f = stage_known t t.stage w refl k.held k.stage f

-- a turn that begins is known
pub begun_known : (t : TracerView) (c : ℕ) → IsKnown t → c ≤ t.shape.cycles → IsKnown (begun t c)
begun_known t c k l =
    next_work_known (record t { cycle = c; lives = if c == t.cycle then t.lives else replicate t.shape.tablets 0 })
    (held_lives t c (if c == t.cycle then t.lives else replicate t.shape.tablets 0) k.held l
    (when_eq (λ (ls : List ℕ). length ls ≡ t.shape.tablets) t.lives (replicate t.shape.tablets 0) c t.cycle
    (λ _. k.held.lives_are) (λ _. length-replicate t.shape.tablets 0)))

-- the room stays
pub same_room : (h g : Holdings) → HasRoom h → SameRoom h g → HasRoom g
same_room h g room same =
    subst (λ (n : Numbers). n.tablets * n.entries ≤ vec_capacity g.stack) (sym same.0)
    (subst (λ (c : ℕ). h.shape.tablets * h.shape.entries ≤ c) (sym same.1) room)
