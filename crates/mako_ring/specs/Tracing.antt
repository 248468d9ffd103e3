-- A server's tracing as a machine: what it keeps, what it does next, and what it becomes by the word found.
use Rattle.std.specs.Prelude.{◌≡◌, ℕ, Bool, true, false, ◌+◌, ◌-◌, ◌*◌, ◌%◌, ◌<◌, ◌≤◌, ◌^◌, ◌==◌, ◌&&◌, ◌⊎◌, nat_lt}
use Rattle.std.specs.Prelude.{if◌then◌else◌, is_none, List, [], ◌∷◌, ◌++◌, length, take, drop, position, replicate}
use Rattle.std.specs.Prelude.{slice_index, slice_index_or, slice_set, Some, None}
use Rattle.std.specs.declared.option.Option.{Option}
use Rattle.mako_words.specs.Entries.{entry_word, entry_at}
use Rattle.mako_words.specs.Lives.{live_word}
use Rattle.mako_words.specs.Names.{name_word, name_at, IsPackedName}
use Rattle.mako_words.specs.Values.{value_at, IsPacked}
use Rattle.mako_words.specs.Words.{all_but}
use Rattle.mako_words.specs.declared.name.Name.{Name}
use Rattle.mako_words.specs.declared.value.Value.{Value}
use Rattle.mako_words.specs.declared.value.Value.TheVariants.{Null, Num, Ref}
use Rattle.mako_shape.specs.declared.numbers.Numbers.{Numbers}
use Rattle.mako_shape.specs.Belongings.{server_of_entry, tablet_of_entry, IsAddress}
use Rattle.mako_shape.specs.Limits.{all_entries}
use Rattle.mako_shape.specs.Places.{Place, flags, work, ghost, live, entry, index, total}
use Rattle.mako_step.specs.Acts.{does}
use Rattle.mako_step.specs.declared.act.Op.TheVariants.{Load, Store, Or, And}
use Rattle.mako_step.specs.declared.step.Step.{Step}
use Rattle.mako_step.specs.declared.step.Step.TheVariants.{Ended as NoStep}
use Rattle.mako_ring.specs.FlagBits.{busy_bit, ghost_bit, sending_bits, taking_bits}
use Rattle.mako_ring.specs.Contents.{after_place}
use Rattle.mako_ring.specs.Windows.{tail_up, head_up, found_room}
use Rattle.mako_ring.specs.declared.window.Window.{Window}
use Rattle.mako_ring.specs.declared.tracing.Scan.{Scan}
use Rattle.mako_ring.specs.declared.tracing.Source.{Source}
use Rattle.mako_ring.specs.declared.tracing.Source.TheVariants.{Collector, Server}
use Rattle.mako_ring.specs.declared.tracing.SendStage.{SendStage}
use Rattle.mako_ring.specs.declared.tracing.SendStage.TheVariants.{HeadLook, GhostRaise, HeadStore}
use Rattle.mako_ring.specs.declared.tracing.ScanStage.{ScanStage}
use Rattle.mako_ring.specs.declared.tracing.ScanStage.TheVariants.{FieldLoad, EntryLoad, HeaderLoad}
use Rattle.mako_ring.specs.declared.tracing.ReceiveStage.{ReceiveStage}
use Rattle.mako_ring.specs.declared.tracing.ReceiveStage.TheVariants.{SlotLook, BusyRaise, SlotClear}
use Rattle.mako_ring.specs.declared.tracing.MarkStage.{MarkStage}
use Rattle.mako_ring.specs.declared.tracing.MarkStage.TheVariants.{Considering, Measuring, Marking as EntryMark}
use Rattle.mako_ring.specs.declared.tracing.MarkStage.TheVariants.{Counting}
use Rattle.mako_ring.specs.declared.tracing.RestStage.{RestStage}
use Rattle.mako_ring.specs.declared.tracing.RestStage.TheVariants.{BusyLower, TailLook, GhostLower}
use Rattle.mako_ring.specs.declared.tracing.TraceStage.{TraceStage}
use Rattle.mako_ring.specs.declared.tracing.TraceStage.TheVariants.{Sending, Scanning, Receiving, Marking, Resting}
use Rattle.mako_ring.specs.declared.tracing.TraceStage.TheVariants.{Ended}

-- what a server keeps: its stack of entries, of which the last is the top, its scan, a name for another server, a
-- window of the ring to each server, its positions in the incoming rings, the live counts of its tablets, and which of
-- its flags busy and ghost are up
pub record TracerView : Type 0 where
  pub shape : Numbers
  pub server : ℕ
  pub cycle : ℕ
  pub stack : List ℕ
  pub scan : Option Scan
  pub outgoing : Option Name
  pub windows : List Window
  pub work_at : ℕ
  pub ghost_at : List ℕ
  pub lives : List ℕ
  pub busy_up : Bool
  pub ghost_up : Bool
  pub stage : TraceStage

-- the server of a name
abbrev pub owner : Numbers → Name → ℕ
owner n x = server_of_entry n x.entry

abbrev pub no_window : Window
no_window = record { head = 0; tail = 0 }

-- its window of the ring to a server
abbrev pub window_of : TracerView → ℕ → Window
window_of t r = slice_index_or t.windows r no_window

abbrev pub set_window : TracerView → ℕ → Window → TracerView
set_window t r w = record t { windows = slice_set t.windows r w }

-- a window with a slot that was not seen emptied
abbrev pub is_open : Window → Bool
is_open w = nat_lt w.tail w.head

-- the slot at the head of the window to the name's server
abbrev pub head_slot : TracerView → Name → Place
head_slot t x = ghost t.server (owner t.shape x) ((window_of t (owner t.shape x)).head % t.shape.ring)

-- the slot at its position in a ring
abbrev pub slot_of : TracerView → Source → Place
slot_of t Collector = work t.server t.work_at
slot_of t (Server a) = ghost a t.server (slice_index t.ghost_at a)

-- the place of an entry's tablet among those of its server, and its live count
abbrev pub own_tablet : Numbers → ℕ → ℕ
own_tablet n x = tablet_of_entry n x % n.tablets

abbrev pub live_of : TracerView → Name → ℕ
live_of t x = slice_index t.lives (own_tablet t.shape x.entry)

-- ---- what it does next
abbrev pub send_next : TracerView → SendStage → Step
send_next t (HeadLook x) = does (index t.shape (head_slot t x)) Load
send_next t (GhostRaise x) = does (index t.shape (flags t.server)) (Or sending_bits)
send_next t (HeadStore x) = does (index t.shape (head_slot t x)) (Store (name_word x))

abbrev pub scan_next : TracerView → ScanStage → Step
scan_next t (FieldLoad s) = does (s.address + 1 + s.next) Load
scan_next t (EntryLoad x) = does (index t.shape (entry x)) Load
scan_next t (HeaderLoad x address) = does address Load

abbrev pub receive_next : TracerView → ReceiveStage → Step
receive_next t (SlotLook source) = does (index t.shape (slot_of t source)) Load
receive_next t (BusyRaise source x) = does (index t.shape (flags t.server)) (Or taking_bits)
receive_next t (SlotClear source x) = does (index t.shape (slot_of t source)) (Store 0)

abbrev pub mark_next : TracerView → MarkStage → Step
mark_next t (Considering x) = does (index t.shape (entry x.entry)) Load
mark_next t (Measuring x e) = does e.address Load
mark_next t (EntryMark x e fields) =
    does (index t.shape (entry x.entry)) (Store (entry_word (record e { epoch = t.cycle })))
mark_next t (Counting x fields) =
    does (index t.shape (live (tablet_of_entry t.shape x.entry)))
    (Store (live_word (record { cycle = t.cycle; words = live_of t x + (fields + 1) })))

abbrev pub rest_next : TracerView → RestStage → Step
rest_next t BusyLower = does (index t.shape (flags t.server)) (And (all_but busy_bit))
rest_next t (TailLook r) = does (index t.shape (ghost t.server r ((window_of t r).tail % t.shape.ring))) Load
rest_next t GhostLower = does (index t.shape (flags t.server)) (And (all_but ghost_bit))

abbrev pub stage_next : TracerView → TraceStage → Step
stage_next t (Sending stage) = send_next t stage
stage_next t (Scanning stage) = scan_next t stage
stage_next t (Receiving stage) = receive_next t stage
stage_next t (Marking stage) = mark_next t stage
stage_next t (Resting stage) = rest_next t stage
stage_next t Ended = NoStep

abbrev pub next_of : TracerView → Step
next_of t = stage_next t t.stage

-- ---- where its parts begin
abbrev pub at_stage : TracerView → TraceStage → TracerView
at_stage t stage = record t { stage = stage }

-- the outgoing name first, then the scan, then the top of the stack, and with nothing of these the incoming rings
abbrev pub work_on : TracerView → Option Name → Option Scan → TracerView
work_on t (Some x) scan = at_stage t (Sending (HeadLook x))
work_on t None (Some s) = at_stage t (Scanning (FieldLoad s))
work_on t None None =
    if length t.stack == 0 then at_stage t (Receiving (SlotLook Collector))
    else record t {
      stack = take (length t.stack - 1) t.stack;
      stage = Scanning (EntryLoad (slice_index t.stack (length t.stack - 1)));
    }

abbrev pub next_work : TracerView → TracerView
next_work t = work_on t t.outgoing t.scan

-- the windows from one on: the first that is open, and past the last the flag ghost
abbrev pub past_windows : TracerView → ℕ → Option ℕ → TracerView
past_windows t first (Some k) = at_stage t (Resting (TailLook (first + k)))
past_windows t first None =
    if t.ghost_up && is_none (position is_open t.windows) then at_stage t (Resting GhostLower) else at_stage t Ended

abbrev pub windows_from : TracerView → ℕ → TracerView
windows_from t first = past_windows t first (position is_open (drop first t.windows))

-- with nothing in hand
abbrev pub rest : TracerView → TracerView
rest t = if t.busy_up then at_stage t (Resting BusyLower) else windows_from t 0

-- past the last incoming ring: back to the outgoing name, or to rest
abbrev pub past_rings : TracerView → Option Name → TracerView
past_rings t (Some x) = at_stage t (Sending (HeadLook x))
past_rings t None = rest t

-- the incoming rings: the work ring, and then those from the other servers in order
abbrev pub after_source : TracerView → Source → ℕ
after_source t Collector = if t.server == 0 then 1 else 0
after_source t (Server a) = if a + 1 == t.server then a + 2 else a + 1

abbrev pub rings_from : TracerView → ℕ → TracerView
rings_from t a = if nat_lt a t.shape.servers then at_stage t
    (Receiving (SlotLook (Server a))) else past_rings t t.outgoing

-- the position in a ring rises
abbrev pub advanced : TracerView → Source → TracerView
advanced t Collector = record t { work_at = after_place t.shape.ring t.work_at }
advanced t (Server a) =
    record t { ghost_at = slice_set t.ghost_at a (after_place t.shape.ring (slice_index t.ghost_at a)) }

-- the scan of a record whose header was loaded, and the scan behind its next field
abbrev pub scan_of : ℕ → ℕ → Option Scan
scan_of address fields = if fields == 0 then None else Some (record { address = address; fields = fields; next = 0 })

abbrev pub behind_field : Scan → Option Scan
behind_field s = if s.next + 1 == s.fields then None else Some (record s { next = s.next + 1 })

-- a value that was found in a field: an own name is considered, and one of another server becomes outgoing
abbrev pub field_found : TracerView → Value → TracerView
field_found t (Ref x) =
    if owner t.shape x == t.server then at_stage t (Marking (Considering x)) else next_work
    (record t { outgoing = Some x })
field_found t (Num x) = next_work t
field_found t Null = next_work t

-- ---- what it becomes by the word found
abbrev pub send_fed : TracerView → SendStage → ℕ → TracerView
send_fed t (HeadLook x) w =
    if w == 0 then at_stage (set_window t (owner t.shape x) (found_room t.shape.ring (window_of t (owner t.shape x))))
    (Sending (GhostRaise x))
    else at_stage t (Receiving (SlotLook Collector))
send_fed t (GhostRaise x) w = record t { ghost_up = true; stage = Sending (HeadStore x) }
send_fed t (HeadStore x) w =
    next_work (record (set_window t (owner t.shape x) (head_up (window_of t (owner t.shape x)))) { outgoing = None })

abbrev pub scan_fed : TracerView → ScanStage → ℕ → TracerView
scan_fed t (FieldLoad s) w = field_found (record t { scan = behind_field s }) (value_at w)
scan_fed t (EntryLoad x) w = at_stage t (Scanning (HeaderLoad x (entry_at w).address))
scan_fed t (HeaderLoad x address) w = next_work (record t { scan = scan_of address w })

abbrev pub receive_fed : TracerView → ReceiveStage → ℕ → TracerView
receive_fed t (SlotLook source) w =
    if w == 0 then rings_from t (after_source t source) else at_stage t (Receiving (BusyRaise source (name_at w)))
receive_fed t (BusyRaise source x) w = record t { busy_up = true; stage = Receiving (SlotClear source x) }
receive_fed t (SlotClear source x) w = at_stage (advanced t source) (Marking (Considering x))

abbrev pub mark_fed : TracerView → MarkStage → ℕ → TracerView
mark_fed t (Considering x) w =
    if (entry_at w).epoch == t.cycle then next_work t else at_stage t (Marking (Measuring x (entry_at w)))
mark_fed t (Measuring x e) w = at_stage t (Marking (EntryMark x e w))
mark_fed t (EntryMark x e fields) w = at_stage t (Marking (Counting x fields))
mark_fed t (Counting x fields) w =
    next_work (record t {
      lives = slice_set t.lives (own_tablet t.shape x.entry) (live_of t x + (fields + 1));
      stack = t.stack ++ x.entry ∷ [];
    })

abbrev pub rest_fed : TracerView → RestStage → ℕ → TracerView
rest_fed t BusyLower w = windows_from (record t { busy_up = false }) 0
rest_fed t (TailLook r) w =
    windows_from (if w == 0 then set_window t r (tail_up t.shape.ring (window_of t r)) else t) (r + 1)
rest_fed t GhostLower w = record t { ghost_up = false; stage = Ended }

abbrev pub stage_fed : TracerView → TraceStage → ℕ → TracerView
stage_fed t (Sending stage) w = send_fed t stage w
stage_fed t (Scanning stage) w = scan_fed t stage w
stage_fed t (Receiving stage) w = receive_fed t stage w
stage_fed t (Marking stage) w = mark_fed t stage w
stage_fed t (Resting stage) w = rest_fed t stage w
stage_fed t Ended w = t

abbrev pub fed : TracerView → ℕ → TracerView
fed t w = stage_fed t t.stage w

-- ---- the words that it can go on with
-- a name of an entry in range, and one of the server's own
abbrev pub IsNamed : Numbers → Name → Type 0
IsNamed n x = x.entry < all_entries n

abbrev pub IsOwnName : TracerView → Name → Type 0
IsOwnName t x = IsNamed t.shape x × (owner t.shape x ≡ t.server)

abbrev pub FieldFits : Numbers → Value → Type 0
FieldFits n (Ref x) = IsNamed n x
FieldFits n (Num x) = Unit {0}
FieldFits n Null = Unit {0}

-- the record at this address, with so many fields, lies within the words
abbrev pub RecordFits : Numbers → ℕ → ℕ → Type 0
RecordFits n address fields = (fields ≤ 14) × (address + fields < total n)

abbrev pub ScanFits : TracerView → ScanStage → ℕ → Type 0
ScanFits t (FieldLoad s) w = IsPacked w × FieldFits t.shape (value_at w)
ScanFits t (EntryLoad x) w = IsAddress t.shape (entry_at w).address
ScanFits t (HeaderLoad x address) w = RecordFits t.shape address w

abbrev pub ReceiveFits : TracerView → ReceiveStage → ℕ → Type 0
ReceiveFits t (SlotLook source) w = (w ≡ 0) ⊎ (IsPackedName w × IsOwnName t (name_at w))
ReceiveFits t (BusyRaise source x) w = Unit {0}
ReceiveFits t (SlotClear source x) w = Unit {0}

abbrev pub MarkFits : TracerView → MarkStage → ℕ → Type 0
MarkFits t (Considering x) w = IsAddress t.shape (entry_at w).address
MarkFits t (Measuring x e) w = RecordFits t.shape e.address w × (live_of t x + (w + 1) < 2 ^ 32)
MarkFits t (EntryMark x e fields) w = Unit {0}
-- the stack has room for the entry
MarkFits t (Counting x fields) w = length t.stack < t.shape.tablets * t.shape.entries

abbrev pub StageFits : TracerView → TraceStage → ℕ → Type 0
StageFits t (Sending stage) w = Unit {0}
StageFits t (Scanning stage) w = ScanFits t stage w
StageFits t (Receiving stage) w = ReceiveFits t stage w
StageFits t (Marking stage) w = MarkFits t stage w
StageFits t (Resting stage) w = Unit {0}
StageFits t Ended w = Unit {0}

abbrev pub Fits : TracerView → ℕ → Type 0
Fits t w = StageFits t t.stage w

-- ---- where it starts
-- a server that has not begun: at its end, with nothing of anything
abbrev pub new_tracer : Numbers → ℕ → TracerView
new_tracer n s = record {
  shape = n;
  server = s;
  cycle = 0;
  stack = [];
  scan = None;
  outgoing = None;
  windows = replicate n.servers no_window;
  work_at = 0;
  ghost_at = replicate n.servers 0;
  lives = replicate n.tablets 0;
  busy_up = false;
  ghost_up = false;
  stage = Ended;
}

-- a turn of a cycle begins: the live counts become 0 where it is another than before
abbrev pub begun : TracerView → ℕ → TracerView
begun t c = next_work (record t { cycle = c; lives = if c == t.cycle then t.lives else replicate t.shape.tablets 0 })
