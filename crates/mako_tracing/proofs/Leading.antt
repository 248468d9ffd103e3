-- Where the parts of a server's tracing lead: what it then has to trace, and that it stays in its cycle.
use Rattle.std.proofs.Common.{◌≡◌, ℕ, ◌+◌, ◌-◌, ◌==◌, ◌&&◌, nat_lt, if◌then◌else◌, Bool, true, false, Option, Some}
use Rattle.std.proofs.Common.{None, is_none, List, [], ◌∷◌, ◌++◌, length, take, drop, slice_index, slice_get, slice_set}
use Rattle.std.proofs.Common.{position, refl}
use Rattle.mako_words.specs.declared.name.Name.{Name}
use Rattle.mako_words.specs.declared.value.Value.{Value}
use Rattle.mako_words.specs.declared.value.Value.TheVariants.{Null, Num, Ref}
use Rattle.mako_words.specs.Entries.{entry_at}
use Rattle.mako_words.specs.Names.{name_at}
use Rattle.mako_words.specs.Values.{value_at}
use Rattle.mako_shape.specs.declared.numbers.Numbers.{Numbers}
use Rattle.mako_model.specs.Legal.{Facts}
use Rattle.mako_ring.specs.Facets.{ServerFacet}
use Rattle.mako_ring.specs.TraceFacets.{empty, nothing, popped, Work, TraceFacet}
use Rattle.mako_ring.specs.TracerFacets.{work_of}
use Rattle.mako_ring.specs.Windows.{tail_up, head_up, found_room}
use Rattle.mako_ring.specs.Tracing.{TracerView, owner, window_of, set_window, own_tablet, live_of, scan_of}
use Rattle.mako_ring.specs.Tracing.{behind_field, at_stage, is_open, work_on, next_work, past_windows, windows_from}
use Rattle.mako_ring.specs.Tracing.{rest, past_rings, after_source, rings_from, field_found, stage_fed}
use Rattle.mako_ring.specs.declared.tracing.Scan.{Scan}
use Rattle.mako_ring.specs.declared.tracing.Source.TheVariants.{Collector, Server}
use Rattle.mako_ring.specs.declared.tracing.SendStage.TheVariants.{HeadLook, GhostRaise, HeadStore}
use Rattle.mako_ring.specs.declared.tracing.ScanStage.TheVariants.{FieldLoad, EntryLoad, HeaderLoad}
use Rattle.mako_ring.specs.declared.tracing.ReceiveStage.TheVariants.{SlotLook, BusyRaise, SlotClear}
use Rattle.mako_ring.specs.declared.tracing.MarkStage.TheVariants.{Considering, Measuring, Marking as EntryMark}
use Rattle.mako_ring.specs.declared.tracing.MarkStage.TheVariants.{Counting}
use Rattle.mako_ring.specs.declared.tracing.RestStage.TheVariants.{BusyLower, TailLook, GhostLower}
use Rattle.mako_ring.specs.declared.tracing.TraceStage.{TraceStage}
use Rattle.mako_ring.specs.declared.tracing.TraceStage.TheVariants.{Sending, Scanning, Receiving, Marking, Resting}
use Rattle.mako_ring.specs.declared.tracing.TraceStage.TheVariants.{Ended}
use Rattle.mako_shades.specs.Steps as shades
use Rattle.mako_phases.specs.Facets.{PhaseFacet}
use Rattle.mako_joint.specs.Joints.{JointScene, Joint}
use Rattle.mako_model.specs.Heaps.{Heap}
use Rattle.mako_tracing.specs.ServerFacets.{tracer_owed}
use Rattle.mako_tracing.specs.ServerKeeps.{StageIsFree}
use Rattle.mako_tracing.specs.ServerLives.{IsMeasured}
use Rattle.mako_tracing.proofs.Lists.{front_and_last}
use Rattle.mako_tracing.proofs.Scenes.{scene_of, rejobbed}

-- with nothing in hand, and no entry taken off
abbrev pub rested_work : TracerView → Work
rested_work t = record {
  server = t.server;
  hand = empty;
  outgoing = t.outgoing;
  stack = t.stack;
  off = nothing;
  scan = t.scan;
}

-- ---- a rest leads to stages with nothing in hand

past_windows_work : (t : TracerView) (first : ℕ) (o : Option ℕ) → work_of (past_windows t first o) ≡ rested_work t
past_windows_work t first (Some k) = refl
past_windows_work t first None = low (t.ghost_up && is_none (position is_open t.windows))
  where
    low : (b : Bool) → work_of (if b then at_stage t (Resting GhostLower) else at_stage t Ended) ≡ rested_work t
    low true = refl
    low false = refl

pub windows_work : (t : TracerView) (first : ℕ) → work_of (windows_from t first) ≡ rested_work t
windows_work t first = past_windows_work t first (position is_open (drop first t.windows))

pub rest_work : (t : TracerView) → work_of (rest t) ≡ rested_work t
rest_work t = on t.busy_up
  where
    on : (b : Bool) → work_of (if b then at_stage t (Resting BusyLower) else windows_from t 0) ≡ rested_work t
    on true = refl
    on false = windows_work t 0

-- ---- the next work takes at most an entry off the stack

module _ (n : Numbers) (w : Facts) (s : JointScene) (seat : ℕ) (words : List ℕ) (f : PhaseFacet) (i : ℕ)
    (g : ServerFacet)
    (old : TraceFacet) (here : slice_get s.facets.trace seat ≡ Some old) where
  abbrev Has : Work → Type 0
  Has job = Joint n w (scene_of s seat words job f i g)

  on_work : (t : TracerView) (o : Option Name) (scan : Option Scan) → t.outgoing ≡ o → t.scan ≡ scan
      → Has (rested_work t) → Has (work_of (work_on t o scan))
  on_work t (Some x) scan eo es j = j
  on_work t None (Some scan) eo es j = j
  on_work t None None eo es j = by (length t.stack == 0) refl
    where
      by : (b : Bool) → (length t.stack == 0) ≡ b → Has (work_of (if b then at_stage t (Receiving (SlotLook Collector))
          else record t {
            stack = take (length t.stack - 1) t.stack;
            stage = Scanning (EntryLoad (slice_index t.stack (length t.stack - 1)));
          }))
      by true e = j
      by false e =
          let top : ℕ = slice_index t.stack (length t.stack - 1) in
          let left : List ℕ = take (length t.stack - 1) t.stack in
          rejobbed n w s seat words (rested_work t) (record (rested_work t) { stack = left; off = popped top }) f i g
          old here j
          (λ c is at. shades.TakesOff seat (rested_work t) left top at (front_and_last t.stack e) refl refl)

  pub next_work_has : (t : TracerView) → Has (rested_work t) → Has (work_of (next_work t))
  next_work_has t j = on_work t t.outgoing t.scan refl refl j

-- ---- what no part changes, and that the scan is free where an entry was taken off

-- the machine leads to this one: in the same cycle, with its counts, owing none, and with no record measured
pub record Leads (t u : TracerView) : Type 0 where
  pub cycle : u.cycle ≡ t.cycle
  pub free : StageIsFree u u.stage
  pub lives : u.lives ≡ t.lives
  pub owed : tracer_owed u.stage ≡ None
  pub measured : (h : Heap) → IsMeasured h u.stage

leads_on_work : (t : TracerView) (o : Option Name) (scan : Option Scan) → t.scan ≡ scan → Leads t (work_on t o scan)
leads_on_work t (Some x) scan es = record { cycle = refl; free = tt; lives = refl; owed = refl; measured = λ h. tt }
leads_on_work t None (Some scan) es = record { cycle = refl; free = tt; lives = refl; owed = refl; measured = λ h. tt }
leads_on_work t None None es = by (length t.stack == 0)
  where
    by : (b : Bool) → Leads t (if b then at_stage t (Receiving (SlotLook Collector)) else record t {
      stack = take (length t.stack - 1) t.stack;
      stage = Scanning (EntryLoad (slice_index t.stack (length t.stack - 1)));
    })
    by true = record { cycle = refl; free = tt; lives = refl; owed = refl; measured = λ h. tt }
    by false = record { cycle = refl; free = es; lives = refl; owed = refl; measured = λ h. tt }

pub next_work_leads : (t : TracerView) → Leads t (next_work t)
next_work_leads t = leads_on_work t t.outgoing t.scan refl

windows_lead : (t : TracerView) (first : ℕ) (o : Option ℕ) → Leads t (past_windows t first o)
windows_lead t first (Some k) = record { cycle = refl; free = tt; lives = refl; owed = refl; measured = λ h. tt }
windows_lead t first None = low (t.ghost_up && is_none (position is_open t.windows))
  where
    low : (b : Bool) → Leads t (if b then at_stage t (Resting GhostLower) else at_stage t Ended)
    low true = record { cycle = refl; free = tt; lives = refl; owed = refl; measured = λ h. tt }
    low false = record { cycle = refl; free = tt; lives = refl; owed = refl; measured = λ h. tt }

pub windows_from_lead : (t : TracerView) (first : ℕ) → Leads t (windows_from t first)
windows_from_lead t first = windows_lead t first (position is_open (drop first t.windows))

rest_leads : (t : TracerView) → Leads t (rest t)
rest_leads t = on t.busy_up
  where
    on : (b : Bool) → Leads t (if b then at_stage t (Resting BusyLower) else windows_from t 0)
    on true = record { cycle = refl; free = tt; lives = refl; owed = refl; measured = λ h. tt }
    on false = windows_from_lead t 0

past_rings_lead : (t : TracerView) (o : Option Name) → Leads t (past_rings t o)
past_rings_lead t (Some x) = record { cycle = refl; free = tt; lives = refl; owed = refl; measured = λ h. tt }
past_rings_lead t None = rest_leads t

rings_lead : (t : TracerView) (a : ℕ) → Leads t (rings_from t a)
rings_lead t a = on (nat_lt a t.shape.servers)
  where
    on : (b : Bool) → Leads t (if b then at_stage t (Receiving (SlotLook (Server a))) else past_rings t t.outgoing)
    on true = record { cycle = refl; free = tt; lives = refl; owed = refl; measured = λ h. tt }
    on false = past_rings_lead t t.outgoing

field_leads : (t : TracerView) (v : Value) → Leads t (field_found t v)
field_leads t (Ref x) = on (owner t.shape x == t.server)
  where
    on : (b : Bool) → Leads t (if b then at_stage t (Marking (Considering x)) else next_work
        (record t { outgoing = Some x }))
    on true = record { cycle = refl; free = tt; lives = refl; owed = refl; measured = λ h. tt }
    on false = record { cycle = refl; free = tt; lives = refl; owed = refl; measured = λ h. tt }
field_leads t (Num x) = next_work_leads t
field_leads t Null = next_work_leads t

-- the stages at which a record is measured, and the name is marked and counted
abbrev pub IsPlain : TraceStage → Type 0
IsPlain (Marking (Measuring x e)) = ⊥
IsPlain (Marking (EntryMark x e fields)) = ⊥
IsPlain (Marking (Counting x fields)) = ⊥
IsPlain stage = Unit {0}

pub plain_leads : (t : TracerView) (x : TraceStage) (w : ℕ) → StageIsFree t x → IsPlain x
    → Leads t (stage_fed (at_stage t x) x w)
plain_leads t (Sending (HeadLook x)) w free plain = on (w == 0)
  where
    on : (b : Bool) → Leads t (if b then at_stage (set_window (at_stage t (Sending (HeadLook x))) (owner t.shape x)
        (found_room t.shape.ring (window_of t (owner t.shape x)))) (Sending (GhostRaise x))
        else at_stage t (Receiving (SlotLook Collector)))
    on true = record { cycle = refl; free = tt; lives = refl; owed = refl; measured = λ h. tt }
    on false = record { cycle = refl; free = tt; lives = refl; owed = refl; measured = λ h. tt }
plain_leads t (Sending (GhostRaise x)) w free plain =
    record { cycle = refl; free = tt; lives = refl; owed = refl; measured = λ h. tt }
plain_leads t (Sending (HeadStore x)) w free plain =
    let l = next_work_leads
    (record (set_window t (owner t.shape x) (head_up (window_of t (owner t.shape x)))) {
      outgoing = None;
      stage = Sending (HeadStore x);
    }) in record { cycle = l.cycle; free = l.free; lives = l.lives; owed = l.owed; measured = l.measured }
plain_leads t (Scanning (FieldLoad scan)) w free plain =
    let l = field_leads (record t { scan = behind_field scan; stage = Scanning (FieldLoad scan) }) (value_at w) in
    record { cycle = l.cycle; free = l.free; lives = l.lives; owed = l.owed; measured = l.measured }
plain_leads t (Scanning (EntryLoad x)) w free plain =
    record { cycle = refl; free = free; lives = refl; owed = refl; measured = λ h. tt }
plain_leads t (Scanning (HeaderLoad x address)) w free plain =
    let l = next_work_leads (record t { scan = scan_of address w; stage = Scanning (HeaderLoad x address) }) in
    record { cycle = l.cycle; free = l.free; lives = l.lives; owed = l.owed; measured = l.measured }
plain_leads t (Receiving (SlotLook source)) w free plain = on (w == 0)
  where
    on : (b : Bool) → Leads t (if b then rings_from (at_stage t (Receiving (SlotLook source))) (after_source t source)
        else at_stage t (Receiving (BusyRaise source (name_at w))))
    on true = let l = rings_lead (at_stage t (Receiving (SlotLook source))) (after_source t source) in
        record { cycle = l.cycle; free = l.free; lives = l.lives; owed = l.owed; measured = l.measured }
    on false = record { cycle = refl; free = tt; lives = refl; owed = refl; measured = λ h. tt }
plain_leads t (Receiving (BusyRaise source x)) w free plain =
    record { cycle = refl; free = tt; lives = refl; owed = refl; measured = λ h. tt }
plain_leads t (Receiving (SlotClear Collector x)) w free plain =
    record { cycle = refl; free = tt; lives = refl; owed = refl; measured = λ h. tt }
plain_leads t (Receiving (SlotClear (Server a) x)) w free plain =
    record { cycle = refl; free = tt; lives = refl; owed = refl; measured = λ h. tt }
plain_leads t (Marking (Considering x)) w free plain = on ((entry_at w).epoch == t.cycle)
  where
    on : (b : Bool) → Leads t (if b then next_work (at_stage t (Marking (Considering x)))
        else at_stage t (Marking (Measuring x (entry_at w))))
    on true =
        let l = next_work_leads (at_stage t (Marking (Considering x))) in
        record { cycle = l.cycle; free = l.free; lives = l.lives; owed = l.owed; measured = l.measured }
    on false = record { cycle = refl; free = tt; lives = refl; owed = refl; measured = λ h. tt }
plain_leads t (Marking (Measuring x e)) w free plain = absurd plain
plain_leads t (Marking (EntryMark x e fields)) w free plain = absurd plain
plain_leads t (Marking (Counting x fields)) w free plain = absurd plain
plain_leads t (Resting BusyLower) w free plain =
    let l = windows_from_lead (record t { busy_up = false; stage = Resting BusyLower }) 0 in
    record { cycle = l.cycle; free = l.free; lives = l.lives; owed = l.owed; measured = l.measured }
plain_leads t (Resting (TailLook r)) w free plain = on (w == 0)
  where
    on : (b : Bool) → Leads t (windows_from (if b then set_window (at_stage t (Resting (TailLook r))) r
        (tail_up t.shape.ring (window_of t r)) else at_stage t (Resting (TailLook r))) (r + 1))
    on true =
        let l = windows_from_lead
        (set_window (at_stage t (Resting (TailLook r))) r (tail_up t.shape.ring (window_of t r))) (r + 1) in
        record { cycle = l.cycle; free = l.free; lives = l.lives; owed = l.owed; measured = l.measured }
    on false = let l = windows_from_lead (at_stage t (Resting (TailLook r))) (r + 1) in
        record { cycle = l.cycle; free = l.free; lives = l.lives; owed = l.owed; measured = l.measured }
plain_leads t (Resting GhostLower) w free plain =
    record { cycle = refl; free = tt; lives = refl; owed = refl; measured = λ h. tt }
plain_leads t Ended w free plain = record { cycle = refl; free = free; lives = refl; owed = refl; measured = λ h. tt }

-- at each stage it stays in its cycle
pub record StaysIn (t u : TracerView) : Type 0 where
  pub cycle : u.cycle ≡ t.cycle
  pub free : StageIsFree u u.stage

stays_in : (t u : TracerView) → Leads t u → StaysIn t u
stays_in t u l = record { cycle = l.cycle; free = l.free }

-- once it has counted the name
abbrev pub counted : TracerView → Name → ℕ → TracerView
counted t x fields = record t {
  lives = slice_set t.lives (own_tablet t.shape x.entry) (live_of t x + (fields + 1));
  stack = t.stack ++ x.entry ∷ [];
  stage = Marking (Counting x fields);
}

pub stage_leads : (t : TracerView) (x : TraceStage) (w : ℕ) → StageIsFree t x
    → StaysIn t (stage_fed (at_stage t x) x w)
stage_leads t (Marking (Measuring x e)) w free = record { cycle = refl; free = tt }
stage_leads t (Marking (EntryMark x e fields)) w free = record { cycle = refl; free = tt }
stage_leads t (Marking (Counting x fields)) w free =
    let l = next_work_leads (counted t x fields) in record { cycle = l.cycle; free = l.free }
stage_leads t (Sending x) w free = stays_in t _ (plain_leads t (Sending x) w free tt)
stage_leads t (Scanning x) w free = stays_in t _ (plain_leads t (Scanning x) w free tt)
stage_leads t (Receiving x) w free = stays_in t _ (plain_leads t (Receiving x) w free tt)
stage_leads t (Marking (Considering x)) w free = stays_in t _ (plain_leads t (Marking (Considering x)) w free tt)
stage_leads t (Resting x) w free = stays_in t _ (plain_leads t (Resting x) w free tt)
stage_leads t Ended w free = stays_in t _ (plain_leads t Ended w free tt)
