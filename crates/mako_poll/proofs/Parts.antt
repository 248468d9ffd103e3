-- Where the parts of tracing lead.
use Rattle.std.proofs.Common.{◌≡◌, ℕ, suc, ◌+◌, ◌-◌, ◌<◌, ◌≤◌, ◌==◌, ◌&&◌, ◌||◌, nat_lt, if◌then◌else◌, Bool, true}
use Rattle.std.proofs.Common.{false, Option, Some, None, is_some, is_none, List, [], ◌∷◌, length, take, drop}
use Rattle.std.proofs.Common.{slice_index, slice_index_or, get_or, ap, sym, subst, refl, arith}
use Rattle.std.specs.List.{position, position_or_len}
use Rattle.std.proofs.lemmas.Bool.{and_parts}
use Rattle.std.proofs.lemmas.Bool.Decides.{nat_tests}
use Rattle.std.proofs.lemmas.List.Sums.{fails_before_first}
use Rattle.mako_words.specs.declared.name.Name.{Name}
use Rattle.mako_shape.specs.declared.numbers.Numbers.{Numbers}
use Rattle.mako_ring.specs.Facets.{resting, ServerFacet}
use Rattle.mako_ring.specs.TraceFacets.{is_filled}
use Rattle.mako_ring.specs.TracerFacets.{serving_of}
use Rattle.mako_ring.specs.TracerFacts.{holds, TracerKeeps, TracerStands}
use Rattle.mako_ring.specs.Tracing.{TracerView, no_window, window_of, is_open, at_stage, work_on, next_work}
use Rattle.mako_ring.specs.Tracing.{past_windows, windows_from, rest}
use Rattle.mako_ring.specs.declared.window.Window.{Window}
use Rattle.mako_ring.proofs.Found.{found_window}
use Rattle.mako_ring.specs.declared.tracing.Scan.{Scan}
use Rattle.mako_ring.specs.declared.tracing.Source.TheVariants.{Collector}
use Rattle.mako_ring.specs.declared.tracing.ScanStage.TheVariants.{EntryLoad}
use Rattle.mako_ring.specs.declared.tracing.ReceiveStage.TheVariants.{SlotLook}
use Rattle.mako_ring.specs.declared.tracing.RestStage.TheVariants.{BusyLower, GhostLower}
use Rattle.mako_ring.specs.declared.tracing.TraceStage.TheVariants.{Scanning, Receiving, Resting, Ended}
use Rattle.mako_poll.proofs.Flagging.{false_true}

-- what is held, from its parts
holds_on : (t : TracerView) (o : Option Name) (s : Option Scan) (b : Bool) → t.outgoing ≡ o → t.scan ≡ s
    → is_filled t.stack ≡ b → holds t ≡ (is_some o || (is_some s || b))
holds_on t o s b eo es ek = λ i. is_some (eo i) || (is_some (es i) || ek i)

or_true : (a b : Bool) → b ≡ true → (a || b) ≡ true
or_true true b e = refl
or_true false b e = e

pub outgoing_holds : (t : TracerView) (x : Name) → t.outgoing ≡ Some x → holds t ≡ true
outgoing_holds t x e = ap (λ (o : Option Name). is_some o || (is_some t.scan || is_filled t.stack)) e

pub scan_holds : (t : TracerView) (s : Scan) → t.scan ≡ Some s → holds t ≡ true
scan_holds t s e = or_true (is_some t.outgoing) (is_some t.scan || is_filled t.stack)
    (ap (λ (o : Option Scan). is_some o || is_filled t.stack) e)

stack_filled : (xs : List ℕ) → (length xs == 0) ≡ false → is_filled xs ≡ true
stack_filled [] e = absurd (false_true true e refl)
stack_filled (x ∷ xs) e = refl

stack_empty : (xs : List ℕ) → (length xs == 0) ≡ true → is_filled xs ≡ false
stack_empty [] e = refl
stack_empty (x ∷ xs) e = absurd (some (length xs) e)
  where
    some : (k : ℕ) → (suc k == 0) ≡ true → ⊥
    some k e = grind (arith, nat_tests)

-- the facet of a machine that is about to do nothing on a ring, and has nothing in its stage
abbrev pub rested : TracerView → ServerFacet
rested t = record (serving_of t) { working = holds t; doing = resting }

work_facet : (t : TracerView) (o : Option Name) (s : Option Scan) → t.outgoing ≡ o → t.scan ≡ s
    → serving_of (work_on t o s) ≡ rested t
work_facet t (Some x) s eo es = refl
work_facet t None (Some s) eo es = refl
work_facet t None None eo es = on (length t.stack == 0) refl
  where
    on : (b : Bool) → (length t.stack == 0) ≡ b
        → serving_of (if b then at_stage t (Receiving (SlotLook Collector)) else record t {
          stack =
              take (length t.stack - 1) t.stack;
          stage = Scanning (EntryLoad (slice_index t.stack (length t.stack - 1)));
        }) ≡ rested t
    on true e = refl
    on false e = λ i. record (serving_of t) {
      working =
          sym (holds_on t None None true eo es (stack_filled t.stack e)) i;
      doing = resting;
    }

pub next_work_facet : (t : TracerView) → serving_of (next_work t) ≡ rested t
next_work_facet t = work_facet t t.outgoing t.scan refl refl

module _ (n : Numbers) (i : ℕ) where
  abbrev pub Kept : TracerView → Type 0
  Kept t = TracerKeeps n i t.server t.windows t.ghost_at t.outgoing

  work_stands : (t : TracerView) (o : Option Name) (s : Option Scan) → t.outgoing ≡ o → t.scan ≡ s → t.shape ≡ n
      → Kept t → TracerStands n i (work_on t o s)
  work_stands t (Some x) s eo es shape kept = record { shape_is = shape; keeps = kept; stage = eo }
  work_stands t None (Some s) eo es shape kept = record { shape_is = shape; keeps = kept; stage = es }
  work_stands t None None eo es shape kept = on (length t.stack == 0) refl
    where
      on : (b : Bool) → (length t.stack == 0) ≡ b
          → TracerStands n i (if b then at_stage t (Receiving (SlotLook Collector)) else record t {
            stack =
                take (length t.stack - 1) t.stack;
            stage = Scanning (EntryLoad (slice_index t.stack (length t.stack - 1)));
          })
      on true e = record {
        shape_is = shape;
        keeps = kept;
        stage = (tt, λ none. holds_on t None None false eo es (stack_empty t.stack e));
      }
      on false e = record { shape_is = shape; keeps = kept; stage = tt }

  pub next_work_stands : (t : TracerView) → t.shape ≡ n → Kept t → TracerStands n i (next_work t)
  next_work_stands t shape kept = work_stands t t.outgoing t.scan refl refl shape kept

-- ---- windows
pub past_windows_facet : (t : TracerView) (first : ℕ) (o : Option ℕ) → serving_of (past_windows t first o) ≡ rested t
past_windows_facet t first (Some k) = refl
past_windows_facet t first None = low (t.ghost_up && is_none (position is_open t.windows))
  where
    low : (b : Bool) → serving_of (if b then at_stage t (Resting GhostLower) else at_stage t Ended) ≡ rested t
    low true = refl
    low false = refl

pub windows_facet : (t : TracerView) (first : ℕ) → serving_of (windows_from t first) ≡ rested t
windows_facet t first = past_windows_facet t first (position is_open (drop first t.windows))

-- where none is found, none is open
pub none_open : (ws : List Window) → is_none (position is_open ws) ≡ true → (r : ℕ) → r < length ws
    → (slice_index_or ws r no_window).head ≤ (slice_index_or ws r no_window).tail
none_open ws none r lt =
    let past : length ws ≤ position_or_len is_open ws =
    on (nat_lt (position_or_len is_open ws) (length ws)) refl none in
    closed (get_or ws r no_window) (fails_before_first is_open ws r no_window (omega arith))
  where
    on : (b : Bool) → nat_lt (position_or_len is_open ws) (length ws) ≡ b
        → is_none (if b then Some (position_or_len is_open ws) else None) ≡ true
        → length ws ≤ position_or_len is_open ws
    on true e z = absurd (false_true false refl z)
    on false e z = grind (arith, nat_tests)

    closed : (w : Window) → is_open w ≡ false → w.head ≤ w.tail
    closed w e = grind (arith, nat_tests)

module _ (n : Numbers) (i : ℕ) where
  past_windows_stand : (t : TracerView) (first : ℕ) (o : Option ℕ) → position is_open (drop first t.windows) ≡ o
      → t.shape ≡ n → Kept n i t → holds t ≡ false → TracerStands n i (past_windows t first o)
  past_windows_stand t first (Some k) e shape kept none =
      let f = found_window first t.windows k e in record {
        shape_is = shape;
        keeps = kept;
        stage = (
          none,
          subst (λ (m : Numbers). first + k < m.servers) (sym shape) (let l = kept.windows_are in let h = f.0 in
              omega arith),
          (λ same. let own : (window_of t (first + k)).tail ≡ (window_of t (first + k)).head =
              subst (λ (r : ℕ). (window_of t r).tail ≡ (window_of t r).head) (sym same) kept.own in let h = f.1 in
              omega arith),
          f.1,
        );
      }
  past_windows_stand t first None e shape kept none = low (t.ghost_up && is_none (position is_open t.windows)) refl
    where
      low : (b : Bool) → (t.ghost_up && is_none (position is_open t.windows)) ≡ b
          → TracerStands n i (if b then at_stage t (Resting GhostLower) else at_stage t Ended)
      low true e = record {
        shape_is = shape;
        keeps = kept;
        stage = (none, (and_parts t.ghost_up (is_none (position is_open t.windows)) e).1);
      }
      low false e = record { shape_is = shape; keeps = kept; stage = tt }

  pub windows_stand : (t : TracerView) (first : ℕ) → t.shape ≡ n → Kept n i t → holds t ≡ false
      → TracerStands n i (windows_from t first)
  windows_stand t first shape kept none =
      past_windows_stand t first (position is_open (drop first t.windows)) refl shape kept none

  pub rest_stands : (t : TracerView) → t.shape ≡ n → Kept n i t → holds t ≡ false → TracerStands n i (rest t)
  rest_stands t shape kept none = on t.busy_up
    where
      on : (b : Bool) → TracerStands n i (if b then at_stage t (Resting BusyLower) else windows_from t 0)
      on true = record { shape_is = shape; keeps = kept; stage = none }
      on false = windows_stand t 0 shape kept none

pub rest_facet : (t : TracerView) → serving_of (rest t) ≡ rested t
rest_facet t = on t.busy_up
  where
    on : (b : Bool) → serving_of (if b then at_stage t (Resting BusyLower) else windows_from t 0) ≡ rested t
    on true = refl
    on false = windows_facet t 0
