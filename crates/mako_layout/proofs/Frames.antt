-- Frames: what one changed word leaves of the layout, the gates and the records.
use Rattle.std.proofs.Common.{◌≡◌, ◌≢◌, ℕ, ◌+◌, ◌-◌, ◌<◌, ◌≤◌, inl, inr, List, sum_by, sym, ap, ◌∙◌, refl, subst, arith}
use Rattle.mako_shape.specs.declared.numbers.Numbers.{Numbers}
use Rattle.mako_shape.specs.Places.{Place, phase, mutator_gate, tablet_gate, turn, entry, home, top, leaving}
use Rattle.mako_shape.specs.Places.{region_word}
use Rattle.mako_shape.specs.Belongings.{tablet_of_entry}
use Rattle.mako_shape.proofs.BelongingLaws.{belongings_in_range}
use Rattle.mako_model.specs.Heaps.{Heap}
use Rattle.mako_words.specs.Phases.{phase_at, cycle_of}
use Rattle.mako_layout.specs.Layouts.{Slot, Layout, entries_of, regions_of, Holds, OneCopy}
use Rattle.mako_layout.specs.Changes.{AreSame}
use Rattle.mako_layout.specs.Facets.{Work, Choice, debt_of}
use Rattle.mako_layout.specs.Evacuations.{slot_of, home_read, top_read, to_raise, counted_in, layout_of}
use Rattle.mako_layout.specs.Beside.{Beside}
use Rattle.mako_layout.specs.Frames.{SameTable, LeavesLayout, IsElsewhere, IsNoGate, PlacesAreApart}
use Rattle.mako_layout.proofs.Roles.{free_above, one_home}
use Rattle.mako_gate.specs.Changes.{tablets_of, Sets, LeavesGates}
use Rattle.mako_gate.specs.Standings.{GateFacet, writes}
use Rattle.mako_gate.specs.Gates.{Gates}

module _ (n : Numbers) (W V : Place → ℕ) (p : Place) (v : ℕ) (s : Sets n W V p v) where
  pub leaves_layout : IsElsewhere p → LeavesLayout n W V
  leaves_layout free = record {
    table = record {
      phase = s.others phase tt (λ e. subst IsElsewhere (sym e) free);
      entries = λ x h. s.others (entry x) h (λ e. subst IsElsewhere (sym e) free);
      homes = λ t h. s.others (home t) h (λ e. subst IsElsewhere (sym e) free);
      tops = λ t h. s.others (top t) h (λ e. subst IsElsewhere (sym e) free);
      leavings = λ t h. s.others (leaving t) h (λ e. subst IsElsewhere (sym e) free);
    };
    regions = λ r a h k. s.others (region_word r a) (h, k) (λ e. subst IsElsewhere (sym e) free);
  }

  pub leaves_gates : IsNoGate p → LeavesGates n W V
  leaves_gates free = record {
    tablets = λ t h. s.others (tablet_gate t) h (λ e. subst IsNoGate (sym e) free);
    owns = λ m h. s.others (mutator_gate m) h (λ e. subst IsNoGate (sym e) free);
    turns = λ t h. s.others (turn t) h (λ e. subst IsNoGate (sym e) free);
  }

module _ (n : Numbers) (W V : Place → ℕ) where
  pub table_beside_region : (r w v : ℕ) → Sets n W V (region_word r w) v → SameTable n W V
  table_beside_region r w v s = record {
    phase = s.others phase tt (λ e. cc);
    entries = λ x h. s.others (entry x) h (λ e. cc);
    homes = λ t h. s.others (home t) h (λ e. cc);
    tops = λ t h. s.others (top t) h (λ e. cc);
    leavings = λ t h. s.others (leaving t) h (λ e. cc);
  }

  pub gates_frame : (gs : List GateFacet) → LeavesGates n W V → Gates n W gs → Gates n V gs
  gates_frame gs s g = record {
    many = g.many;
    tablets = λ t h. rw (s.tablets t h) (g.tablets t h);
    owns = λ m h. rw (s.owns m h) (g.owns m h);
    turns = λ t h. s.turns t h ∙ g.turns t h;
    holder = g.holder;
    mutator = g.mutator;
    seat = g.seat;
    shutter = g.shutter;
    pauser = g.pauser;
  }

  pub layout_same : (h : Heap) (js ks : List Work) (k : Choice) (d : ℕ → ℕ) → SameTable n W V →
      ((t : ℕ) → t < tablets_of n → sum_by (to_raise n t) ks ≡ sum_by (to_raise n t) js) →
      ((t : ℕ) → t < tablets_of n → sum_by (counted_in n t) ks ≡ sum_by (counted_in n t) js) →
      AreSame n (layout_of n W h js k d) (layout_of n V h ks k d)
  layout_same h js ks k d s raise count = record {
    cycle = ap (λ w. cycle_of (phase_at w)) s.phase;
    slots = λ x m. ap (slot_of n h x) (s.entries x m);
    homes = λ t m. ap (home_read (debt_of k) t) (s.homes t m);
    filleds = λ t m. (λ i. top_read (debt_of k) t (s.tops t m i) + raise t m i - count t m i);
    leavings = s.leavings;
    givens = λ t m. refl;
    spares = λ r m. refl;
    mades = λ _ _. refl;
  }

pub places_are_apart : PlacesAreApart
places_are_apart = record { layout = leaves_layout; gates = leaves_gates }

module _ (n : Numbers) (l : Layout) (o : OneCopy n l) where
  -- the words of taken records are in range
  pub record_within : (x r w : ℕ) → x < entries_of n → Holds (l.slot x) r w → (r < regions_of n) × (w < n.words)
  record_within x r w h k =
      let t = belongings_in_range.entry n x h in
      elim (o.whole x h k.taken) [
        | inl i ↦ (
          subst (λ q. q < regions_of n) (sym i.region ∙ k.region) (o.home_in (tablet_of_entry n x) t),
          omega
              (arith, k.high, i.below, o.within (tablet_of_entry n x) t),
        )
        | inr g ↦
            (omega (arith, k.region, g.region, o.given_in (tablet_of_entry n x) t), omega (arith, k.high, g.below))
      ]

  -- a store past the words in use leaves the records, and what other writers see
  module _ (W V : Place → ℕ) (t a v : ℕ) (inside : t < tablets_of n) (past : l.filled t ≤ a)
      (s : Sets n W V (region_word (l.home t) a) v) where
    pub record_stays : (x r w : ℕ) → x < entries_of n → Holds (l.slot x) r w → V (region_word r w) ≡ W (region_word r w)
    record_stays x r w h k = s.others (region_word r w) (record_within x r w h k) (λ e.
        let same_r : r ≡ l.home t = cc in
        let same_w : w ≡ a = cc in
        let below = free_above n l o x t r w h inside k same_r in omega arith)

    pub ahead_stays : (u w : ℕ) → u < tablets_of n → u ≢ t → w < n.words →
        V (region_word (l.home u) w) ≡ W (region_word (l.home u) w)
    ahead_stays u w h d k = s.others (region_word (l.home u) w) (o.home_in u h, k) (λ e.
        let same : l.home u ≡ l.home t = cc in d (one_home n l o u t h inside same))

module _ (n : Numbers) (l m : Layout) (W V : Place → ℕ) (p : AreSame n l m) where
  -- beside a step that leaves the layout
  pub beside_same : (f : GateFacet) (x : ℕ) → x < entries_of n →
      (1 ≤ writes (tablet_of_entry n x) f → V (top (tablet_of_entry n x)) ≡ W (top (tablet_of_entry n x))) →
      (1 ≤ writes (tablet_of_entry n x) f → (w : ℕ) → l.filled (tablet_of_entry n x) ≤ w → w < n.words →
      V (region_word (l.home (tablet_of_entry n x)) w) ≡ W (region_word (l.home (tablet_of_entry n x)) w)) →
      (1 ≤ writes (tablet_of_entry n x) f → (r w : ℕ) → Holds (l.slot x) r w → r ≢ l.home (tablet_of_entry n x) →
      V (region_word r w) ≡ W (region_word r w)) →
      Beside n l m W V f x
  beside_same f x h top_same ahead behind =
      let k = belongings_in_range.entry n x h in
      record {
        cycle = p.cycle;
        home = p.homes (tablet_of_entry n x) k;
        taken = λ t. ap (λ (s : Slot). s.taken) (p.slots x h) ∙ t;
        region = λ t e. ap (λ (s : Slot). s.region) (p.slots x h);
        offset = λ t e. ap (λ (s : Slot). s.offset) (p.slots x h);
        writer = λ writing. record {
          quiet = record {
            filled = p.filleds (tablet_of_entry n x) k;
            leaving = p.leavings (tablet_of_entry n x) k;
            top = top_same writing;
            ahead = ahead writing;
            behind = behind writing;
          };
          slot = p.slots x h;
        };
      }
