-- A server clears a tablet that it left, frees and marks entries; the collector stores the phases of evacuation.
use Rattle.std.proofs.Common.{◌≡◌, ◌≢◌, ℕ, ◌+◌, ◌-◌, ◌<◌, ◌≤◌, inl, inr, ⊎_elim, true, [], length, slice_get, sum_by}
use Rattle.std.proofs.Common.{Some, sym, ap, ◌∙◌, refl, subst, arith, List}
use Rattle.std.specs.Option.{unwrap_or}
use Rattle.std.proofs.lemmas.Bool.{cases_eq}
use Rattle.std.proofs.lemmas.Option.{same_Some}
use Rattle.mako_words.specs.declared.entry_word.EntryWord.{EntryWord}
use Rattle.mako_words.specs.Entries.{entry_at}
use Rattle.mako_words.specs.Phases.{phase_at, cycle_of}
use Rattle.mako_words.proofs.EntryWords.{entry_at-entry_word}
use Rattle.mako_shape.specs.declared.numbers.Numbers.{Numbers}
use Rattle.mako_shape.specs.Places.{Place, phase, entry, home, top, leaving, region_word, index}
use Rattle.mako_shape.specs.Belongings.{tablet_of_entry, region_of_address, word_of_address}
use Rattle.mako_shape.proofs.BelongingLaws.{belongings_in_range}
use Rattle.mako_model.specs.Heaps.{fields_of}
use Rattle.mako_gate.specs.Changes.{tablets_of, Sets, LeavesGates}
use Rattle.mako_gate.specs.Standings.{GateFacet, drained_by, writes}
use Rattle.mako_layout.specs.Layouts.{Slot, Layout, entries_of, regions_of, cycle_words, gifts_at, OneCopy}
use Rattle.mako_layout.specs.Changes.{Alters, AreSame, IsMoved}
use Rattle.mako_layout.specs.Facets.{Work, idle, reads, uses, holds_home, moves, asks, tops, finds, fills, carries}
use Rattle.mako_layout.specs.Facets.{raises, makes, counts, Choice, debt_of, given_of, spare_of, rests_with, has_chosen}
use Rattle.mako_layout.specs.Facets.{Gift, gift_of, times_in}
use Rattle.mako_layout.specs.Evacuations.{slot_of_entry, slot_of, home_read, top_read, to_raise, counted_in, layout_of}
use Rattle.mako_layout.specs.Evacuations.{IsRecordOf, Knows, State, layout, Evacuation}
use Rattle.mako_layout.specs.Beside.{entry_of, IsWriting, MindsEntry, IsReading}
use Rattle.mako_layout.specs.StepParts.{AltersEntry}
use Rattle.mako_layout.proofs.Roles.{away, all_moved}
use Rattle.mako_layout.proofs.Alterations.{alter_kept, clear_kept, finish_kept}
use Rattle.mako_layout.proofs.Choices.{same_kept}
use Rattle.mako_layout.proofs.Besides.{work_knows_kept, writing}
use Rattle.mako_layout.proofs.Frames.{gates_frame, record_within, leaves_gates}
use Rattle.mako_layout.proofs.Stays.{record_kept, size_is}
use Rattle.mako_layout.proofs.Passing.{passed_same, passed_alters}
use Rattle.mako_layout.proofs.Debts.{filled_is}
use Rattle.mako_layout.proofs.Entries.{slot_stored}
use Rattle.mako_gate.proofs.GatesTell.{gates_tell}

-- only leaving words, the phase within the cycle, gifts and spare regions change
pub record KeepsPlaces (n : Numbers) (s : State) (V : Place → ℕ) (k : Choice) : Type 0 where
  pub gates : LeavesGates n s.words V
  pub cycle : cycle_of (phase_at (V phase)) ≡ (layout n s).cycle
  pub entries : (x : ℕ) → x < entries_of n → V (entry x) ≡ s.words (entry x)
  pub homes : (t : ℕ) → t < tablets_of n → V (home t) ≡ s.words (home t)
  pub tops : (t : ℕ) → t < tablets_of n → V (top t) ≡ s.words (top t)
  pub regions : (r a : ℕ) → r < regions_of n → a < n.words → V (region_word r a) ≡ s.words (region_word r a)
  pub debt : (debt_of k) ≡ debt_of s.choice

module _ (n : Numbers) (s : State) (e : Evacuation n s) (V : Place → ℕ) (k : Choice) (p : KeepsPlaces n s V k) where
  abbrev l : Layout
  l = layout n s

  abbrev m : Layout
  m = layout_of n V s.heap s.works k s.made

  pub slots_same : (x : ℕ) → x < entries_of n → m.slot x ≡ l.slot x
  slots_same x h = ap (λ q. slot_of n s.heap x q) (p.entries x h)

  pub homes_same : (t : ℕ) → t < tablets_of n → m.home t ≡ l.home t
  homes_same t h = (λ q. home_read (p.debt q) t (p.homes t h q))

  pub filled_same : (t : ℕ) → t < tablets_of n → m.filled t ≡ l.filled t
  filled_same t h = (λ q. top_read (p.debt q) t (p.tops t h q) + sum_by (to_raise n t) s.works - sum_by
      (counted_in n t) s.works)

  pub places_kept : OneCopy n m →
      ((j : ℕ) (f : GateFacet) (v : Work) → slice_get s.gates j ≡ Some f → slice_get s.works j ≡ Some v →
      IsWriting v → entry_of v < entries_of n → 1 ≤ writes (tablet_of_entry n (entry_of v)) f →
      V (leaving (tablet_of_entry n (entry_of v))) ≡ s.words (leaving (tablet_of_entry n (entry_of v)))) →
      Evacuation n (record s { words = V; choice = k })
  places_kept copy leavings = record {
    seats = e.seats;
    gates = gates_frame n s.words V s.gates p.gates e.gates;
    copy = copy;
    pause = ⊎_elim (λ d. inl (p.debt ∙ d)) (λ q. inr q) e.pause;
    even = λ t h. omega (
      arith,
      e.even t h,
      (let q : top_read (debt_of k) t (V (top t)) ≡ top_read (debt_of s.choice) t (s.words (top t)) = (λ i. top_read
          (p.debt i) t (p.tops t h i)) in q),
    );
    records = λ x h taken.
        let was : (l.slot x).taken ≡ true = ap (λ (q : Slot). q.taken) (sym (slots_same x h)) ∙ taken in
        record_kept n s.words V s.heap x (p.entries x h)
        (λ r a holds. let w = record_within n l e.copy x r a h holds in p.regions r a w.0 w.1) was
        (e.records x h was);
    passed = λ j t b f at is y low h c taken now.
        (let same = slots_same y h in
        let was = e.passed j t b f at is y low h c (ap (λ (q : Slot). q.taken) (sym same) ∙ taken)
        (ap (λ (q : Slot). q.epoch) (sym same) ∙ now ∙ p.cycle) in
        ap (λ (q : Slot). q.region) same ∙ was
        ∙ sym (homes_same t (subst (λ q. q < tablets_of n) c (belongings_in_range.entry n y h))));
    knows = λ j f v at_f at_v. work_knows_kept n l m e.copy s.words V f v (λ h known.
        let x : ℕ = entry_of v in
        let t : ℕ = tablet_of_entry n x in
        let t_in = belongings_in_range.entry n x h in
        record {
          cycle = λ _. p.cycle;
          home = homes_same t t_in;
          taken = λ _ c. ap (λ (q : Slot). q.taken) (slots_same x h) ∙ c;
          region = λ _ _ _. ap (λ (q : Slot). q.region) (slots_same x h);
          offset = λ _ _ _. ap (λ (q : Slot). q.offset) (slots_same x h);
          writer = λ is. record {
            filled = filled_same t t_in;
            leaving = leavings j f v at_f at_v is h (writing n l s.words f v known is);
            top = p.tops t t_in;
            ahead = λ a low high. p.regions (l.home t) a (e.copy.home_in t t_in) high;
            behind = λ r a holds _. let w = record_within n l e.copy x r a h holds in p.regions r a w.0 w.1;
          };
          slot = λ _. slots_same x h;
        }) (e.knows j f v at_f at_v);
  }

module _ (n : Numbers) (s : State) (e : Evacuation n s) (i : ℕ) (g : GateFacet) (at_g : slice_get s.gates i ≡ Some g)
    (w : Work) (at_w : slice_get s.works i ≡ Some w) (never : IsWriting w → ⊥)
    (owes : (t : ℕ) → (to_raise n t w ≡ 0) × (counted_in n t w ≡ 0)) where
  -- the server clears leaving
  pub clear_leaving : (V : Place → ℕ) (t : ℕ) → t < tablets_of n → 1 ≤ drained_by t g.watch →
      s.words (leaving t) ≢ 0 → IsMoved n (layout n s) t → Sets n s.words V (leaving t) 0 →
      Evacuation n (record s { words = V })
  clear_leaving V t inside drained left moved sets =
      let l : Layout = layout n s in
      let m : Layout = layout_of n V s.heap s.works s.choice s.made in
      let others : (u : ℕ) → u < tablets_of n → u ≢ t → V (leaving u) ≡ s.words (leaving u) = λ u h d. sets.others
      (leaving u) h (λ c. d (let b : u ≡ t = cc in b)) in
      let p : KeepsPlaces n s V s.choice = record {
        gates = leaves_gates n s.words V _ _ sets tt;
        cycle = ap (λ q. cycle_of (phase_at q)) (sets.others phase tt (λ c. cc));
        entries = λ x h. sets.others (entry x) h (λ c. cc);
        homes = λ u h. sets.others (home u) h (λ c. cc);
        tops = λ u h. sets.others (top u) h (λ c. cc);
        regions = λ r a h j. sets.others (region_word r a) (h, j) (λ c. cc);
        debt = refl;
      } in
      places_kept n s e V s.choice p
      (same_kept n (record l { leaving = m.leaving })
      (clear_kept n l e.copy m.leaving t
      (record { inside = inside; left = left; moved = moved; cleared = sets.here; others = others })) m
      (record {
        cycle = p.cycle;
        slots = slots_same n s e V s.choice p;
        homes = homes_same n s e V s.choice p;
        filleds = filled_same n s e V s.choice p;
        leavings = λ u h. refl;
        givens = λ u h. refl;
        spares = λ q h. refl;
        mades = λ _ _. refl;
      }))
      (λ j f v at_f at_v is h one. others (tablet_of_entry n (entry_of v))
      (belongings_in_range.entry n (entry_of v) h) (λ same.
      elim (cases_eq j i) [
        | inl c ↦ (let own : w ≡ v = same_Some w v (sym at_w ∙ ap (slice_get s.works) (sym c) ∙ at_v) in
            never (subst IsWriting (sym own) is))
        | inr d ↦
            (let z = (gates_tell n s.words s.gates e.gates).writers.one t i j g f inside (λ c. d (sym c)) at_g at_f
            (omega (arith, drained)) in
            let y : 1 ≤ writes t f = subst (λ c. 1 ≤ writes c f) same one in omega arith)
      ]))

  -- and where it does, the top word is the sum of the records of the cycle
  pub cleared_top : (t : ℕ) → t < tablets_of n → 1 ≤ drained_by t g.watch → s.words (leaving t) ≢ 0 →
      IsMoved n (layout n s) t → s.words (top t) ≡ cycle_words n (layout n s) t
  cleared_top t inside drained left moved =
      sym (filled_is n s e i g at_g w at_w t inside (omega (arith, drained)) (owes t).0 (owes t).1)
      ∙ all_moved n (layout n s) e.copy t inside left moved

-- the phase word is stored within the cycle, and no tablet's leaving word changes: Store Evac; at Store Idle the
-- gifts become spare too
pub store_phase : (n : Numbers) (s : State) → Evacuation n s → (V : Place → ℕ) (v : ℕ) → Sets n s.words V phase v →
    cycle_of (phase_at v) ≡ (layout n s).cycle → Evacuation n (record s { words = V })
store_phase n s e V v sets same =
    let l : Layout = layout n s in
    let m : Layout = layout_of n V s.heap s.works s.choice s.made in
    let p : KeepsPlaces n s V s.choice = record {
      gates = leaves_gates n s.words V _ _ sets tt;
      cycle = ap (λ q. cycle_of (phase_at q)) sets.here ∙ same;
      entries = λ x h. sets.others (entry x) h (λ c. cc);
      homes = λ u h. sets.others (home u) h (λ c. cc);
      tops = λ u h. sets.others (top u) h (λ c. cc);
      regions = λ r a h j. sets.others (region_word r a) (h, j) (λ c. cc);
      debt = refl;
    } in
    places_kept n s e V s.choice p
    (same_kept n l e.copy m (record {
      cycle = p.cycle;
      slots = slots_same n s e V s.choice p;
      homes = homes_same n s e V s.choice p;
      filleds = filled_same n s e V s.choice p;
      leavings = λ u h. sets.others (leaving u) h (λ c. cc);
      givens = λ u h. refl;
      spares = λ q h. refl;
      mades = λ _ _. refl;
    }))
    (λ j f v at_f at_v is h one. sets.others (leaving (tablet_of_entry n (entry_of v)))
    (belongings_in_range.entry n (entry_of v) h) (λ c. cc))

pub store_idle : (n : Numbers) (s : State) → Evacuation n s →
    (V : Place → ℕ) (v : ℕ) (gl : List Gift) (sl sl' : List ℕ) → s.choice ≡ has_chosen gl sl →
    Sets n s.words V phase v → cycle_of (phase_at v) ≡ (layout n s).cycle →
    ((t : ℕ) → t < tablets_of n → s.words (leaving t) ≡ 0) →
    ((x : ℕ) → x < entries_of n → ((layout n s).slot x).taken ≡ true →
    ((layout n s).slot x).epoch ≡ (layout n s).cycle) →
    ((r : ℕ) → r < regions_of n → times_in sl' r ≡ (layout n s).spare r + gifts_at n (layout n s) r) →
    Evacuation n (record s { words = V; choice = rests_with sl' })
store_idle n s e V v gl sl sl' is sets same none good more =
    let k : Choice = rests_with sl' in
    let l : Layout = layout n s in
    let m : Layout = layout_of n V s.heap s.works k s.made in
    let p : KeepsPlaces n s V k = record {
      gates = leaves_gates n s.words V _ _ sets tt;
      cycle = ap (λ q. cycle_of (phase_at q)) sets.here ∙ same;
      entries = λ x h. sets.others (entry x) h (λ c. cc);
      homes = λ u h. sets.others (home u) h (λ c. cc);
      tops = λ u h. sets.others (top u) h (λ c. cc);
      regions = λ r a h j. sets.others (region_word r a) (h, j) (λ c. cc);
      debt = sym (ap debt_of is);
    } in
    places_kept n s e V k p
    (same_kept n (record l { given = m.given; spare = m.spare })
    (finish_kept n l e.copy m.given m.spare
    (record { left = none; moved = good; none = λ _ _. refl; spares = more })) m
    (record {
      cycle = p.cycle;
      slots = slots_same n s e V k p;
      homes = homes_same n s e V k p;
      filleds = filled_same n s e V k p;
      leavings = λ u h. sets.others (leaving u) h (λ c. cc);
      givens = λ u h. refl;
      spares = λ q h. refl;
      mades = λ _ _. refl;
    }))
    (λ j f v at_f at_v is h one. sets.others (leaving (tablet_of_entry n (entry_of v)))
    (belongings_in_range.entry n (entry_of v) h) (λ c. cc))

-- the collector goes on with its choice, which is read as before
pub choice_kept : (n : Numbers) (s : State) → Evacuation n s → (k : Choice) → debt_of k ≡ debt_of s.choice →
    given_of k ≡ given_of s.choice →
    spare_of k ≡ spare_of s.choice → Evacuation n (record s { choice = k })
choice_kept n s e k debt given spare =
    let m : Layout = layout_of n s.words s.heap s.works k s.made in
    let p : KeepsPlaces n s s.words k = record {
      gates = record { tablets = λ _ _. refl; owns = λ _ _. refl; turns = λ _ _. refl };
      cycle = refl;
      entries = λ _ _. refl;
      homes = λ _ _. refl;
      tops = λ _ _. refl;
      regions = λ _ _ _ _. refl;
      debt = debt;
    } in
    places_kept n s e s.words k p
    (same_kept n (layout n s) e.copy m (record {
      cycle = refl;
      slots = λ _ _. refl;
      homes = homes_same n s e s.words k p;
      filleds = filled_same n s e s.words k p;
      leavings = λ _ _. refl;
      givens = λ t _. ap (λ q. gift_of q t) given;
      spares = λ r _. ap (λ q. times_in q r) spare;
      mades = λ _ _. refl;
    }))
    (λ _ _ _ _ _ _ _ _. refl)

-- no view writes a record of a taken entry in a tablet that is not left
no_writing : (n : Numbers) (l : Layout) → OneCopy n l → (W : Place → ℕ) (f : GateFacet) (v : Work) → Knows n l W f v →
    MindsEntry v → l.leaving (tablet_of_entry n (entry_of v)) ≡ 0 → (l.slot (entry_of v)).taken ≡ true → ⊥
no_writing n l o W f idle k is none taken = is
no_writing n l o W f (reads x r q) k is none taken = is
no_writing n l o W f (uses x r q) k is none taken = is
no_writing n l o W f (holds_home x r) k is none taken = is
no_writing n l o W f (moves x found r) k is none taken = away n l o x k.inside k.taken k.epoch
    (λ c. k.out (c ∙ sym k.region)) none
no_writing n l o W f (asks x) k is none taken = is
no_writing n l o W f (tops x q z) k is none taken = is
no_writing n l o W f (finds name q z) k is none taken = let c = k.free in cc
no_writing n l o W f (fills x found r q j) k is none taken = away n l o x k.inside k.taken k.epoch
    (λ c. k.out (c ∙ sym k.kept.region)) none
no_writing n l o W f (carries x found r q j v) k is none taken = away n l o x k.fills.inside k.fills.taken k.fills.epoch
    (λ c. k.fills.out (c ∙ sym k.fills.kept.region)) none
no_writing n l o W f (raises x r q z) k is none taken = k.left none
no_writing n l o W f (makes name r q z j) k is none taken = let c = k.free in cc
no_writing n l o W f (counts name r q z) k is none taken = let c = k.makes.free in cc

module _ (n : Numbers) (s : State) (e : Evacuation n s) (V : Place → ℕ) (E : EntryWord) (x : ℕ)
    (p : AltersEntry n s V E x) where
  abbrev l1 : Layout
  l1 = layout n s

  abbrev m1 : Layout
  m1 = layout_of n V s.heap s.works s.choice s.made

  now : m1.slot x ≡ slot_of_entry n s.heap x E
  now = slot_stored n s.heap x (V (entry x)) E p.fits p.sets.here

  other : (y : ℕ) → y < entries_of n → y ≢ x → V (entry y) ≡ s.words (entry y)
  other y h d = p.sets.others (entry y) h (λ c. d (let b : y ≡ x = cc in b))

  slot_other : (y : ℕ) → y < entries_of n → y ≢ x → m1.slot y ≡ l1.slot y
  slot_other y h d = ap (λ q. slot_of n s.heap y q) (other y h d)

  taken_after : (m1.slot x).taken ≡ true → E.taken ≡ true
  taken_after t = ap (λ (q : Slot). q.taken) (sym now) ∙ t

  region_after : E.taken ≡ true → (m1.slot x).region ≡ (l1.slot x).region
  region_after t = ap (λ (q : Slot). q.region) now ∙ ap (region_of_address n) (p.address t)

  offset_after : E.taken ≡ true → (m1.slot x).offset ≡ (l1.slot x).offset
  offset_after t = ap (λ (q : Slot). q.offset) now ∙ ap (word_of_address n) (p.address t)

  size_after : E.taken ≡ true → (m1.slot x).size ≡ (l1.slot x).size
  size_after t = ap (λ (q : Slot). q.size) now
      ∙ ap (λ c. length (unwrap_or (fields_of s.heap (record { entry = x; generation = c })) []) + 1) (p.generation t)

  regions_same : (r a : ℕ) → r < regions_of n → a < n.words → V (region_word r a) ≡ s.words (region_word r a)
  regions_same r a h j = p.sets.others (region_word r a) (h, j) (λ c. cc)

  record_after : (m1.slot x).taken ≡ true → IsRecordOf n V s.heap x (m1.slot x)
  record_after taken =
      let t = taken_after taken in
      let c = e.records x p.inside p.was in
      let decoded : entry_at (V (entry x)) ≡ E = ap entry_at p.sets.here ∙ entry_at-entry_word E p.fits in
      record {
        fields = c.fields;
        are = ap (λ (q : EntryWord). fields_of s.heap (record { entry = x; generation = q.generation })) decoded
            ∙ ap (λ q. fields_of s.heap (record { entry = x; generation = q })) (p.generation t) ∙ c.are;
        address = (λ q. index n (region_word (region_after t q) (offset_after t q))) ∙ c.address ∙ sym (p.address t)
            ∙ ap (λ (q : EntryWord). q.address) (sym decoded);
        words = λ b less. (λ q. V (region_word (region_after t q) (offset_after t q + b)))
            ∙ (let w = record_within n l1 e.copy x (l1.slot x).region ((l1.slot x).offset + b) p.inside
            (record {
              taken = p.was;
              region = refl;
              low = omega arith;
              high = omega (arith, size_is n s.words s.heap x c);
            }) in
            regions_same (l1.slot x).region ((l1.slot x).offset + b) w.0 w.1)
            ∙ c.words b less;
      }

  alters : Alters n l1 m1.slot x
  alters = record {
    inside = p.inside;
    stays = p.stays;
    same = λ taken. let t = taken_after taken in
        record {
          taken = p.was;
          region = region_after t;
          offset = offset_after t;
          size = size_after t;
          home = p.home t;
        };
    others = slot_other;
  }

  same_after : AreSame n (record l1 { slot = m1.slot }) m1
  same_after = record {
    cycle = ap (λ q. cycle_of (phase_at q)) (p.sets.others phase tt (λ c. cc));
    slots = λ y h. refl;
    homes = λ u h. ap (home_read (debt_of s.choice) u) (p.sets.others (home u) h (λ c. cc));
    filleds = λ u h.
        (λ q. top_read (debt_of s.choice) u (p.sets.others (top u) h (λ c. cc) q) + sum_by (to_raise n u)
        s.works - sum_by (counted_in n u) s.works);
    leavings = λ u h. p.sets.others (leaving u) h (λ c. cc);
    givens = λ u h. refl;
    spares = λ q h. refl;
    mades = λ _ _. refl;
  }

  pub alter_entry : Evacuation n (record s { words = V })
  alter_entry = record {
    seats = e.seats;
    gates = gates_frame n s.words V s.gates (leaves_gates n s.words V _ _ p.sets tt) e.gates;
    copy = same_kept n (record l1 { slot = m1.slot }) (alter_kept n l1 e.copy m1.slot x alters) m1 same_after;
    pause = e.pause;
    even = λ t h. omega (arith, e.even t h, ap (top_read (debt_of s.choice) t) (p.sets.others (top t) h (λ c. cc)));
    records = λ y h taken. elim (cases_eq y x) [
      | inl same ↦ subst (λ q. (m1.slot q).taken ≡ true → IsRecordOf n V s.heap q (m1.slot q)) (sym same) record_after
          taken
      | inr d ↦ (let was : (l1.slot y).taken ≡ true = ap (λ (q : Slot). q.taken) (sym (slot_other y h d)) ∙ taken in
          record_kept n s.words V s.heap y (other y h d)
          (λ r a holds. let w = record_within n l1 e.copy y r a h holds in regions_same r a w.0 w.1) was
          (e.records y h was))
    ];
    passed = λ j t b f at is. passed_same n (record l1 { slot = m1.slot }) m1 t b same_after
        (passed_alters n l1 m1.slot x alters t b (e.passed j t b f at is));
    knows = λ j f v at_f at_v. work_knows_kept n l1 m1 e.copy s.words V f v (λ h known.
        let y : ℕ = entry_of v in
        let t : ℕ = tablet_of_entry n y in
        let t_in = belongings_in_range.entry n y h in
        let cycle : m1.cycle ≡ l1.cycle = ap (λ q. cycle_of (phase_at q)) (p.sets.others phase tt (λ c. cc)) in
        let home_same : m1.home t ≡ l1.home t = ap (home_read (debt_of s.choice) t)
        (p.sets.others (home t) t_in (λ c. cc)) in
        let read : y ≡ x → IsReading v → E.taken ≡ true = λ same reading. p.read j v at_v reading same in
        record {
          cycle = λ _. cycle;
          home = home_same;
          taken = λ reading c. elim (cases_eq y x) [
            | inl same ↦ ap (λ q. (m1.slot q).taken) same ∙ ap (λ (q : Slot). q.taken) now ∙ read same reading
            | inr d ↦ ap (λ (q : Slot). q.taken) (slot_other y h d) ∙ c
          ];
          region = λ reading _ _. elim (cases_eq y x) [
            | inl same ↦ ap (λ q. (m1.slot q).region) same ∙ region_after (read same reading)
                ∙ ap (λ q. (l1.slot q).region) (sym same)
            | inr d ↦ ap (λ (q : Slot). q.region) (slot_other y h d)
          ];
          offset = λ reading _ _. elim (cases_eq y x) [
            | inl same ↦ ap (λ q. (m1.slot q).offset) same ∙ offset_after (read same reading)
                ∙ ap (λ q. (l1.slot q).offset) (sym same)
            | inr d ↦ ap (λ (q : Slot). q.offset) (slot_other y h d)
          ];
          writer = λ is. record {
            filled = (λ q. top_read (debt_of s.choice) t (p.sets.others (top t) t_in (λ c. cc) q) + sum_by
                (to_raise n t) s.works - sum_by (counted_in n t) s.works);
            leaving = p.sets.others (leaving t) t_in (λ c. cc);
            top = p.sets.others (top t) t_in (λ c. cc);
            ahead = λ a low high. regions_same (l1.home t) a (e.copy.home_in t t_in) high;
            behind = λ r a holds _. let w = record_within n l1 e.copy y r a h holds in regions_same r a w.0 w.1;
          };
          slot = λ minds. elim (cases_eq y x) [
            | inl same ↦
                absurd (no_writing n l1 e.copy s.words f v known minds
                (ap (λ q. l1.leaving (tablet_of_entry n q)) same ∙ p.stays) (ap (λ q. (l1.slot q).taken) same ∙ p.was))
            | inr d ↦ slot_other y h d
          ];
        }) (e.knows j f v at_f at_v);
  }
