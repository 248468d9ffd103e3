-- An entry is stored, whose record stands at the end of the home: by a copy, or for a new object.
use Rattle.std.proofs.Common.{◌≡◌, ◌≢◌, ℕ, ◌+◌, ◌<◌, ◌≤◌, ◌==◌, ◌⊎◌, inl, inr, ⊎_elim, true, false, List, [], length}
use Rattle.std.proofs.Common.{set, slice_get, get_or, sum_by, Some, sym, ap, ◌∙◌, refl, subst, arith}
use Rattle.std.specs.Option.{unwrap_or}
use Rattle.std.proofs.lemmas.List.{length-set}
use Rattle.std.proofs.lemmas.Bool.{cases_eq}
use Rattle.std.proofs.lemmas.Option.{same_Some}
use Rattle.mako_words.specs.declared.value.Value.{Value}
use Rattle.mako_words.specs.declared.entry_word.EntryWord.{EntryWord}
use Rattle.mako_words.specs.Entries.{entry_word, FitsEntry, entry_at}
use Rattle.mako_words.specs.Phases.{phase_at, cycle_of}
use Rattle.mako_words.proofs.EntryWords.{entry_at-entry_word}
use Rattle.mako_shape.specs.declared.numbers.Numbers.{Numbers}
use Rattle.mako_shape.specs.Places.{Place, phase, entry, home, top, leaving, region_word, index}
use Rattle.mako_shape.specs.Belongings.{tablet_of_entry, region_of_address, word_of_address}
use Rattle.mako_shape.proofs.BelongingLaws.{belongings_in_range}
use Rattle.mako_model.specs.Heaps.{Heap, fields_of}
use Rattle.mako_gate.specs.Sums.{counted}
use Rattle.mako_gate.specs.Changes.{tablets_of, Sets}
use Rattle.mako_gate.specs.Standings.{GateFacet, writes}
use Rattle.mako_gate.proofs.Lists.{at_set, sum_at}
use Rattle.mako_layout.specs.Layouts.{Slot, Layout, entries_of, regions_of, Holds, OneCopy}
use Rattle.mako_layout.specs.Changes.{Puts, AreSame}
use Rattle.mako_layout.specs.Facets.{Work, debt_of}
use Rattle.mako_layout.specs.Evacuations.{name_of, slot_of_entry, slot_of, home_read, top_read, to_raise, counted_in}
use Rattle.mako_layout.specs.Evacuations.{layout_of, record_words, Stand, IsRecordOf, Kept, Knows, State, layout}
use Rattle.mako_layout.specs.Evacuations.{Evacuation}
use Rattle.mako_layout.specs.Beside.{entry_of, Beside}
use Rattle.mako_layout.proofs.Puts.{put_kept}
use Rattle.mako_layout.proofs.Choices.{same_kept}
use Rattle.mako_layout.proofs.Besides.{knows_kept}
use Rattle.mako_layout.proofs.Frames.{gates_frame, record_within, leaves_gates}
use Rattle.mako_layout.proofs.Stays.{size_is}
use Rattle.mako_layout.proofs.Passing.{passed_same, passed_puts}
use Rattle.mako_layout.proofs.Debts.{}
use Rattle.mako_layout.proofs.Entries.{region_of_place, word_of_place, slot_stored}
use Rattle.mako_gate.proofs.Numbers.{count_at, count_off}
use Rattle.mako_gate.proofs.GatesTell.{gates_tell}

-- what the store of the entry asks
pub record Publishes (n : Numbers) (s : State) (V : Place → ℕ) (h : Heap) (d : ℕ → ℕ) (g : GateFacet) (w u : Work)
    (entry_is : EntryWord) (x r o z : ℕ) : Type 0 where
  pub inside : x < entries_of n
  pub writer : 1 ≤ writes (tablet_of_entry n x) g
  pub kept : Kept n (layout n s) x r o
  pub sets : Sets n s.words V (entry x) (entry_word entry_is)
  pub fits_word : FitsEntry entry_is
  pub taken : entry_is.taken ≡ true
  pub epoch : entry_is.epoch ≡ (layout n s).cycle
  pub address : entry_is.address ≡ index n (region_word r o)
  pub size : length (unwrap_or (fields_of h (record { entry = x; generation = entry_is.generation })) []) + 1 ≡ z
  pub some : 1 ≤ z
  pub fits : o + z ≤ n.words
  pub out : ((layout n s).slot x).taken ≡ true → ((layout n s).slot x).region ≢ (layout n s).home (tablet_of_entry n x)
  pub was : (layout n s).leaving (tablet_of_entry n x) ≢ 0 →
      (((layout n s).slot x).taken ≡ true) × (((layout n s).slot x).epoch ≡ (layout n s).cycle) ×
      (((layout n s).slot x).size ≡ z)
  pub origin : ((((layout n s).slot x).taken ≡ false) × (s.made (tablet_of_entry n x) + z ≤ d (tablet_of_entry n x)))
      ⊎ ((((layout n s).slot x).taken ≡ true) × (((layout n s).slot x).size ≡ z) ×
      ((layout n s).leaving (tablet_of_entry n x) ≢ 0))
  pub made : (q : ℕ) → s.made q ≤ d q
  pub owes : (q : ℕ) → to_raise n q u + counted_in n q w ≡ to_raise n q w + counted_in n q u + counted
      (tablet_of_entry n x == q) z
  pub others : (y : ℕ) → y < entries_of n → y ≢ x → fields_of h (name_of y (s.words (entry y))) ≡ fields_of s.heap
      (name_of y (s.words (entry y)))
  pub fields : List Value
  pub fields_are : fields_of h (record { entry = x; generation = entry_is.generation }) ≡ Some fields
  pub words : Stand s.words r o (length fields + 1) (λ b. get_or (record_words fields) b 0)

module _ (n : Numbers) (s : State) (e : Evacuation n s) (i : ℕ) (g : GateFacet) (w : Work)
    (at_g : slice_get s.gates i ≡ Some g) (at_w : slice_get s.works i ≡ Some w)
    (V : Place → ℕ) (h : Heap) (d : ℕ → ℕ) (u : Work) (E : EntryWord) (x r o z : ℕ)
    (p : Publishes n s V h d g w u E x r o z) where
  abbrev at : ℕ
  at = tablet_of_entry n x

  abbrev l : Layout
  l = layout n s

  abbrev m : Layout
  m = layout_of n V h (set s.works i u) s.choice d

  at_in : at < tablets_of n
  at_in = belongings_in_range.entry n x p.inside

  region_in : r < regions_of n
  region_in = subst (λ q. q < regions_of n) (sym p.kept.region) (e.copy.home_in at at_in)

  pub slot_now : m.slot x ≡ slot_of_entry n h x E
  slot_now = slot_stored n h x (V (entry x)) E p.fits_word p.sets.here

  pub region_now : (m.slot x).region ≡ r
  region_now = ap (λ (q : Slot). q.region) slot_now ∙ ap (region_of_address n) p.address
      ∙ region_of_place n r o region_in (omega (arith, p.fits, p.some))

  pub offset_now : (m.slot x).offset ≡ o
  offset_now = ap (λ (q : Slot). q.offset) slot_now ∙ ap (word_of_address n) p.address ∙ word_of_place n r o region_in
      (omega (arith, p.fits, p.some))

  pub taken_now : (m.slot x).taken ≡ true
  taken_now = ap (λ (q : Slot). q.taken) slot_now ∙ p.taken

  size_now : (m.slot x).size ≡ z
  size_now = ap (λ (q : Slot). q.size) slot_now ∙ p.size

  entry_same : (y : ℕ) → y < entries_of n → y ≢ x → V (entry y) ≡ s.words (entry y)
  entry_same y k ne = p.sets.others (entry y) k (λ c. ne (let b : y ≡ x = cc in b))

  slot_same : (y : ℕ) → y < entries_of n → y ≢ x → m.slot y ≡ l.slot y
  slot_same y k ne = ap (λ q. slot_of n h y q) (entry_same y k ne) ∙ (λ q. record {
    taken = (entry_at (s.words (entry y))).taken;
    generation = (entry_at (s.words (entry y))).generation;
    epoch = (entry_at (s.words (entry y))).epoch;
    region = region_of_address n (entry_at (s.words (entry y))).address;
    offset = word_of_address n (entry_at (s.words (entry y))).address;
    size = length (unwrap_or (p.others y k ne q) []) + 1;
  })

  top_same : (t : ℕ) → t < tablets_of n → V (top t) ≡ s.words (top t)
  top_same t k = p.sets.others (top t) k (λ c. cc)

  pub home_same : (t : ℕ) → t < tablets_of n → m.home t ≡ l.home t
  home_same t k = ap (home_read (debt_of s.choice) t) (p.sets.others (home t) k (λ c. cc))

  leaving_same : (t : ℕ) → t < tablets_of n → m.leaving t ≡ l.leaving t
  leaving_same t k = p.sets.others (leaving t) k (λ c. cc)

  cycle_same : m.cycle ≡ l.cycle
  cycle_same = ap (λ q. cycle_of (phase_at q)) (p.sets.others phase tt (λ c. cc))

  word_same : (a b : ℕ) → a < regions_of n → b < n.words → V (region_word a b) ≡ s.words (region_word a b)
  word_same a b j k = p.sets.others (region_word a b) (j, k) (λ c. cc)

  record_word_same : (y a b : ℕ) → y < entries_of n → Holds (l.slot y) a b →
      V (region_word a b) ≡ s.words (region_word a b)
  record_word_same y a b k holds = let q = record_within n l e.copy y a b k holds in word_same a b q.0 q.1

  filled_after : (t : ℕ) → t < tablets_of n → m.filled t ≡ l.filled t + counted (at == t) z
  filled_after t k = omega (
    arith,
    sum_at (to_raise n t) s.works i w u at_w,
    sum_at (counted_in n t) s.works i w u at_w,
    p.owes t,
    e.even t
        k,
    ap (top_read (debt_of s.choice) t) (top_same t k),
  )

  even_after : (t : ℕ) → t < tablets_of n → sum_by (counted_in n t) (set s.works i u) ≤ top_read (debt_of s.choice) t
      (V (top t)) + sum_by (to_raise n t) (set s.works i u)
  even_after t k = omega (
    arith,
    sum_at (to_raise n t) s.works i w u at_w,
    sum_at (counted_in n t) s.works i w u at_w,
    p.owes t,
    e.even t
        k,
    ap (top_read (debt_of s.choice) t) (top_same t k),
  )

  filled_other : (t : ℕ) → t < tablets_of n → t ≢ at → m.filled t ≡ l.filled t
  filled_other t k ne = omega (arith, filled_after t k, count_off at t z (λ c. ne (sym c)))

  puts : Puts n l m.slot m.filled d x
  puts = record {
    inside = p.inside;
    taken = taken_now;
    epoch = ap (λ (q : Slot). q.epoch) slot_now ∙ p.epoch;
    region = region_now ∙ p.kept.region;
    offset = offset_now ∙ p.kept.offset;
    fits = omega (arith, p.kept.offset, p.fits, size_now);
    out = p.out;
    was = λ left. let c = p.was left in (c.0, c.1, c.2 ∙ sym size_now);
    origin = ⊎_elim (λ c. inl (c.0, (let a = c.1 in omega (arith, size_now))))
        (λ c. inr (c.0, c.1 ∙ sym size_now, c.2)) p.origin;
    made = λ q _. p.made q;
    others = slot_same;
    raised = omega (arith, filled_after at at_in, count_at at at z (λ _. at), size_now);
    filled = λ t k ne. filled_other t k ne;
  }

  same_copy : AreSame n (record l { slot = m.slot; filled = m.filled; made = d }) m
  same_copy = record {
    cycle = cycle_same;
    slots = λ y k. refl;
    homes = home_same;
    filleds = λ t k. refl;
    leavings = leaving_same;
    givens = λ t k. refl;
    spares = λ q k. refl;
    mades = λ _ _. refl;
  }

  copy_after : OneCopy n m
  copy_after = same_kept n (record l { slot = m.slot; filled = m.filled; made = d })
      (put_kept n l e.copy m.slot m.filled d x puts) m same_copy

  -- the new record
  record_now : IsRecordOf n V h x (m.slot x)
  record_now =
      let decoded : entry_at (V (entry x)) ≡ E = ap entry_at p.sets.here ∙ entry_at-entry_word E p.fits_word in
      record {
        fields = p.fields;
        are = (λ q. fields_of h (record { entry = x; generation = (decoded q).generation })) ∙ p.fields_are;
        address = (λ q. index n (region_word (region_now q) (offset_now q))) ∙ sym p.address
            ∙ ap (λ (q : EntryWord). q.address) (sym decoded);
        words = λ b less. (λ q. V (region_word (region_now q) (offset_now q + b)))
            ∙ word_same r (o + b) region_in (let a = ap (λ q. length (unwrap_or q []) + 1) p.fields_are in
            omega (arith, p.fits, p.size))
            ∙ p.words b less;
      }

  -- an old one
  record_then : (y : ℕ) → y < entries_of n → y ≢ x → (m.slot y).taken ≡ true → IsRecordOf n V h y (m.slot y)
  record_then y k ne taken =
      let same = slot_same y k ne in
      let was : (l.slot y).taken ≡ true = ap (λ (q : Slot). q.taken) (sym same) ∙ taken in
      let c = e.records y k was in
      record {
        fields = c.fields;
        are = ap (λ q. fields_of h (name_of y q)) (entry_same y k ne) ∙ p.others y k ne ∙ c.are;
        address = (λ q. index n (region_word (same q).region (same q).offset)) ∙ c.address
            ∙ ap (λ q. (entry_at q).address) (sym (entry_same y k ne));
        words = λ b less. (λ q. V (region_word (same q).region ((same q).offset + b)))
            ∙ record_word_same y (l.slot y).region ((l.slot y).offset + b) k
            (record {
              taken = was;
              region = refl;
              low = omega arith;
              high = omega (arith, size_is n s.words s.heap y c);
            })
            ∙ c.words b less;
      }

  -- beside the writer
  beside_after : (j : ℕ) (f : GateFacet) (y : ℕ) → j ≢ i → slice_get s.gates j ≡ Some f → y < entries_of n →
      Beside n l m s.words V f y
  beside_after j f y other at_f k =
      let t : ℕ = tablet_of_entry n y in
      let t_in = belongings_in_range.entry n y k in
      elim (cases_eq y x) [
        | inl same ↦ record {
          cycle = cycle_same;
          home = home_same t t_in;
          taken = λ _. subst (λ q. (m.slot q).taken ≡ true) (sym same) taken_now;
          region = λ taken here. absurd
              (subst (λ q. (l.slot q).taken ≡ true → (l.slot q).region ≡ l.home (tablet_of_entry n q) → ⊥)
              (sym same) p.out taken here);
          offset = λ taken here. absurd
              (subst (λ q. (l.slot q).taken ≡ true → (l.slot q).region ≡ l.home (tablet_of_entry n q) → ⊥)
              (sym same) p.out taken here);
          writer = λ writing. absurd
              (let c = (gates_tell n s.words s.gates e.gates).writers.one at i j g f at_in (λ q. other (sym q)) at_g
              at_f p.writer in
              let b : 1 ≤ writes at f = subst (λ q. 1 ≤ writes (tablet_of_entry n q) f) same writing in omega arith);
        }
        | inr ne ↦ record {
          cycle = cycle_same;
          home = home_same t t_in;
          taken = λ taken. ap (λ (q : Slot). q.taken) (slot_same y k ne) ∙ taken;
          region = λ _ _. ap (λ (q : Slot). q.region) (slot_same y k ne);
          offset = λ _ _. ap (λ (q : Slot). q.offset) (slot_same y k ne);
          writer = λ writing.
              let elsewhere : t ≢ at = λ c.
              (let a = (gates_tell n s.words s.gates e.gates).writers.one at i j g f at_in (λ q. other (sym q))
              at_g at_f p.writer in
              let b : 1 ≤ writes at f = subst (λ q. 1 ≤ writes q f) c writing in omega arith) in
              record {
                quiet = record {
                  filled = filled_other t t_in elsewhere;
                  leaving = leaving_same t t_in;
                  top = top_same t t_in;
                  ahead = λ a low high. word_same (l.home t) a (e.copy.home_in t t_in) high;
                  behind = λ a b holds out. record_word_same y a b k holds;
                };
                slot = slot_same y k ne;
              };
        }
      ]

  pub publish_kept : Knows n m V g u →
      Evacuation n (record s { words = V; heap = h; works = set s.works i u; made = d })
  publish_kept own = record {
    seats = length-set s.works i u ∙ e.seats;
    gates = gates_frame n s.words V s.gates (leaves_gates n s.words V _ _ p.sets tt) e.gates;
    copy = copy_after;
    pause = e.pause;
    even = even_after;
    records = λ y k taken. elim (cases_eq y x) [
      | inl same ↦ subst (λ q. IsRecordOf n V h q (m.slot q)) (sym same) record_now
      | inr ne ↦ record_then y k ne taken
    ];
    passed = λ j t b f at is. passed_same n (record l { slot = m.slot; filled = m.filled; made = d }) m t b same_copy
        (passed_puts n l m.slot m.filled d x puts t b (e.passed j t b f at is));
    knows = λ j f v at_f at_v. elim (at_set s.works i j u v at_v) [
      | inl c ↦ (let same_g : g ≡ f = same_Some g f (sym at_g ∙ ap (slice_get s.gates) (sym c.0) ∙ at_f) in
          subst (λ q. Knows n m V q v) same_g (subst (λ q. Knows n m V g q) c.1 own))
      | inr past ↦ knows_kept n l m e.copy s.words V f v (λ k _. beside_after j f (entry_of v) past.0 at_f k)
          (e.knows j f v at_f past.1)
    ];
  }
