-- Steps that leave the layout: loads, stores past the words in use, raises of a top, and all at gates and turns.
use Rattle.std.proofs.Common.{◌≡◌, ℕ, ◌+◌, ◌<◌, ◌≤◌, ◌⊎◌, inl, inr, true, List, [], length, slice_get, sum_by, Some}
use Rattle.std.proofs.Common.{sym, ap, ◌∙◌, refl, arith}
use Rattle.std.specs.Option.{unwrap_or}
use Rattle.mako_words.specs.Entries.{entry_at}
use Rattle.mako_shape.specs.declared.numbers.Numbers.{Numbers}
use Rattle.mako_shape.specs.Places.{Place, entry, top, region_word, index}
use Rattle.mako_shape.specs.Belongings.{tablet_of_entry}
use Rattle.mako_model.specs.Heaps.{Heap, fields_of}
use Rattle.mako_layout.specs.Layouts.{Slot, Layout, entries_of, Holds, Passed, OneCopy}
use Rattle.mako_layout.specs.Changes.{AreSame}
use Rattle.mako_layout.specs.Facets.{Work, settled, Paused, debt_of}
use Rattle.mako_layout.specs.Evacuations.{name_of, slot_of, top_read, to_raise, counted_in, layout_of, IsRecordOf}
use Rattle.mako_layout.specs.Evacuations.{Knows, State, layout, Evacuation}
use Rattle.mako_layout.specs.Beside.{entry_of, Beside}
use Rattle.mako_layout.proofs.Choices.{same_kept}
use Rattle.mako_layout.proofs.Besides.{knows_kept}
use Rattle.mako_layout.proofs.Frames.{beside_same}
use Rattle.mako_layout.proofs.Passing.{passed_same}
use Rattle.mako_gate.specs.Changes.{tablets_of}
use Rattle.mako_gate.specs.Standings.{GateFacet, has_drained, writes}
use Rattle.mako_gate.specs.Gates.{Gates}

-- a record's size is that of its fields
pub size_is : (n : Numbers) (W : Place → ℕ) (h : Heap) (x : ℕ)
    (r : IsRecordOf n W h x (slot_of n h x (W (entry x)))) → (slot_of n h x (W (entry x))).size ≡ length r.fields + 1
size_is n W h x r = ap (λ o. length (unwrap_or o []) + 1) r.are

-- a record whose entry and words stay
pub record_kept : (n : Numbers) (W V : Place → ℕ) (h : Heap) (x : ℕ) → V (entry x) ≡ W (entry x) →
    ((r w : ℕ) → Holds (slot_of n h x (W (entry x))) r w → V (region_word r w) ≡ W (region_word r w)) →
    (slot_of n h x (W (entry x))).taken ≡ true →
    IsRecordOf n W h x (slot_of n h x (W (entry x))) → IsRecordOf n V h x (slot_of n h x (V (entry x)))
record_kept n W V h x e stays taken r =
    let s : Slot = slot_of n h x (W (entry x)) in
    record {
      fields = r.fields;
      are = ap (λ v. fields_of h (name_of x v)) e ∙ r.are;
      address = (λ q. index n (region_word (slot_of n h x (e q)).region (slot_of n h x (e q)).offset)) ∙ r.address
          ∙ ap (λ v. (entry_at v).address) (sym e);
      words = λ i k. (λ q. V (region_word (slot_of n h x (e q)).region ((slot_of n h x (e q)).offset + i)))
          ∙ stays s.region (s.offset + i)
          (record { taken = taken; region = refl; low = omega arith; high = omega (arith, size_is n W h x r) })
          ∙ r.words i k;
    }

-- what a view knows does not turn on how the layout is computed
pub knows_same : (n : Numbers) (l m : Layout) → OneCopy n l → AreSame n l m →
    (V : Place → ℕ) (g : GateFacet) (u : Work) → Knows n l V g u → Knows n m V g u
knows_same n l m o p V g u = knows_kept n l m o V V g u
    (λ h k. beside_same n l m V V p g (entry_of u) h (λ _. refl) (λ _ w a b. refl) (λ _ r w a b. refl))

-- What is known of each seat after the step: it is proved anew, or it is that of a seat beside the step, of which
-- the writer finds its words as they were
abbrev pub KnownAfter : Numbers → State → (Place → ℕ) → ℕ → GateFacet → Work → Type 0
KnownAfter n s V j f v = Knows n (layout n s) V f v
    ⊎ ((slice_get s.gates j ≡ Some f) × (slice_get s.works j ≡ Some v)
    × (entry_of v < entries_of n → 1 ≤ writes (tablet_of_entry n (entry_of v)) f →
    V (top (tablet_of_entry n (entry_of v))) ≡ s.words (top (tablet_of_entry n (entry_of v))))
    × (entry_of v < entries_of n → 1 ≤ writes (tablet_of_entry n (entry_of v)) f → (w : ℕ) →
    (layout n s).filled (tablet_of_entry n (entry_of v)) ≤ w → w < n.words →
    V (region_word ((layout n s).home (tablet_of_entry n (entry_of v))) w) ≡ s.words
    (region_word ((layout n s).home (tablet_of_entry n (entry_of v))) w)))

-- the layout stays, though the heap may change within its records
pub frame_kept : (n : Numbers) (s : State) → Evacuation n s →
    (V : Place → ℕ) (h : Heap) (gs : List GateFacet) (ks : List Work) → length ks ≡ length gs → Gates n V gs →
    AreSame n (layout n s) (layout_of n V h ks s.choice s.made) →
    ((debt_of s.choice ≡ settled) ⊎ Paused n gs) →
    ((t : ℕ) → t < tablets_of n → sum_by (counted_in n t) ks ≤ top_read (debt_of s.choice) t (V (top t)) + sum_by
    (to_raise n t) ks) →
    ((x : ℕ) → x < entries_of n → ((layout_of n V h ks s.choice s.made).slot x).taken ≡ true →
    IsRecordOf n V h x ((layout_of n V h ks s.choice s.made).slot x)) →
    ((j t b : ℕ) (f : GateFacet) → slice_get gs j ≡ Some f → f.watch ≡ has_drained t b → Passed n (layout n s) t b) →
    ((j : ℕ) (f : GateFacet) (v : Work) → slice_get gs j ≡ Some f → slice_get ks j ≡ Some v → Knows n (layout n s) V f v
    ⊎ ((slice_get s.gates j ≡ Some f) × (slice_get s.works j ≡ Some v) ×
    (entry_of v < entries_of n → Knows n (layout n s) s.words f v →
    Beside n (layout n s) (layout_of n V h ks s.choice s.made) s.words V f (entry_of v)))) →
    Evacuation n (record s { words = V; heap = h; gates = gs; works = ks })
frame_kept n s e V h gs ks seats gates same pause even records passed known =
    let l : Layout = layout n s in
    let m : Layout = layout_of n V h ks s.choice s.made in
    record {
      seats = seats;
      gates = gates;
      copy = same_kept n l e.copy m same;
      pause = pause;
      even = even;
      records = records;
      passed = λ j t b f at is. passed_same n l m t b same (passed j t b f at is);
      knows = λ j f v at_f at_v. elim (known j f v at_f at_v) [
        | inl k ↦ knows_same n l m e.copy same V f v k
        | inr b ↦ knows_kept n l m e.copy s.words V f v b.2 (e.knows j f v b.0 b.1)
      ];
    }

pub stays_kept : (n : Numbers) (s : State) → Evacuation n s → (V : Place → ℕ) (gs : List GateFacet) (ks : List Work) →
    length ks ≡ length gs → Gates n V gs →
    AreSame n (layout n s) (layout_of n V s.heap ks s.choice s.made) →
    ((x : ℕ) → x < entries_of n → V (entry x) ≡ s.words (entry x)) →
    ((debt_of s.choice ≡ settled) ⊎ Paused n gs) →
    ((t : ℕ) → t < tablets_of n → sum_by (counted_in n t) ks ≤ top_read (debt_of s.choice) t (V (top t)) + sum_by
    (to_raise n t) ks) →
    ((x r w : ℕ) → x < entries_of n → Holds ((layout n s).slot x) r w →
    V (region_word r w) ≡ s.words (region_word r w)) →
    ((j t b : ℕ) (f : GateFacet) → slice_get gs j ≡ Some f → f.watch ≡ has_drained t b → Passed n (layout n s) t b) →
    ((j : ℕ) (f : GateFacet) (v : Work) → slice_get gs j ≡ Some f → slice_get ks j ≡ Some v → KnownAfter n s V j f v) →
    Evacuation n (record s { words = V; gates = gs; works = ks })
stays_kept n s e V gs ks seats gates same entries pause even words passed known =
    let l : Layout = layout n s in
    let m : Layout = layout_of n V s.heap ks s.choice s.made in
    frame_kept n s e V s.heap gs ks seats gates same pause even
    (λ x h taken.
    let was : (l.slot x).taken ≡ true = ap (λ (q : Slot). q.taken) (sym (same.slots x h)) ∙ taken in
    record_kept n s.words V s.heap x (entries x h) (λ r w holds. words x r w h holds) was (e.records x h was))
    passed
    (λ j f v at_f at_v. elim (known j f v at_f at_v) [
      | inl k ↦ inl k
      | inr b ↦
          inr (
            b.0,
            b.1,
            (λ h k. beside_same n l m s.words V same f (entry_of v) h (b.2 h) (b.3 h)
                (λ _ r w holds out. words (entry_of v) r w h holds)),
          )
    ])
