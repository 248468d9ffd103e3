-- Steps outside of evacuation, and the steps that put a point into the history.
use Rattle.std.proofs.Common.{◌≡◌, ℕ, ◌+◌, ◌-◌, ◌/◌, ◌<◌, ◌^◌, cond, eq-eqb, inr, true, List, [], ◌∷◌, ◌++◌, length}
use Rattle.std.proofs.Common.{set, replicate, slice_get, Some, sym, ap, ◌∙◌, refl, subst, arith}
use Rattle.std.specs.Option.{unwrap_or}
use Rattle.std.proofs.lemmas.List.Sums.{fold_push, sum_by_push}
use Rattle.mako_words.specs.declared.name.Name.{Name}
use Rattle.mako_words.specs.declared.value.Value.{Value}
use Rattle.mako_words.specs.declared.value.Value.TheVariants.{Null, Ref}
use Rattle.mako_words.specs.Values.{value_word}
use Rattle.mako_words.specs.Entries.{entry_word, entry_at}
use Rattle.mako_shape.specs.declared.numbers.Numbers.{Numbers}
use Rattle.mako_shape.specs.Limits.{IsShape}
use Rattle.mako_shape.specs.Places.{Place, entry, region_word, index}
use Rattle.mako_shape.specs.Belongings.{tablet_of_entry, region_of_address, word_of_address}
use Rattle.mako_shape.proofs.BelongingLaws.{belongings_in_range}
use Rattle.mako_model.specs.declared.call.Call.TheVariants.{New, Put}
use Rattle.mako_model.specs.declared.reply.Reply.TheVariants.{Made, Done}
use Rattle.mako_model.specs.declared.point.Point.{Point}
use Rattle.mako_model.specs.declared.point.Point.TheVariants.{Did}
use Rattle.mako_model.specs.Heaps.{Heap, fields_of, root_of, with_fields}
use Rattle.mako_model.specs.Lawful.{heap_after, with_field}
use Rattle.mako_model.specs.Legal.{state_of, opening_of, Facts}
use Rattle.mako_model.specs.Starved.{words_made, words_by}
use Rattle.mako_model.proofs.Lookups.{fields_same, fields_other}
use Rattle.mako_layout.specs.Layouts.{Slot, entries_of}
use Rattle.mako_layout.specs.Changes.{AreSame}
use Rattle.mako_layout.specs.Facets.{idle, uses, counts, debt_of}
use Rattle.mako_layout.specs.Evacuations.{name_of, slot_of, top_read, layout_of, State, layout, Evacuation}
use Rattle.mako_layout.specs.Beside.{entry_of}
use Rattle.mako_layout.specs.Frames.{LeavesLayout}
use Rattle.mako_layout.proofs.Frames.{gates_frame, layout_same, beside_same, record_within}
use Rattle.mako_layout.proofs.Stays.{size_is, frame_kept}
use Rattle.mako_layout.specs.StepParts.{new_entry}
use Rattle.mako_layout.proofs.Objects.{store_new, store_field}
use Rattle.mako_gate.specs.Standings.{GateFacet}
use Rattle.mako_gate.specs.Changes.{Sets, LeavesGates}

module _ (n : Numbers) (s : State) (e : Evacuation n s) (V : Place → ℕ) (h : Heap) (only : LeavesLayout n s.words V)
    (gates : LeavesGates n s.words V)
    (objects : (name : Name) → fields_of h name ≡ fields_of s.heap name) where
  slot_outside : (y : ℕ) → y < entries_of n → slot_of n h y (V (entry y)) ≡ slot_of n s.heap y (s.words (entry y))
  slot_outside y m = ap (λ q. slot_of n h y q) (only.table.entries y m) ∙ (λ q. record {
    taken = (entry_at (s.words (entry y))).taken;
    generation = (entry_at (s.words (entry y))).generation;
    epoch = (entry_at (s.words (entry y))).epoch;
    region = region_of_address n (entry_at (s.words (entry y))).address;
    offset = word_of_address n (entry_at (s.words (entry y))).address;
    size = length (unwrap_or (objects (name_of y (s.words (entry y))) q) []) + 1;
  })

  -- a root, a ring, a flag word, a count: no word that evacuation reads, and no object's fields
  pub outside_kept : Evacuation n (record s { words = V; heap = h })
  outside_kept =
      let base = layout_same n s.words V s.heap s.works s.works s.choice s.made only.table (λ _ _. refl) (λ _ _. refl)
      in
      let same : AreSame n (layout n s) (layout_of n V h s.works s.choice s.made) = record {
        cycle = base.cycle;
        slots = slot_outside;
        homes = base.homes;
        filleds = base.filleds;
        leavings = base.leavings;
        givens = base.givens;
        spares = base.spares;
        mades = λ _ _. refl;
      } in
      frame_kept n s e V h s.gates s.works e.seats (gates_frame n s.words V s.gates gates e.gates) same e.pause
      (λ t m. omega (arith, e.even t m, ap (top_read (debt_of s.choice) t) (only.table.tops t m)))
      (λ y m taken.
      let es = slot_outside y m in
      let was : ((layout n s).slot y).taken ≡ true = ap (λ (q : Slot). q.taken) (sym es) ∙ taken in
      let c = e.records y m was in
      record {
        fields = c.fields;
        are = objects (name_of y (V (entry y))) ∙ ap (λ q. fields_of s.heap (name_of y q)) (only.table.entries y m)
            ∙ c.are;
        address = (λ q. index n (region_word (es q).region (es q).offset)) ∙ c.address
            ∙ ap (λ q. (entry_at q).address) (sym (only.table.entries y m));
        words = λ b less. (λ q. V (region_word (es q).region ((es q).offset + b)))
            ∙ (let w = record_within n (layout n s) e.copy y ((layout n s).slot y).region
            (((layout n s).slot y).offset + b) m
            (record {
              taken = was;
              region = refl;
              low = omega arith;
              high = omega (arith, size_is n s.words s.heap y c);
            }) in
            only.regions ((layout n s).slot y).region (((layout n s).slot y).offset + b) w.0 w.1)
            ∙ c.words b less;
      })
      e.passed
      (λ j f v at_f at_v. inr (
        at_f,
        at_v,
        (λ m known.
            let t : ℕ = tablet_of_entry n (entry_of v) in
            let t_in = belongings_in_range.entry n (entry_of v) m in
            beside_same n (layout n s) (layout_of n V h s.works s.choice s.made) s.words V same f (entry_of v) m
            (λ _. only.table.tops t t_in)
            (λ _ a low high. only.regions ((layout n s).home t) a (e.copy.home_in t t_in) high)
            (λ _ r a holds _. let w = record_within n (layout n s) e.copy (entry_of v) r a m holds in
            only.regions r a w.0 w.1)),
      ))

-- the words made are the same numbers
pub made_kept : (n : Numbers) (s : State) → Evacuation n s → (d : ℕ → ℕ) → ((t : ℕ) → d t ≡ s.made t) →
    Evacuation n (record s { made = d })
made_kept n s e d same = subst (λ (q : ℕ → ℕ). Evacuation n (record s { made = q })) (λ i t. sym (same t) i) e

-- the heap that a history leaves with one point more
pub one_more : (w : Facts) (history : List Point) (point : Point) →
    state_of w (history ++ point ∷ []) ≡ heap_after (state_of w history) point
one_more w history point = fold_push heap_after (opening_of w) history point

-- and the words that it has made
pub made_more : (w : Facts) (history : List Point) (point : Point) (t : ℕ) →
    words_made w t (history ++ point ∷ []) ≡ words_made w t history + words_by w t point
made_more w history point t = omega (arith, sum_by_push (words_by w t) history point)

words_there : (w : Facts) (m root fields t : ℕ) (name : Name) → name.entry / w.entries ≡ t →
    words_by w t (Did m (New root fields) (Made name)) ≡ fields + 1
words_there w m root fields t name e = ap (λ q. cond q (fields + 1) 0) (eq-eqb (name.entry / w.entries) t e)

-- New publishes its entry: its point enters the history
pub new_published : (n : Numbers) → IsShape n → (s : State) → Evacuation n s → (i : ℕ) (g : GateFacet) →
    slice_get s.gates i ≡ Some g →
    (w : Facts) → w.entries ≡ n.entries → (history : List Point) → s.heap ≡ state_of w history →
    ((t : ℕ) → s.made t ≡ words_made w t history) →
    (name : Name) (r o fields m root : ℕ) (V : Place → ℕ) →
    slice_get s.works i ≡ Some (counts name r o (fields + 1)) → (layout n s).cycle < 2 ^ 20 →
    Sets n s.words V (entry name.entry) (entry_word (new_entry name (layout n s).cycle (index n (region_word r o)))) →
    Evacuation n (record s {
      words = V;
      heap = state_of w (history ++ Did m (New root fields) (Made name) ∷ []);
      works = set s.works i idle;
      made = λ t. words_made w t (history ++ Did m (New root fields) (Made name) ∷ []);
    })
new_published n shape s e i g at_g w same_entries history is was name r o fields m root V at small sets =
    let point : Point = Did m (New root fields) (Made name) in
    let h : Heap = heap_after (state_of w history) point in
    let d : ℕ → ℕ = λ t. words_made w t (history ++ point ∷ []) in
    let t : ℕ = tablet_of_entry n name.entry in
    let there : words_by w t point ≡ fields + 1 = words_there w m root fields t name
    (ap (λ q. name.entry / q) same_entries) in
    let kept : Evacuation n (record s { words = V; heap = h; works = set s.works i idle; made = d }) =
    store_new n shape s e i g at_g name r o (fields + 1) V h d at small sets
    (fields_same (state_of w history) name (replicate fields Null) ∙ ap (λ q. Some (replicate q Null))
    (let a : fields ≡ fields + 1 - 1 = omega arith in a))
    (λ other d. fields_other (state_of w history) name (replicate fields Null) other
    (λ c. d (ap (λ (q : Name). q.entry) c)) ∙ ap (λ q. fields_of q other) (sym is))
    (let a = made_more w history point t in let b = was t in omega arith)
    (λ q. let a = made_more w history point q in let b = was q in omega arith) in
    subst (λ q. Evacuation n (record s { words = V; heap = q; works = set s.works i idle; made = d }))
    (sym (one_more w history point)) kept

-- Put stores its field: its point enters the history
pub put_stored : (n : Numbers) (s : State) → Evacuation n s → (i : ℕ) (g : GateFacet) → slice_get s.gates i ≡ Some g →
    (w : Facts) (history : List Point) → s.heap ≡ state_of w history →
    (x r o m to field from : ℕ) (v : Value) (V : Place → ℕ) → slice_get s.works i ≡ Some (uses x r o) →
    (fields : List Value) → fields_of (state_of w history) (name_of x (s.words (entry x))) ≡ Some fields →
    field < length fields →
    root_of (state_of w history) m to ≡ Some (Ref (name_of x (s.words (entry x)))) →
    root_of (state_of w history) m from ≡ Some v →
    Sets n s.words V (region_word r (o + (1 + field))) (value_word v) →
    Evacuation n (record s { words = V; heap = state_of w (history ++ Did m (Put to field from) Done ∷ []) })
put_stored n s e i g at_g w history is x r o m to field from v V at fields were less object value sets =
    let name : Name = name_of x (s.words (entry x)) in
    let point : Point = Did m (Put to field from) Done in
    let before : Heap = state_of w history in
    let h : Heap = with_fields before name (set fields field v) in
    let after : h ≡ heap_after before point =
    ap (λ o. with_fields before name (set (unwrap_or o []) field v)) (sym were)
    ∙ (λ q. with_field before (sym object q) field (sym value q)) in
    let kept : Evacuation n (record s { words = V; heap = h }) =
    store_field n s e i g at_g x r o field v V h at fields (ap (λ q. fields_of q name) is ∙ were) less sets
    (fields_same before name (set fields field v))
    (λ other d. fields_other before name (set fields field v) other (λ c. d (ap (λ (q : Name). q.entry) c))
    ∙ ap (λ q. fields_of q other) (sym is)) in
    subst (λ q. Evacuation n (record s { words = V; heap = q })) (after ∙ sym (one_more w history point)) kept
