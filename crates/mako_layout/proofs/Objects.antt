-- The entry of a copied record and of a new object is stored; a field is stored.
use Rattle.std.proofs.Common.{◌≡◌, ◌≢◌, ℕ, zero, suc, ◌+◌, ◌-◌, ◌<◌, ◌≤◌, ◌^◌, inl, inr, true, List, [], length, map}
use Rattle.std.proofs.Common.{set, replicate, slice_get, get_or, Some, sym, ap, ◌∙◌, refl, subst, arith}
use Rattle.std.specs.Option.{unwrap_or}
use Rattle.std.proofs.lemmas.List.{length-set, length-map, length-replicate, map-set, get_or-set_same, get_or-set_other}
use Rattle.std.proofs.lemmas.Bool.{cases_eq}
use Rattle.std.proofs.lemmas.Option.{same_Some}
use Rattle.mako_words.specs.declared.name.Name.{Name}
use Rattle.mako_words.specs.declared.value.Value.{Value}
use Rattle.mako_words.specs.declared.value.Value.TheVariants.{Null}
use Rattle.mako_words.specs.Values.{value_word}
use Rattle.mako_words.specs.declared.entry_word.EntryWord.{EntryWord}
use Rattle.mako_words.specs.Entries.{entry_word, entry_at}
use Rattle.mako_shape.specs.declared.numbers.Numbers.{Numbers}
use Rattle.mako_shape.specs.Limits.{IsShape}
use Rattle.mako_shape.specs.Places.{Place, entry, top, leaving, region_word, index}
use Rattle.mako_shape.specs.Belongings.{tablet_of_entry, region_of_address, word_of_address}
use Rattle.mako_shape.proofs.BelongingLaws.{belongings_in_range}
use Rattle.mako_model.specs.Heaps.{Heap, fields_of}
use Rattle.mako_layout.specs.Layouts.{Layout, entries_of, regions_of, Holds}
use Rattle.mako_layout.specs.Changes.{AreSame}
use Rattle.mako_layout.specs.Facets.{Work, idle, uses, fills, raises, counts, debt_of}
use Rattle.mako_layout.specs.Evacuations.{name_of, slot_of, top_read, layout_of, record_words, IsRecordOf, Uses, Fills}
use Rattle.mako_layout.specs.Evacuations.{Counts, State, layout, Evacuation}
use Rattle.mako_layout.specs.Beside.{entry_of}
use Rattle.mako_layout.specs.StepParts.{moved_entry, new_entry}
use Rattle.mako_layout.specs.Frames.{SameTable}
use Rattle.mako_layout.proofs.Roles.{copy_fits, away, record_in_home, one_home}
use Rattle.mako_layout.proofs.Frames.{table_beside_region, gates_frame, layout_same, beside_same, record_within}
use Rattle.mako_layout.proofs.Frames.{leaves_gates}
use Rattle.mako_layout.proofs.Stays.{size_is, frame_kept}
use Rattle.mako_layout.proofs.Debts.{filled_is}
use Rattle.mako_layout.proofs.Entries.{address_fits, generation_small, epoch_small}
use Rattle.mako_layout.proofs.Publish.{Publishes, publish_kept, region_now, offset_now, taken_now, home_same}
use Rattle.mako_gate.specs.Standings.{GateFacet}
use Rattle.mako_gate.specs.Changes.{Sets}

module _ (n : Numbers) (shape : IsShape n) (s : State) (e : Evacuation n s) (i : ℕ) (g : GateFacet)
    (at_g : slice_get s.gates i ≡ Some g) where
  -- the record is copied whole: its entry gets the new address
  pub store_moved : (x : ℕ) (found : EntryWord) (r o : ℕ) (V : Place → ℕ) →
      slice_get s.works i ≡ Some (fills x found r o ((layout n s).slot x).size) →
      Sets n s.words V (entry x) (entry_word (moved_entry found (index n (region_word r o)))) →
      Evacuation n (record s { words = V; works = set s.works i (raises x r o ((layout n s).slot x).size) })
  store_moved x found r o V at sets =
      let l : Layout = layout n s in
      let z : ℕ = (l.slot x).size in
      let w : Work = fills x found r o z in
      let u : Work = raises x r o z in
      let k : Fills n l s.words g x found r o z = e.knows i g w at_g at in
      let t : ℕ = tablet_of_entry n x in
      let t_in = belongings_in_range.entry n x k.inside in
      let out : (l.slot x).region ≢ l.home t = λ c. k.out (c ∙ sym k.kept.region) in
      let fit = copy_fits n l e.copy x k.inside k.taken k.epoch out in
      let r_in = subst (λ q. q < regions_of n) (sym k.kept.region) (e.copy.home_in t t_in) in
      let rec = e.records x k.inside k.taken in
      let whole = size_is n s.words s.heap x rec in
      let E : EntryWord = moved_entry found (index n (region_word r o)) in
      let p : Publishes n s V s.heap s.made g w u E x r o z = record {
        inside = k.inside;
        writer = k.writer;
        kept = k.kept;
        sets = sets;
        fits_word = record {
          address = address_fits n r o r_in (omega (arith, k.kept.offset)) shape;
          epoch = subst (λ q. q < 2 ^ 20) k.as_found.epoch (epoch_small (s.words (entry x)));
          generation = subst (λ q. q < 2 ^ 20) k.as_found.generation (generation_small (s.words (entry x)));
        };
        taken = sym k.as_found.taken ∙ k.taken;
        epoch = sym k.as_found.epoch ∙ k.epoch;
        address = refl;
        size = ap (λ q. length (unwrap_or (fields_of s.heap (record { entry = x; generation = q })) []) + 1)
            (sym k.as_found.generation);
        some = omega arith;
        fits = omega (arith, k.kept.offset);
        out = λ _. out;
        was = λ _. (k.taken, k.epoch, refl);
        origin = inr (k.taken, refl, away n l e.copy x k.inside k.taken k.epoch out);
        made = λ q. omega arith;
        owes = λ q. omega arith;
        others = λ y _ _. refl;
        fields = rec.fields;
        fields_are = ap (λ q. fields_of s.heap (record { entry = x; generation = q })) (sym k.as_found.generation)
            ∙ rec.are;
        words = λ b less. k.words b (omega arith) ∙ rec.words b less;
      } in
      publish_kept n s e i g w at_g at V s.heap s.made u E x r o z p (record {
        inside = k.inside;
        writer = k.writer;
        taken = taken_now n s e i g w at_g at V s.heap s.made u E x r o z p;
        region = region_now n s e i g w at_g at V s.heap s.made u E x r o z p;
        home = k.kept.region ∙ sym (home_same n s e i g w at_g at V s.heap s.made u E x r o z p t t_in);
        offset = offset_now n s e i g w at_g at V s.heap s.made u E x r o z p;
        top = sets.others (top t) t_in (λ c. cc) ∙ sym (filled_is n s e i g at_g w at t t_in k.writer refl refl)
            ∙ sym k.kept.offset;
        left = λ none. away n l e.copy x k.inside k.taken k.epoch out
            (sym (sets.others (leaving t) t_in (λ c. cc)) ∙ none);
      })

  -- the entry of a new object of nulls is stored, which the heap has from then on
  pub store_new : (name : Name) (r o z : ℕ) (V : Place → ℕ) (h : Heap) (d : ℕ → ℕ) →
      slice_get s.works i ≡ Some (counts name r o z) → (layout n s).cycle < 2 ^ 20 →
      Sets n s.words V (entry name.entry) (entry_word (new_entry name (layout n s).cycle (index n (region_word r o)))) →
      fields_of h name ≡ Some (replicate (z - 1) Null) →
      ((other : Name) → other.entry ≢ name.entry → fields_of h other ≡ fields_of s.heap other) →
      s.made (tablet_of_entry n name.entry) + z ≤ d (tablet_of_entry n name.entry) → ((q : ℕ) → s.made q ≤ d q) →
      Evacuation n (record s { words = V; heap = h; works = set s.works i idle; made = d })
  store_new name r o z V h d at small sets are others grown more =
      let l : Layout = layout n s in
      let w : Work = counts name r o z in
      let c : Counts n l s.words g name r o z = e.knows i g w at_g at in
      let k = c.makes in
      let t : ℕ = tablet_of_entry n name.entry in
      let t_in = belongings_in_range.entry n name.entry k.inside in
      let r_in = subst (λ q. q < regions_of n) (sym k.kept.region) (e.copy.home_in t t_in) in
      let E : EntryWord = new_entry name l.cycle (index n (region_word r o)) in
      let long : length (replicate (z - 1) Null) ≡ z - 1 = length-replicate (z - 1) Null in
      let p : Publishes n s V h d g w idle E name.entry r o z = record {
        inside = k.inside;
        writer = omega (arith, k.turn);
        kept = k.kept;
        sets = sets;
        fits_word = record {
          address = address_fits n r o r_in (omega (arith, k.fits, k.some)) shape;
          epoch = small;
          generation = subst (λ q. q < 2 ^ 20) k.generation (generation_small (s.words (entry name.entry)));
        };
        taken = refl;
        epoch = refl;
        address = refl;
        size = (λ q. length (unwrap_or (are q) []) + 1) ∙ (let s1 = k.some in omega arith);
        some = k.some;
        fits = k.fits;
        out = λ taken. absurd (let f = k.free in cc);
        was = λ left. absurd (left k.stays);
        origin = inl (k.free, grown);
        made = more;
        owes = λ q. omega arith;
        others = λ y _ d. others (name_of y (s.words (entry y))) d;
        fields = replicate (z - 1) Null;
        fields_are = are;
        words = λ b less. k.words b (let s1 = k.some in omega arith);
      } in
      publish_kept n s e i g w at_g at V h d idle E name.entry r o z p tt

-- the words of a record whose field is stored
field_words : (fields : List Value) (j : ℕ) (v : Value) (b : ℕ) → j < length fields → b ≢ 1 + j →
    get_or (record_words (set fields j v)) b 0 ≡ get_or (record_words fields) b 0
field_words fields j v zero less d = length-set fields j v
field_words fields j v (suc b) less d =
    (λ q. get_or (map-set value_word fields j v q) b 0) ∙ get_or-set_other (map value_word fields) j b (value_word v)
    0 (λ c. d (let same : b ≡ j = c in omega arith))

field_word : (fields : List Value) (j : ℕ) (v : Value) → j < length fields →
    get_or (map value_word (set fields j v)) j 0 ≡ value_word v
field_word fields j v less =
    (λ q. get_or (map-set value_word fields j v q) j 0) ∙ get_or-set_same (map value_word fields) j (value_word v) 0
    (let a = length-map fields value_word in omega arith)

module _ (n : Numbers) (s : State) (e : Evacuation n s) (i : ℕ) (g : GateFacet) (at_g : slice_get s.gates i ≡ Some g)
    (x r o j : ℕ) (v : Value) (V : Place → ℕ) (h : Heap)
    (at : slice_get s.works i ≡ Some (uses x r o)) (fields : List Value)
    (were : fields_of s.heap (name_of x (s.words (entry x))) ≡ Some fields) (less : j < length fields)
    (sets : Sets n s.words V (region_word r (o + (1 + j))) (value_word v))
    (are : fields_of h (name_of x (s.words (entry x))) ≡ Some (set fields j v))
    (others : (name : Name) → name.entry ≢ x → fields_of h name ≡ fields_of s.heap name) where
  abbrev l : Layout
  l = layout n s

  k : Uses n (layout n s) g x r o
  k = e.knows i g (uses x r o) at_g at

  size_same : (y : ℕ) → y < entries_of n → (slot_of n h y (s.words (entry y))).size ≡ (l.slot y).size
  size_same y m = elim (cases_eq y x) [
    | inl c ↦ subst (λ q. (slot_of n h q (s.words (entry q))).size ≡ (l.slot q).size) (sym c)
        ((λ q. length (unwrap_or (are q) []) + 1) ∙ (let a = length-set fields j v in omega arith)
        ∙ (λ q. length (unwrap_or (sym were q) []) + 1))
    | inr d ↦ (λ q. length (unwrap_or (others (name_of y (s.words (entry y))) d q) []) + 1)
  ]

  table : SameTable n s.words V
  table = table_beside_region n s.words V r (o + (1 + j)) (value_word v) sets

  same : AreSame n l (layout_of n V h s.works s.choice s.made)
  same =
      let base = layout_same n s.words V s.heap s.works s.works s.choice s.made table (λ _ _. refl) (λ _ _. refl) in
      record {
        cycle = base.cycle;
        slots = λ y m. ap (λ q. slot_of n h y q) (table.entries y m) ∙ (λ q. record {
          taken = (entry_at (s.words (entry y))).taken;
          generation = (entry_at (s.words (entry y))).generation;
          epoch = (entry_at (s.words (entry y))).epoch;
          region = region_of_address n (entry_at (s.words (entry y))).address;
          offset = word_of_address n (entry_at (s.words (entry y))).address;
          size = size_same y m q;
        });
        homes = base.homes;
        filleds = base.filleds;
        leavings = base.leavings;
        givens = base.givens;
        spares = base.spares;
        mades = λ _ _. refl;
      }

  size_x : (l.slot x).size ≡ length fields + 1
  size_x = λ q. length (unwrap_or (were q) []) + 1

  -- the word is one of the record's, and of no other
  holds_it : Holds (l.slot x) r (o + (1 + j))
  holds_it =
      record {
        taken = k.taken;
        region = k.region;
        low = omega (arith, k.offset);
        high = omega (arith, k.offset, size_x);
      }

  pub below : o + (1 + j) < l.filled (tablet_of_entry n x)
  below =
      let b = record_in_home n l e.copy x (tablet_of_entry n x) k.inside (belongings_in_range.entry n x k.inside)
      k.taken (k.region ∙ k.home) in
      omega (arith, b.1, holds_it.high)

  other_word : (a b : ℕ) → a < regions_of n → b < n.words → (a ≡ r → b ≢ o + (1 + j)) →
      V (region_word a b) ≡ s.words (region_word a b)
  other_word a b p q d = sets.others (region_word a b) (p, q) (λ c. let c1 : a ≡ r = cc in
      let c2 : b ≡ o + (1 + j) = cc in d c1 c2)

  other_record : (y a b : ℕ) → y < entries_of n → y ≢ x → Holds (l.slot y) a b →
      V (region_word a b) ≡ s.words (region_word a b)
  other_record y a b m d holds =
      let w = record_within n l e.copy y a b m holds in
      other_word a b w.0 w.1
      (λ ca cb. d
      (e.copy.one y x r (o + (1 + j)) m k.inside
      (subst (λ q. Holds (l.slot y) r q) cb (subst (λ q. Holds (l.slot y) q b) ca holds)) holds_it))

  record_after : (y : ℕ) → y < entries_of n → (slot_of n h y (V (entry y))).taken ≡ true →
      IsRecordOf n V h y (slot_of n h y (V (entry y)))
  record_after y m taken =
      let es = table.entries y m in
      let was : (l.slot y).taken ≡ true = ap (λ q. (entry_at q).taken) (sym es) ∙ taken in
      let c = e.records y m was in
      let long = size_is n s.words s.heap y c in
      elim (cases_eq y x) [
        | inl cx ↦ (
            let cf : c.fields ≡ fields = same_Some c.fields fields
            (sym c.are ∙ (λ q. fields_of s.heap (name_of (cx q) (s.words (entry (cx q))))) ∙ were) in
            let at_r : (l.slot y).region ≡ r = ap (λ q. (l.slot q).region) cx ∙ k.region in
            let at_o : (l.slot y).offset ≡ o = ap (λ q. (l.slot q).offset) cx ∙ k.offset in
            record {
              fields = set fields j v;
              are = ap (λ q. fields_of h (name_of y q)) es
                  ∙ (λ q. fields_of h (name_of (cx q) (s.words (entry (cx q))))) ∙ are;
              address = (λ q. index n (region_word (slot_of n h y (es q)).region (slot_of n h y (es q)).offset))
                  ∙ c.address ∙ ap (λ q. (entry_at q).address) (sym es);
              words = λ b small.
                  let inside : b < length fields + 1 = (let a = length-set fields j v in omega arith) in
                  let place : region_word (slot_of n h y (V (entry y))).region
                  ((slot_of n h y (V (entry y))).offset + b)
                  ≡ region_word r (o + b) =
                  (λ q. region_word (slot_of n h y (es q)).region ((slot_of n h y (es q)).offset + b))
                  ∙ (λ q. region_word (at_r q) (at_o q + b)) in
                  ap V place ∙ elim (cases_eq b (1 + j)) [
                    | inl hit ↦ subst (λ q. V (region_word r (o + q)) ≡ get_or (record_words (set fields j v)) q 0)
                        (sym hit)
                        (subst (λ q. V (region_word r (o + (1 + j))) ≡ get_or (record_words (set fields j v)) q 0)
                        (let a : suc j ≡ 1 + j = omega arith in a) (sets.here ∙ sym (field_word fields j v less)))
                    | inr miss ↦
                        (let w = record_within n l e.copy x r (o + b) k.inside
                        (record {
                          taken = k.taken;
                          region = k.region;
                          low = omega (arith, k.offset);
                          high = omega (arith, k.offset, size_x);
                        }) in
                        other_word r (o + b) w.0 w.1 (λ _ c2. let m2 : b ≢ 1 + j = miss in omega arith)
                        ∙ (λ q. s.words (region_word (sym at_r q) (sym at_o q + b)))
                        ∙ c.words b (let lc = ap length cf in omega arith)
                        ∙ (λ q. get_or (record_words (cf q)) b 0)
                        ∙ sym (field_words fields j v b less miss))
                  ];
            })
        | inr d ↦ record {
          fields = c.fields;
          are = ap (λ q. fields_of h (name_of y q)) es ∙ others (name_of y (s.words (entry y))) d ∙ c.are;
          address = (λ q. index n (region_word (slot_of n h y (es q)).region (slot_of n h y (es q)).offset))
              ∙ c.address ∙ ap (λ q. (entry_at q).address) (sym es);
          words = λ b small.
              (λ q. V (region_word (slot_of n h y (es q)).region ((slot_of n h y (es q)).offset + b)))
              ∙ other_record y (l.slot y).region ((l.slot y).offset + b) m d
              (record { taken = was; region = refl; low = omega arith; high = omega (arith, long) })
              ∙ c.words b small;
        }
      ]

  -- a field of the record in the home is stored
  pub store_field : Evacuation n (record s { words = V; heap = h })
  store_field = frame_kept n s e V h s.gates s.works e.seats
      (gates_frame n s.words V s.gates (leaves_gates n s.words V _ _ sets tt) e.gates) same e.pause
      (λ t m. omega (arith, e.even t m, ap (λ q. top_read (debt_of s.choice) t q) (table.tops t m)))
      record_after
      e.passed
      (λ q f u at_f at_u. inr (
        at_f,
        at_u,
        (λ m known.
            let y : ℕ = entry_of u in
            let t : ℕ = tablet_of_entry n y in
            let t_in = belongings_in_range.entry n y m in
            beside_same n l (layout_of n V h s.works s.choice s.made) s.words V same f y m (λ _. table.tops t t_in)
            (λ _ a low high. other_word (l.home t) a (e.copy.home_in t t_in) high (λ c1 c2.
            let one : t ≡ tablet_of_entry n x = one_home n l e.copy t (tablet_of_entry n x) t_in
            (belongings_in_range.entry n x k.inside) (c1 ∙ k.home) in
            let b : o + (1 + j) < l.filled t = subst (λ c. o + (1 + j) < l.filled c) (sym one) below in omega arith))
            (λ _ a b holds out. elim (cases_eq y x) [
              | inl c ↦
                  absurd (out (sym holds.region ∙ ap (λ z. (l.slot z).region) c ∙ k.region ∙ k.home
                  ∙ ap (λ z. l.home (tablet_of_entry n z)) (sym c)))
              | inr d ↦ other_record y a b m d holds
            ])),
      ))
