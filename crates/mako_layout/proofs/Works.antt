-- Steps of one view's work that leave the layout: loads, stores of a record's words past the words in use, raises of
-- the top.
use Rattle.std.proofs.Common.{◌≡◌, ◌≢◌, ℕ, ◌+◌, ◌<◌, ◌≤◌, inl, inr, set, slice_get, sum_by, Some, sym, ap, ◌∙◌, refl}
use Rattle.std.proofs.Common.{subst, arith}
use Rattle.std.proofs.lemmas.List.{length-set}
use Rattle.std.proofs.lemmas.Bool.{cases_eq}
use Rattle.std.proofs.lemmas.Option.{same_Some}
use Rattle.mako_shape.specs.declared.numbers.Numbers.{Numbers}
use Rattle.mako_shape.specs.Places.{Place, top, region_word}
use Rattle.mako_shape.specs.Belongings.{tablet_of_entry}
use Rattle.mako_shape.proofs.BelongingLaws.{belongings_in_range}
use Rattle.mako_layout.specs.Layouts.{Layout, entries_of, regions_of, Holds}
use Rattle.mako_layout.specs.Facets.{Work, fills, carries, makes, debt_of}
use Rattle.mako_layout.specs.Evacuations.{top_read, to_raise, counted_in, Carries, Makes, null_words, Knows, State}
use Rattle.mako_layout.specs.Evacuations.{layout, Evacuation}
use Rattle.mako_layout.specs.Beside.{entry_of}
use Rattle.mako_layout.specs.Frames.{SameTable}
use Rattle.mako_gate.specs.Changes.{tablets_of, Sets, LeavesGates}
use Rattle.mako_gate.specs.Standings.{GateFacet, writes}
use Rattle.mako_gate.proofs.Lists.{at_set, sum_at}
use Rattle.mako_layout.proofs.Roles.{copy_fits}
use Rattle.mako_layout.proofs.Frames.{table_beside_region, gates_frame, layout_same, record_stays, ahead_stays}
use Rattle.mako_layout.proofs.Frames.{leaves_gates}
use Rattle.mako_layout.proofs.Stays.{KnownAfter, stays_kept}
use Rattle.mako_gate.proofs.GatesTell.{gates_tell}
use Rattle.mako_words.specs.declared.name.Name.{Name}
use Rattle.mako_words.specs.declared.entry_word.EntryWord.{EntryWord}

same_table : (n : Numbers) (W : Place → ℕ) → SameTable n W W
same_table n W = record {
  phase = refl;
  entries = λ _ _. refl;
  homes = λ _ _. refl;
  tops = λ _ _. refl;
  leavings = λ _ _. refl;
}

same_gates : (n : Numbers) (W : Place → ℕ) → LeavesGates n W W
same_gates n W = record { tablets = λ _ _. refl; owns = λ _ _. refl; turns = λ _ _. refl }

-- the work owes as much as before
pub record SameDebts (n : Numbers) (w u : Work) : Type 0 where
  pub raise : (t : ℕ) → to_raise n t u ≡ to_raise n t w
  pub count : (t : ℕ) → counted_in n t u ≡ counted_in n t w

module _ (n : Numbers) (s : State) (e : Evacuation n s) (i : ℕ) (g : GateFacet) (w : Work)
    (at_g : slice_get s.gates i ≡ Some g) (at_w : slice_get s.works i ≡ Some w) where
  raise_same : (u : Work) → SameDebts n w u →
      (t : ℕ) → sum_by (to_raise n t) (set s.works i u) ≡ sum_by (to_raise n t) s.works
  raise_same u d t = omega (arith, sum_at (to_raise n t) s.works i w u at_w, d.raise t)

  count_same : (u : Work) → SameDebts n w u →
      (t : ℕ) → sum_by (counted_in n t) (set s.works i u) ≡ sum_by (counted_in n t) s.works
  count_same u d t = omega (arith, sum_at (counted_in n t) s.works i w u at_w, d.count t)

  -- what each seat knows, where the work of one changed
  pub known : (V : Place → ℕ) (u : Work) → Knows n (layout n s) V g u →
      ((j : ℕ) (f : GateFacet) (t : ℕ) → j ≢ i → slice_get s.gates j ≡ Some f → t < tablets_of n → 1 ≤ writes t f →
      V (top t) ≡ s.words (top t)) →
      ((j : ℕ) (f : GateFacet) (t : ℕ) → j ≢ i → slice_get s.gates j ≡ Some f → t < tablets_of n → 1 ≤ writes t f →
      (a : ℕ) → (layout n s).filled t ≤ a → a < n.words →
      V (region_word ((layout n s).home t) a) ≡ s.words (region_word ((layout n s).home t) a)) →
      (j : ℕ) (f : GateFacet) (v : Work) → slice_get s.gates j ≡ Some f → slice_get (set s.works i u) j ≡ Some v →
      KnownAfter n s V j f v
  known V u own heights ahead j f v at_f at_v = elim (at_set s.works i j u v at_v) [
    | inl c ↦ (let same_g : g ≡ f = same_Some g f (sym at_g ∙ ap (slice_get s.gates) (sym c.0) ∙ at_f) in
        inl (subst (λ q. Knows n (layout n s) V q v) same_g (subst (λ q. Knows n (layout n s) V g q) c.1 own)))
    | inr d ↦ inr (
      at_f,
      d.1,
      (λ h writing. heights j f (tablet_of_entry n (entry_of v)) d.0 at_f (belongings_in_range.entry n (entry_of v) h)
          writing),
      (λ h writing a low high. ahead j f (tablet_of_entry n (entry_of v)) d.0 at_f
          (belongings_in_range.entry n (entry_of v) h) writing a low high),
    )
  ]

  -- the table and the gates stay
  pub work_kept : (V : Place → ℕ) (u : Work) → SameTable n s.words V → LeavesGates n s.words V → SameDebts n w u →
      ((x r a : ℕ) → x < entries_of n → Holds ((layout n s).slot x) r a →
      V (region_word r a) ≡ s.words (region_word r a)) →
      Knows n (layout n s) V g u →
      ((j : ℕ) (f : GateFacet) (t : ℕ) → j ≢ i → slice_get s.gates j ≡ Some f → t < tablets_of n → 1 ≤ writes t f →
      (a : ℕ) → (layout n s).filled t ≤ a → a < n.words →
      V (region_word ((layout n s).home t) a) ≡ s.words (region_word ((layout n s).home t) a)) →
      Evacuation n (record s { words = V; works = set s.works i u })
  work_kept V u table gates debts words own ahead =
      stays_kept n s e V s.gates (set s.works i u) (length-set s.works i u ∙ e.seats)
      (gates_frame n s.words V s.gates gates e.gates)
      (layout_same n s.words V s.heap s.works (set s.works i u) s.choice s.made table (λ t h. raise_same u debts t)
      (λ t h. count_same u debts t))
      table.entries e.pause
      (λ t h. omega (
        arith,
        e.even t h,
        raise_same u debts t,
        count_same u debts t,
        ap (top_read (debt_of s.choice) t)
            (table.tops t h),
      ))
      words e.passed (known V u own (λ j f t d at h writing. table.tops t h) ahead)

  -- a load
  pub load_kept : (u : Work) → SameDebts n w u → Knows n (layout n s) s.words g u →
      Evacuation n (record s { works = set s.works i u })
  load_kept u debts own = work_kept s.words u (same_table n s.words) (same_gates n s.words) debts (λ _ _ _ _ _. refl)
      own (λ _ _ _ _ _ _ _ _ _ _. refl)

  -- a store past the words in use, by the writer
  pub store_kept : (V : Place → ℕ) (u : Work) (t a v : ℕ) → t < tablets_of n → 1 ≤ writes t g →
      (layout n s).filled t ≤ a →
      Sets n s.words V (region_word ((layout n s).home t) a) v → SameDebts n w u → Knows n (layout n s) V g u →
      Evacuation n (record s { words = V; works = set s.works i u })
  store_kept V u t a v inside writing past sets debts own =
      let l : Layout = layout n s in
      work_kept V u (table_beside_region n s.words V (l.home t) a v sets) (leaves_gates n s.words V _ _ sets tt) debts
      (record_stays n l e.copy s.words V t a v inside past sets) own
      (λ j f q d at h other b low high. ahead_stays n l e.copy s.words V t a v inside past sets q b h
      (λ same. let z = (gates_tell n s.words s.gates e.gates).writers.one t i j g f inside (λ c. d (sym c)) at_g at
      writing in
      let y : 1 ≤ writes t f = subst (λ c. 1 ≤ writes c f) same other in omega arith) high)

-- The kinds.
module _ (n : Numbers) (s : State) (e : Evacuation n s) (i : ℕ) (g : GateFacet) (at_g : slice_get s.gates i ≡ Some g)
  where
    -- the next word of the record is loaded
    pub load_word : (x : ℕ) (found : EntryWord) (r o j : ℕ) → slice_get s.works i ≡ Some (fills x found r o j) →
        j < ((layout n s).slot x).size →
        Evacuation n
        (record s {
          works = set s.works i
              (carries x found r o j
              (s.words (region_word ((layout n s).slot x).region (((layout n s).slot x).offset + j))));
        })
    load_word x found r o j at more =
        load_kept n s e i g (fills x found r o j) at_g at
        (carries x found r o j (s.words (region_word ((layout n s).slot x).region (((layout n s).slot x).offset + j))))
        (record { raise = λ t. refl; count = λ t. refl })
        (record { fills = e.knows i g (fills x found r o j) at_g at; more = more; word = refl })

    -- and stored
    pub store_word : (x : ℕ) (found : EntryWord) (r o j v : ℕ) (V : Place → ℕ) →
        slice_get s.works i ≡ Some (carries x found r o j v) →
        Sets n s.words V (region_word r (o + j)) v →
        Evacuation n (record s { words = V; works = set s.works i (fills x found r o (j + 1)) })
    store_word x found r o j v V at sets =
        let l : Layout = layout n s in
        let k : Carries n l s.words g x found r o j v = e.knows i g (carries x found r o j v) at_g at in
        let t : ℕ = tablet_of_entry n x in
        let f = k.fills in
        let inside = belongings_in_range.entry n x f.inside in
        let sets' = subst (λ a. Sets n s.words V (region_word a (o + j)) v) f.kept.region sets in
        let out : (l.slot x).region ≢ l.home t = λ c. f.out (c ∙ sym f.kept.region) in
        let fit = copy_fits n l e.copy x f.inside f.taken f.epoch out in
        let past : l.filled t ≤ o + j = omega (arith, f.kept.offset) in
        let source : (b : ℕ) → b < (l.slot x).size → V (region_word (l.slot x).region ((l.slot x).offset + b))
        ≡ s.words (region_word (l.slot x).region ((l.slot x).offset + b)) =
        λ b less. record_stays n l e.copy s.words V t (o + j) v inside past sets' x (l.slot x).region
        ((l.slot x).offset + b) f.inside
        (record { taken = f.taken; region = refl; low = omega arith; high = omega arith }) in
        store_kept n s e i g (carries x found r o j v) at_g at V (fills x found r o (j + 1)) t (o + j) v inside
        f.writer past sets'
        (record { raise = λ t. refl; count = λ t. refl })
        (record {
          inside = f.inside;
          writer = f.writer;
          kept = f.kept;
          taken = f.taken;
          epoch = f.epoch;
          out = f.out;
          as_found = f.as_found;
          most = omega (arith, k.more);
          words = λ b less. elim (cases_eq b j) [
            | inl same ↦
                subst (λ q. V (region_word r (o + q)) ≡ V (region_word (l.slot x).region ((l.slot x).offset + q)))
                (sym same) (sets.here ∙ k.word ∙ sym (source j k.more))
            | inr ne ↦ (let before : b < j = (let d : b ≢ j = ne in omega arith) in
                sets.others (region_word r (o + b)) (
                  subst (λ q. q < regions_of n) (sym f.kept.region) (e.copy.home_in t inside),
                  omega
                      (arith, k.more, f.kept.offset),
                )
                (λ same. let w : o + b ≡ o + j = cc in omega arith)
                ∙ f.words b before ∙ sym (source b (omega (arith, k.more))))
          ];
        })

    -- a word of a new record is stored
    pub store_null : (name : Name) (r o z j : ℕ) (V : Place → ℕ) → slice_get s.works i ≡ Some (makes name r o z j) →
        j < z → Sets n s.words V (region_word r (o + j)) (null_words z j) →
        Evacuation n (record s { words = V; works = set s.works i (makes name r o z (j + 1)) })
    store_null name r o z j V at more sets =
        let l : Layout = layout n s in
        let k : Makes n l s.words g name r o z j = e.knows i g (makes name r o z j) at_g at in
        let t : ℕ = tablet_of_entry n name.entry in
        let inside = belongings_in_range.entry n name.entry k.inside in
        let sets' = subst (λ a. Sets n s.words V (region_word a (o + j)) (null_words z j)) k.kept.region sets in
        let past : l.filled t ≤ o + j = omega (arith, k.kept.offset) in
        store_kept n s e i g (makes name r o z j) at_g at V (makes name r o z (j + 1)) t (o + j) (null_words z j) inside
        (omega (arith, k.turn)) past sets' (record { raise = λ t. refl; count = λ t. refl })
        (record {
          inside = k.inside;
          turn = k.turn;
          kept = k.kept;
          stays = k.stays;
          free = k.free;
          generation = k.generation;
          some = k.some;
          fits = k.fits;
          most = omega arith;
          words = λ b less. elim (cases_eq b j) [
            | inl same ↦ subst (λ q. V (region_word r (o + q)) ≡ null_words z q) (sym same) sets.here
            | inr ne ↦ (let before : b < j = (let d : b ≢ j = ne in omega arith) in
                sets.others (region_word r (o + b))
                (subst (λ q. q < regions_of n) (sym k.kept.region) (e.copy.home_in t inside), omega (arith, k.fits))
                (λ same. let w : o + b ≡ o + j = cc in omega arith)
                ∙ k.words b before)
          ];
        })
