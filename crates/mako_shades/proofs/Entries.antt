-- Steps that write an entry: a mark, and a name made.
use Rattle.std.proofs.Common.{◌≡◌, ◌≢◌, ℕ, ◌⊎◌, inl, inr, ⊎_elim, List, [], ◌∷◌, ◌++◌, set, replicate, slice_get, Some}
use Rattle.std.proofs.Common.{None, true, false, sym, ap, subst, refl, ◌∙◌, append-nil}
use Rattle.std.proofs.lemmas.Option.{none-some}
use Rattle.std.proofs.lemmas.List.Elements.{Contains-push, Contains-push_cases}
use Rattle.mako_words.specs.declared.name.Name.{Name}
use Rattle.mako_words.specs.declared.value.Value.TheVariants as value
use Rattle.mako_words.specs.declared.entry_word.EntryWord.{EntryWord}
use Rattle.mako_words.specs.Entries.{entry_at}
use Rattle.mako_shape.specs.declared.numbers.Numbers.{Numbers}
use Rattle.mako_shape.specs.Places.{entry, index, Within, word_at}
use Rattle.mako_model.specs.declared.call.Call.TheVariants as call
use Rattle.mako_model.specs.declared.reply.Reply.TheVariants as reply
use Rattle.mako_model.specs.declared.point.Point.{Point}
use Rattle.mako_model.specs.declared.point.Point.TheVariants.{Did}
use Rattle.mako_model.specs.Heaps.{fields_of}
use Rattle.mako_model.specs.Lawful.{HasRoot}
use Rattle.mako_model.specs.Legal.{Facts, state_of, IsLegal}
use Rattle.mako_model.proofs.Lookups.{fields_other}
use Rattle.mako_model.proofs.Histories.{state_push, legal_push}
use Rattle.mako_ring.specs.Shades.{entry_of, IsMarked}
use Rattle.mako_ring.specs.TraceFacets.{Hand, marking, pushing, Work, TraceFacet, apart, serving, InHand, IsPushing}
use Rattle.mako_names.specs.Uses.{IsGood}
use Rattle.mako_shades.specs.Holding.{HoldsName, TracingHolds}
use Rattle.mako_shades.proofs.Goods.{replied_snaps, fresh_good}
use Rattle.mako_shades.proofs.Words.{marked_same, slot_stays, slot_stayed, entry_written}
use Rattle.mako_shades.proofs.General.{Holding, Act}
use Rattle.mako_shades.proofs.Moves.{moved}
use Rattle.mako_shades.proofs.Turns.{no_member, good_held}
use Rattle.mako_shades.proofs.Lists.{set_again}

-- a name that is marked after an entry was written there has the generation written
written_name : (n : Numbers) (words : List ℕ) (cycle : ℕ) (x y : Name) (e : EntryWord) → IsMarked n words cycle y
    → y.entry ≡ x.entry → entry_of n words y.entry ≡ e → e.generation ≡ x.generation → y ≡ x
written_name n words cycle x y e marked same is generation =
    let g : y.generation ≡ x.generation = sym marked.generation ∙ ap (λ (k : EntryWord). k.generation) is ∙ generation
    in
    λ i. record { entry = same i; generation = g i }

module _ (n : Numbers) (w : Facts) (words : List ℕ) (facets : List TraceFacet) (history : List Point) (cycle : ℕ)
    (k : Holding n w words facets history cycle) (seat : ℕ) where
  -- ---- a server marks the name in its hand

  module _ (job : Work) (here : slice_get facets seat ≡ Some (serving job)) (x : Name) (old : EntryWord)
      (hand : job.hand ≡ marking x old) (within : Within n (entry x.entry))
      (taken : (entry_of n words x.entry).taken ≡ true)
      (generation : (entry_of n words x.entry).generation ≡ x.generation)
      (v : ℕ) (is : entry_at v ≡ record (entry_of n words x.entry) { epoch = cycle }) where
    abbrev mark_act : Act
    mark_act = record {
      numbers = n;
      workload = w;
      cycle = cycle;
      words = words;
      next_words = set words (index n (entry x.entry)) v;
      facets = facets;
      seat = seat;
      facet = serving job;
      next_facet = serving (record job { hand = pushing x });
      history = history;
      points = [];
      next_history = history;
    }

    mark_good : IsGood w history x
    mark_good = good_held n w words facets history cycle k seat (serving job) here x
        (inl (subst (λ (g : Hand). InHand g x) (sym hand) refl))

    -- the entry of the name, as another name with that entry sees it
    mark_written : (y : Name) → y.entry ≡ x.entry
        → entry_of n (set words (index n (entry x.entry)) v) y.entry ≡ entry_at v
        → entry_of n (set words (index n (entry x.entry)) v) y.entry ≡ record (entry_of n words y.entry)
        { epoch = cycle }
    mark_written y same e = e ∙ is ∙ ap (λ (k : ℕ). record (entry_of n words k) { epoch = cycle }) (sym same)

    pub mark_stays : (y : Name) → IsMarked n words cycle y → IsMarked n (set words (index n (entry x.entry)) v) cycle y
    mark_stays y m =
        ⊎_elim
        (λ t. let e = mark_written y t.0 t.1 in record {
          in_range = m.in_range;
          taken = ap (λ (k : EntryWord). k.taken) e ∙ m.taken;
          generation = ap (λ (k : EntryWord). k.generation) e ∙ m.generation;
          epoch = ap (λ (k : EntryWord). k.epoch) e;
        })
        (λ t. marked_same n words (set words (index n (entry x.entry)) v) cycle y t.1 m)
        (entry_written n words x.entry v within k.size y.entry m.in_range)

    pub mark_address : (y : Name) → IsMarked n words cycle y
        → (entry_of n (set words (index n (entry x.entry)) v) y.entry).address ≡ (entry_of n words y.entry).address
    mark_address y m =
        ⊎_elim (λ t. ap (λ (k : EntryWord). k.address) (mark_written y t.0 t.1))
        (λ t. ap (λ (k : ℕ). (entry_at k).address) t.1)
        (entry_written n words x.entry v within k.size y.entry m.in_range)

    mark_new : (y : Name) → IsMarked n (set words (index n (entry x.entry)) v) cycle y → IsMarked n words cycle y
        ⊎ IsGood w history y
    mark_new y m =
        ⊎_elim
        (λ t. inr
        (subst (IsGood w history) (sym (written_name n (set words (index n (entry x.entry)) v) cycle x y (entry_at v)
        m t.0 t.1 (ap (λ (k : EntryWord). k.generation) is ∙ generation))) mark_good))
        (λ t. inl (marked_same n (set words (index n (entry x.entry)) v) words cycle y (sym t.1) m))
        (entry_written n words x.entry v within k.size y.entry m.in_range)

    mark_begins : (y : Name) → (¬ IsMarked n words cycle y)
        → IsMarked n (set words (index n (entry x.entry)) v) cycle y → x.entry ≡ y.entry
    mark_begins y unmarked m =
        ⊎_elim (λ t. sym t.0)
        (λ t. absurd (unmarked (marked_same n (set words (index n (entry x.entry)) v) words cycle y (sym t.1) m)))
        (entry_written n words x.entry v within k.size y.entry m.in_range)

    pub marks : TracingHolds n w (set words (index n (entry x.entry)) v)
        (set facets seat (serving (record job { hand = pushing x }))) history cycle
    marks = moved mark_act k.tracing
        (record { grown = sym (append-nil history); legal = k.legal; still = refl; here = here }) (record {
          slots = λ y s. inl (slot_stays n words x.entry v within y s);
          held = λ y grey.
              inl (⊎_elim (λ in_hand. inl (subst (λ (g : Hand). InHand g y) hand in_hand)) (λ o. inr o) grey);
          marks = mark_stays;
          addresses = mark_address;
          new_slots = λ y s. inl (slot_stayed n words x.entry v within y s);
          new_held = λ y grey. inl (⊎_elim (λ same. inl (subst (λ (g : Hand). InHand g y) (sym hand) same))
              (λ o. inr o) grey);
          new_marks = mark_new;
          keeps = λ y none. absurd none;
          holds = λ object field y snap holds. inr holds;
          works = λ object field y holds m works. inr
              (⊎_elim (λ c. inl (⊎_elim (λ p. absurd (subst (λ (g : Hand). IsPushing g object.entry) hand p))
              (λ on_stack. inr on_stack) c)) (λ c. inr c) works);
          begins = λ object field y holds unmarked now. inl (inl (mark_begins object unmarked now));
          puts = λ object field y snap. tt;
          news = λ y new. absurd (no_member y new);
        })

  -- ---- a name is made

  module _ (here : slice_get facets seat ≡ Some apart) (m root count : ℕ) (x : Name)
      (has : HasRoot (state_of w history) m root) (fresh : fields_of (state_of w history) x ≡ None)
      (within : Within n (entry x.entry)) (free : (entry_of n words x.entry).taken ≡ false)
      (v : ℕ) (taken : (entry_at v).taken ≡ true) (generation : (entry_at v).generation ≡ x.generation)
      (epoch : (entry_at v).epoch ≡ cycle) where
    abbrev pub made_point : Point
    made_point = Did m (call.New root count) (reply.Made x)

    abbrev pub made_words : List ℕ
    made_words = set words (index n (entry x.entry)) v

    abbrev made_act : Act
    made_act = record {
      numbers = n;
      workload = w;
      cycle = cycle;
      words = words;
      next_words = made_words;
      facets = facets;
      seat = seat;
      facet = apart;
      next_facet = apart;
      history = history;
      points = made_point ∷ [];
      next_history = history ++ made_point ∷ [];
    }

    pub made_legal : IsLegal w (history ++ made_point ∷ [])
    made_legal = legal_push w history made_point k.legal (has, fresh)

    made_good : IsGood w (history ++ made_point ∷ []) x
    made_good = fresh_good w history made_point x made_legal (replied_snaps w history m (call.New root count)
        (reply.Made x)) fresh (Contains-push [] x)

    no_two : false ≡ true → ⊥
    no_two e = cc

    pub made_else : (y : Name) → IsMarked n words cycle y
        → word_at n made_words (entry y.entry) ≡ word_at n words (entry y.entry)
    made_else y marked =
        ⊎_elim (λ t. absurd (no_two (sym free ∙ ap (λ (k : ℕ). (entry_of n words k).taken) (sym t.0) ∙ marked.taken)))
        (λ t. t.1)
        (entry_written n words x.entry v within k.size y.entry marked.in_range)

    pub made_was : (y : Name) → IsMarked n made_words cycle y → IsMarked n words cycle y ⊎ (y ≡ x)
    made_was y marked =
        ⊎_elim (λ t. inr (written_name n made_words cycle x y (entry_at v) marked t.0 t.1 generation))
        (λ t. inl (marked_same n made_words words cycle y (sym t.1) marked))
        (entry_written n words x.entry v within k.size y.entry marked.in_range)

    not_fresh : (object : Name) (field : ℕ) (y : Name) → HoldsName (state_of w history) object field y → object ≢ x
    not_fresh object field y holds same =
        none-some holds.fields (sym fresh ∙ ap (fields_of (state_of w history)) (sym same) ∙ holds.object_is)

    made_holds : (object : Name) (field : ℕ) (y : Name) → HoldsName (state_of w history) object field y
        → HoldsName (state_of w (history ++ made_point ∷ [])) object field y
    made_holds object field y holds =
        subst (λ h. HoldsName h object field y) (sym (state_push w history made_point)) (record {
          fields = holds.fields;
          object_is = fields_other (state_of w history) x (replicate count value.Null) object
              (not_fresh object field y holds) ∙ holds.object_is;
          field_is = holds.field_is;
        })

    made_marked : IsMarked n made_words cycle x
    made_marked = ⊎_elim
        (λ t. record {
          in_range = within;
          taken = ap (λ (k : EntryWord). k.taken) t.1 ∙ taken;
          generation = ap (λ (k : EntryWord). k.generation) t.1 ∙ generation;
          epoch = ap (λ (k : EntryWord). k.epoch) t.1 ∙ epoch;
        })
        (λ t. absurd (t.0 refl)) (entry_written n words x.entry v within k.size x.entry within)

    pub publishes : TracingHolds n w made_words facets (history ++ made_point ∷ []) cycle
    publishes = subst (λ fs. TracingHolds n w made_words fs (history ++ made_point ∷ []) cycle)
        (set_again facets seat apart here)
        (moved made_act k.tracing
        (record {
          grown = refl;
          legal = made_legal;
          still = replied_snaps w history m (call.New root count) (reply.Made x);
          here = here;
        }) (record {
          slots = λ y s. inl (slot_stays n words x.entry v within y s);
          held = λ y grey. inl grey;
          marks = λ y marked. marked_same n words made_words cycle y (made_else y marked) marked;
          addresses = λ y marked. ap (λ (k : ℕ). (entry_at k).address) (made_else y marked);
          new_slots = λ y s. inl (slot_stayed n words x.entry v within y s);
          new_held = λ y grey. inl grey;
          new_marks = λ y marked. ⊎_elim (λ z. inl z)
              (λ same. inr (subst (IsGood w (history ++ made_point ∷ [])) (sym same) made_good)) (made_was y marked);
          keeps = λ y none. absurd none;
          holds = λ object field y snap holds. inr (made_holds object field y holds);
          works = λ object field y holds marked works. absurd works;
          begins = λ object field y holds unmarked now. ⊎_elim (λ z. absurd (unmarked z))
              (λ same. absurd (not_fresh object field y holds same)) (made_was object now);
          puts = λ object field y snap. tt;
          news = λ y new. ⊎_elim (λ none. absurd (no_member y none)) (λ same. subst (IsMarked n made_words cycle) same
              made_marked) (Contains-push_cases [] x y new);
        }))
