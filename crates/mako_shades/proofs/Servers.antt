-- The steps of a server keep what is kept of tracing.
use Rattle.std.proofs.Common.{◌≡◌, ◌≢◌, ℕ, ◌+◌, ◌<◌, inl, inr, ⊎_elim, List, [], ◌∷◌, ◌++◌, Contains, length, set}
use Rattle.std.proofs.Common.{slice_get, slice_index, get_or, Option, Some, None, if◌then◌else◌, ◌==◌, true, sym, ap}
use Rattle.std.proofs.Common.{subst, refl, ◌∙◌, arith}
use Rattle.std.proofs.lemmas.Bool.{cond_both, eqb-true, eqb-false}
use Rattle.std.proofs.lemmas.Option.{slice_get-get_or}
use Rattle.std.proofs.lemmas.List.Elements.{Contains-append_left, Contains-push, Contains-push_cases}
use Rattle.mako_words.specs.declared.name.Name.{Name}
use Rattle.mako_words.specs.declared.value.Value.{Value}
use Rattle.mako_words.specs.declared.value.Value.TheVariants as value
use Rattle.mako_words.specs.declared.entry_word.EntryWord.{EntryWord}
use Rattle.mako_words.specs.Entries.{entry_at}
use Rattle.mako_words.specs.Names.{name_word, FitsName}
use Rattle.mako_words.specs.Values.{value_at}
use Rattle.mako_words.proofs.ValueWords.{value_at-value_word}
use Rattle.mako_shape.specs.declared.numbers.Numbers.{Numbers}
use Rattle.mako_shape.specs.Places.{Place, ghost, entry, index, Within, word_at}
use Rattle.mako_shape.specs.Belongings.{server_of_entry}
use Rattle.mako_model.specs.declared.point.Point.{Point}
use Rattle.mako_model.specs.Heaps.{fields_of}
use Rattle.mako_model.specs.Lawful.{IsNoRef}
use Rattle.mako_model.specs.Legal.{Facts, state_of}
use Rattle.mako_model.specs.Laws.{HasObject}
use Rattle.mako_model.proofs.Closed.{made_are_objects}
use Rattle.mako_ring.specs.declared.tracing.Scan.{Scan}
use Rattle.mako_ring.specs.Shades.{entry_of, IsMarked, IsShadeSlot}
use Rattle.mako_ring.specs.TraceFacets.{Hand, empty, considering, marking, pushing, nothing, popped, located, Work}
use Rattle.mako_ring.specs.TraceFacets.{TraceFacet, serving, InHand}
use Rattle.mako_names.specs.Tables.{IsTaken}
use Rattle.mako_names.specs.Uses.{IsGood}
use Rattle.mako_shades.specs.Serving.{IsEntryMarked, HandStands, StandOnce, HandIsFresh, OffStands, IsScan, ScanFits}
use Rattle.mako_shades.specs.Serving.{ServerStands, SeatTracks, AreServing, Tracks}
use Rattle.mako_shades.specs.Stands.{HeapStands, SameEntries}
use Rattle.mako_shades.proofs.General.{Holding}
use Rattle.mako_shades.proofs.Words.{entries_same, entry_written}
use Rattle.mako_shades.proofs.Stacks.{once_push, once_front, fresh_front}
use Rattle.mako_shades.proofs.Taken.{taken_word, taken_generation, taken_marked, marked_taken}
use Rattle.mako_shades.proofs.Serving.{SeatKept, HandKept, seat_kept, leaves_entries, sizes_same, Leaves, serving_on}
use Rattle.mako_shades.proofs.Serving.{server_stays}
use Rattle.mako_shades.proofs.Turns.{Loads, GoesOn, good_held, pushes, dismisses, looks_up, takes_off, locates}
use Rattle.mako_shades.proofs.Turns.{begins_scan, skips_scan, scan_takes, scan_sends, scan_passes}
use Rattle.mako_shades.proofs.Slots.{takes, sends}
use Rattle.mako_shades.proofs.Entries.{marks, mark_stays, mark_address}

module _ (n : Numbers) (w : Facts) (words : List ℕ) (facets : List TraceFacet) (history : List Point) (cycle : ℕ)
    (st : HeapStands n w words history) (t : Tracks n w words facets history cycle) where
  pub holding : Holding n w words facets history cycle
  holding = record { size = st.size; legal = st.legal; fit = st.fit; tracing = t.tracing }

  module _ (seat : ℕ) (job : Work) (here : slice_get facets seat ≡ Some (serving job)) where
    abbrev pub After : List ℕ → Work → Type 0
    After words' next = Tracks n w words' (set facets seat (serving next)) history cycle

    known : ServerStands n w words history cycle job
    known = t.serving.each seat (serving job) here

    -- one facet changes, and no entry
    served : (words' : List ℕ) (next : Work) → SameEntries n words words' → next.server ≡ job.server
        → ServerStands n w words' history cycle next
        → AreServing n w words' (set facets seat (serving next)) history cycle
    served words' next same server stands =
        serving_on n w words words' history history cycle (leaves_entries n w words words' history history cycle same
        (sizes_same (state_of w history))) facets t.serving
        seat (serving job) (serving next) here (λ s is. sym server ∙ is)
        (λ other e at ne. seat_kept n w words words' history cycle same e (t.serving.each other e at)) stands

    same_words : SameEntries n words words
    same_words x in_x = refl

    held_good : (x : Name) → InHand job.hand x → IsGood w history x
    held_good x in_hand = good_held n w words facets history cycle holding seat (serving job) here x (inl in_hand)

    -- the entry of a name in hand is taken with its generation
    pub held_taken : (x : Name) → InHand job.hand x → IsTaken n words x.entry x.generation
    held_taken x in_hand = st.taken x (held_good x in_hand)

    in_hand_is : (h : Hand) (x : Name) → job.hand ≡ h → InHand h x → InHand job.hand x
    in_hand_is h x hand is = subst (λ (g : Hand). InHand g x) (sym hand) is

    -- ---- its name in hand

    -- a name is taken out of a work or ghost slot
    pub server_takes : job.hand ≡ empty → (p : Place) → IsShadeSlot p → Within n p → (x : Name) → FitsName x
        → word_at n words p ≡ name_word x → server_of_entry n x.entry ≡ job.server
        → After (set words (index n p) 0) (record job { hand = considering x })
    server_takes hand p slot within x fits found own =
        let same : SameEntries n words (set words (index n p) 0) = entries_same n words p 0 st.size within slot in
        let stay = server_stays n w words (set words (index n p) 0) history history cycle
        (leaves_entries n w words (set words (index n p) 0) history history cycle same
        (sizes_same (state_of w history)))
        job (seat_kept n w words (set words (index n p) 0) history cycle same (serving job) known) known in record {
          tracing = takes n w words facets history cycle holding seat job here hand p slot within x fits found;
          serving = served (set words (index n p) 0) (record job { hand = considering x }) same refl (record {
            own = λ y is. subst (λ (z : Name). server_of_entry n z.entry ≡ job.server) is own;
            hand = tt;
            fresh = tt;
            stack = stay.stack;
            mine = stay.mine;
            once = stay.once;
            off = stay.off;
            scan = stay.scan;
          });
        }

    -- its entry is loaded: it has the epoch
    pub server_dismisses : (x : Name) → job.hand ≡ considering x → (entry_of n words x.entry).epoch ≡ cycle
        → After words (record job { hand = empty })
    server_dismisses x hand epoch = record {
      tracing = dismisses n w words facets history cycle holding seat job here x hand
          (taken_marked n words cycle x (held_taken x (in_hand_is (considering x) x hand refl)) epoch);
      serving = served words (record job { hand = empty }) same_words refl
          (record {
            own = λ y none. absurd none;
            hand = tt;
            fresh = tt;
            stack = known.stack;
            mine = known.mine;
            once = known.once;
            off = known.off;
            scan = known.scan;
          });
    }

    -- it has not
    pub server_looks_up : (x : Name) → job.hand ≡ considering x → (entry_of n words x.entry).epoch ≢ cycle
        → After words (record job { hand = marking x (entry_of n words x.entry) })
    server_looks_up x hand other = record {
      tracing = looks_up n w words facets history cycle holding seat job here x (entry_of n words x.entry) hand;
      serving = served words (record job { hand = marking x (entry_of n words x.entry) }) same_words refl (record {
        own = λ y is. known.own y (in_hand_is (considering x) y hand is);
        hand = (held_taken x (in_hand_is (considering x) x hand refl), refl, other);
        fresh = tt;
        stack = known.stack;
        mine = known.mine;
        once = known.once;
        off = known.off;
        scan = known.scan;
      });
    }

    -- it is marked
    module _ (x : Name) (e : EntryWord) (hand : job.hand ≡ marking x e) (v : ℕ)
        (is : entry_at v ≡ record e { epoch = cycle }) where
      marking_stands : IsTaken n words x.entry x.generation × (entry_of n words x.entry ≡ e) × (e.epoch ≢ cycle)
      marking_stands = subst (HandStands n words cycle) hand known.hand

      marking_taken : (entry_of n words x.entry).taken ≡ true
      marking_taken = taken_word n words x.entry x.generation marking_stands.0

      marking_generation : (entry_of n words x.entry).generation ≡ x.generation
      marking_generation = taken_generation n words x.entry x.generation marking_stands.0

      abbrev marked_words : List ℕ
      marked_words = set words (index n (entry x.entry)) v

      stored : entry_at v ≡ record (entry_of n words x.entry) { epoch = cycle }
      stored = is ∙ ap (λ (k : EntryWord). record k { epoch = cycle }) (sym marking_stands.1)

      marked_leaves : Leaves n w words marked_words history history cycle
      marked_leaves = record {
        marks = mark_stays n w words facets history cycle holding seat job here x e hand marking_stands.0.within
            marking_taken marking_generation v stored;
        addresses = mark_address n w words facets history cycle holding seat job here x e hand marking_stands.0.within
            marking_taken marking_generation v stored;
        sizes = sizes_same (state_of w history);
      }

      -- no other server has the entry of this name in hand
      others_hand : (other : ℕ) (more : Work) → slice_get facets other ≡ Some (serving more) → other ≢ seat
          → (h : Hand) → more.hand ≡ h → HandStands n words cycle h → HandKept n words marked_words h
      others_hand other more at ne empty is_h stands = tt
      others_hand other more at ne (considering y) is_h stands = tt
      others_hand other more at ne (pushing y) is_h stands = tt
      others_hand other more at ne (marking y k) is_h stands =
          ⊎_elim
          (λ c.
          let own_y : server_of_entry n y.entry ≡ more.server = (t.serving.each other (serving more) at).own y
          (subst (λ (g : Hand). InHand g y) (sym is_h) refl) in
          let own_x : server_of_entry n x.entry ≡ job.server = known.own x (in_hand_is (marking x e) x hand refl) in
          absurd
          (ne (t.serving.sole other seat (serving more) (serving job) job.server at here
          (sym own_y ∙ ap (server_of_entry n) c.0 ∙ own_x) refl)))
          (λ c. ap entry_at c.1)
          (entry_written n words x.entry v marking_stands.0.within st.size y.entry stands.0.within)

      others_kept : (other : ℕ) (f : TraceFacet) → slice_get facets other ≡ Some f → other ≢ seat
          → SeatTracks n w words history cycle f → SeatKept n words marked_words f
      others_kept other (serving more) at ne stands = others_hand other more at ne more.hand refl stands.hand
      others_kept other f at ne stands = tt

      marked_now : IsMarked n marked_words cycle x
      marked_now = ⊎_elim
          (λ c. record {
            in_range = marking_stands.0.within;
            taken = ap (λ (k : EntryWord). k.taken) (c.1 ∙ stored) ∙ marking_taken;
            generation = ap (λ (k : EntryWord). k.generation) (c.1 ∙ stored) ∙ marking_generation;
            epoch = ap (λ (k : EntryWord). k.epoch) (c.1 ∙ stored);
          })
          (λ c. absurd (c.0 refl)) (entry_written n words x.entry v marking_stands.0.within st.size x.entry
          marking_stands.0.within)

      bare : Work
      bare = record job { hand = empty }

      pub server_marks : After marked_words (record job { hand = pushing x })
      server_marks =
          let stay = server_stays n w words marked_words history history cycle marked_leaves
          (record job { hand = empty }) tt
          (record {
            own = λ y none. absurd none;
            hand = tt;
            fresh = tt;
            stack = known.stack;
            mine = known.mine;
            once = known.once;
            off = known.off;
            scan = known.scan;
          }) in record {
            tracing = marks n w words facets history cycle holding seat job here x e hand marking_stands.0.within
                marking_taken marking_generation v stored;
            serving = serving_on n w words marked_words history history cycle marked_leaves facets t.serving seat
                (serving job) (serving (record job { hand = pushing x })) here (λ s server. server)
                (λ other f at ne. others_kept other f at ne (t.serving.each other f at))
                (record {
                  own = λ y same. known.own y (in_hand_is (marking x e) y hand same);
                  hand = marked_now;
                  fresh = λ on. marking_stands.2 (ap (λ (k : EntryWord). k.epoch) (sym marking_stands.1) ∙
                      (known.stack x.entry on).epoch);
                  stack = stay.stack;
                  mine = stay.mine;
                  once = stay.once;
                  off = stay.off;
                  scan = stay.scan;
                });
          }

    -- it is pushed
    pub server_pushes : (x : Name) → job.hand ≡ pushing x
        → After words (record job { hand = empty; stack = job.stack ++ x.entry ∷ [] })
    server_pushes x hand =
        let marked : IsMarked n words cycle x = subst (HandStands n words cycle) hand known.hand in record {
          tracing = pushes n w words facets history cycle holding seat job here x hand marked;
          serving = served words (record job { hand = empty; stack = job.stack ++ x.entry ∷ [] }) same_words refl
              (record {
                own = λ y none. absurd none;
                hand = tt;
                fresh = tt;
                stack = λ e on. ⊎_elim (λ was. known.stack e was)
                    (λ top. subst (IsEntryMarked n words cycle) top
                    (record { in_range = marked.in_range; taken = marked.taken; epoch = marked.epoch }))
                    (Contains-push_cases job.stack x.entry e on);
                mine = λ e on. ⊎_elim (λ was. known.mine e was)
                    (λ top. subst (λ (k : ℕ). server_of_entry n k ≡ job.server) top
                    (known.own x (in_hand_is (pushing x) x hand refl))) (Contains-push_cases job.stack x.entry e on);
                once = once_push job.stack x.entry known.once (subst (λ (h : Hand). HandIsFresh h job.stack) hand
                    known.fresh);
                off = known.off;
                scan = known.scan;
              });
        }

    -- ---- its stack and its scan

    pub server_takes_off : (rest : List ℕ) (e : ℕ) → job.stack ≡ rest ++ e ∷ [] → job.off ≡ nothing
        → After words (record job { stack = rest; off = popped e })
    server_takes_off rest e stack none = record {
      tracing = takes_off n w words facets history cycle holding seat job here rest e stack none;
      serving = served words (record job { stack = rest; off = popped e }) same_words refl (record {
        own = known.own;
        hand = known.hand;
        fresh = fresh_front job.hand rest (e ∷ []) (subst (HandIsFresh job.hand) stack known.fresh);
        stack = λ k on. known.stack k (subst (λ (s : List ℕ). Contains s k) (sym stack)
            (Contains-append_left rest (e ∷ []) k on));
        mine = λ k on. known.mine k (subst (λ (s : List ℕ). Contains s k) (sym stack)
            (Contains-append_left rest (e ∷ []) k on));
        once = once_front rest (e ∷ []) (subst StandOnce stack known.once);
        off = known.stack e (subst (λ (s : List ℕ). Contains s e) (sym stack) (Contains-push rest e));
        scan = known.scan;
      });
    }

    pub server_locates : (e : ℕ) → job.off ≡ popped e
        → After words (record job { off = located e (entry_of n words e).address })
    server_locates e off = record {
      tracing = locates n w words facets history cycle holding seat job here e (entry_of n words e).address off;
      serving = served words (record job { off = located e (entry_of n words e).address }) same_words refl (record {
        own = known.own;
        hand = known.hand;
        fresh = known.fresh;
        stack = known.stack;
        mine = known.mine;
        once = known.once;
        off = (subst (OffStands n words cycle) off known.off, refl);
        scan = known.scan;
      });
    }

    -- the objects of an entry that is marked
    entry_object : (e : ℕ) → IsEntryMarked n words cycle e
        → IsMarked n words cycle (record { entry = e; generation = (entry_of n words e).generation })
    entry_object e m = record { in_range = m.in_range; taken = m.taken; generation = refl; epoch = m.epoch }

    marked_object : (x : Name) → IsMarked n words cycle x → HasObject (state_of w history) x
    marked_object x m = (made_are_objects w history st.legal x).0 (t.tracing.shades x (inr m)).made

    -- the header that was loaded is the number of fields of the objects with that entry
    header_is : (e address : ℕ) → OffStands n words cycle (located e address) → (object : Name) (fields : List Value)
        → IsMarked n words cycle object → object.entry ≡ e
        → fields_of (state_of w history) object ≡ Some fields → slice_index words address ≡ length fields
    header_is e address stands object fields m same is =
        ap (slice_index words) (stands.1 ∙ ap (λ (k : ℕ). (entry_of n words k).address) (sym same)) ∙
        (st.records object fields (marked_taken n words cycle object m) is).header

    -- the header of the entry that was taken off is loaded: there are no fields
    pub server_skips : (e address : ℕ) → job.off ≡ located e address → slice_index words address ≡ 0
        → After words (record job { off = nothing })
    server_skips e address off none = record {
      tracing = skips_scan n w words facets history cycle holding seat job here e address off
          (λ object fields m same is. sym (header_is e address (subst (OffStands n words cycle) off known.off) object
          fields m same is) ∙ none);
      serving = served words (record job { off = nothing }) same_words refl
          (record {
            own = known.own;
            hand = known.hand;
            fresh = known.fresh;
            stack = known.stack;
            mine = known.mine;
            once = known.once;
            off = tt;
            scan = known.scan;
          });
    }

    -- or the scan begins
    pub server_begins : (e address : ℕ) → job.off ≡ located e address → job.scan ≡ None → 0 < slice_index words address
        → After words
        (record job
        { off = nothing; scan = Some (record { address = address; fields = slice_index words address; next = 0 }) })
    server_begins e address off none some =
        let stands : OffStands n words cycle (located e address) = subst (OffStands n words cycle) off known.off in
        let x : Name = record { entry = e; generation = (entry_of n words e).generation } in
        let marked : IsMarked n words cycle x = entry_object e stands.0 in
        let object : HasObject (state_of w history) x = marked_object x marked in record {
          tracing = begins_scan n w words facets history cycle holding seat job here e address
              (slice_index words address) off stands.1 none;
          serving = served words
              (record job {
                off = nothing;
                scan = Some (record { address = address; fields = slice_index words address; next = 0 });
              }) same_words refl (record {
                own = known.own;
                hand = known.hand;
                fresh = known.fresh;
                stack = known.stack;
                mine = known.mine;
                once = known.once;
                off = tt;
                scan = record {
                  object = x;
                  marked = marked;
                  address_is = stands.1;
                  fields = object.0;
                  object_is = object.1;
                  count = sym (header_is e address stands x object.0 marked refl object.1);
                  below = some;
                };
              });
        }

    -- ---- the scan loads its next field

    module _ (scan : Scan) (scanning : job.scan ≡ Some scan) where
      scan_stands : IsScan n w words history cycle scan
      scan_stands = subst (ScanFits n w words history cycle) scanning known.scan

      -- the value that the word loaded packs
      abbrev pub loaded : Value
      loaded = value_at (slice_index words (scan.address + 1 + scan.next))

      scan_each : (other : Name) (fields : List Value) → IsMarked n words cycle other
          → scan.address ≡ (entry_of n words other.entry).address
          → fields_of (state_of w history) other ≡ Some fields → (length fields ≡ scan.fields)
          × (slice_get fields scan.next ≡ Some loaded)
      scan_each other fields m at is =
          let mine = st.records scan_stands.object scan_stands.fields (marked_taken n words cycle scan_stands.object
          scan_stands.marked) scan_stands.object_is in
          let yours = st.records other fields (marked_taken n words cycle other m) is in
          let same : length fields ≡ scan.fields = sym yours.header ∙ ap (slice_index words)
          (sym at ∙ scan_stands.address_is) ∙ mine.header ∙ scan_stands.count in
          let inside : scan.next < length fields = (let below = scan_stands.below in omega arith) in
          let there : slice_get fields scan.next ≡ Some (get_or fields scan.next value.Null) = slice_get-get_or fields
          scan.next value.Null inside in
          let word = yours.each scan.next (get_or fields scan.next value.Null) there in
          let found : loaded ≡ get_or fields scan.next value.Null =
          ap value_at (ap (λ (a : ℕ). slice_index words (a + 1 + scan.next)) at ∙ word.0) ∙ value_at-value_word
          (get_or fields scan.next value.Null) word.1 in
          (same, there ∙ ap (λ (u : Value). Some u) (sym found))

      scan_loads : (v : Value) → loaded ≡ v → Loads n w words facets history cycle holding seat job here scan v
      scan_loads v is = record {
        object = scan_stands.object;
        marked = scan_stands.marked;
        address_is = scan_stands.address_is;
        each = λ other fields m at there. let e = scan_each other fields m at there in
            (e.0, e.1 ∙ ap (λ (u : Value). Some u) is);
      }

      -- the scan behind this field
      abbrev pub next_scan : Option Scan
      next_scan = if scan.next + 1 == scan.fields then None else Some (record scan { next = scan.next + 1 })

      scan_next : (GoesOn n w words facets history cycle holding seat job here scan next_scan)
          × ScanFits n w words history cycle next_scan
      scan_next = cond_both (scan.next + 1 == scan.fields) None (Some (record scan { next = scan.next + 1 }))
          (λ s. (GoesOn n w words facets history cycle holding seat job here scan s) × ScanFits n w words history
          cycle s)
          (λ last. (eqb-true (scan.next + 1) scan.fields last, tt))
          (λ more. (
            (refl, refl),
            record {
              object = scan_stands.object;
              marked = scan_stands.marked;
              address_is = scan_stands.address_is;
              fields = scan_stands.fields;
              object_is = scan_stands.object_is;
              count = scan_stands.count;
              below = (let below = scan_stands.below in let ne = eqb-false (scan.next + 1) scan.fields more
                  in omega arith);
            },
          ))

      -- it finds a name of this server
      pub server_finds_own : (x : Name) → loaded ≡ value.Ref x → job.hand ≡ empty
          → server_of_entry n x.entry ≡ job.server → After words (record job { hand = considering x; scan = next_scan })
      server_finds_own x found hand own = record {
        tracing = scan_takes n w words facets history cycle holding seat job here scan next_scan x scanning hand
            (scan_loads (value.Ref x) found) scan_next.0;
        serving = served words (record job { hand = considering x; scan = next_scan }) same_words refl (record {
          own = λ y same. subst (λ (z : Name). server_of_entry n z.entry ≡ job.server) same own;
          hand = tt;
          fresh = tt;
          stack = known.stack;
          mine = known.mine;
          once = known.once;
          off = known.off;
          scan = scan_next.1;
        });
      }

      -- it finds a name of another server
      pub server_finds_foreign : (x : Name) → loaded ≡ value.Ref x → job.outgoing ≡ None
          → After words (record job { outgoing = Some x; scan = next_scan })
      server_finds_foreign x found none = record {
        tracing = scan_sends n w words facets history cycle holding seat job here scan next_scan x scanning none
            (scan_loads (value.Ref x) found) scan_next.0;
        serving = served words (record job { outgoing = Some x; scan = next_scan }) same_words refl
            (record {
              own = known.own;
              hand = known.hand;
              fresh = known.fresh;
              stack = known.stack;
              mine = known.mine;
              once = known.once;
              off = known.off;
              scan = scan_next.1;
            });
      }

      -- it finds no name
      pub server_finds_none : IsNoRef loaded → After words (record job { scan = next_scan })
      server_finds_none none = record {
        tracing = scan_passes n w words facets history cycle holding seat job here scan next_scan loaded scanning
            (scan_loads loaded refl) none scan_next.0;
        serving = served words (record job { scan = next_scan }) same_words refl
            (record {
              own = known.own;
              hand = known.hand;
              fresh = known.fresh;
              stack = known.stack;
              mine = known.mine;
              once = known.once;
              off = known.off;
              scan = scan_next.1;
            });
      }

    -- ---- its outgoing name is put into a ghost slot

    pub server_sends : (x : Name) → job.outgoing ≡ Some x → (sender receiver slot : ℕ)
        → Within n (ghost sender receiver slot) → word_at n words (ghost sender receiver slot) ≡ 0
        → After (set words (index n (ghost sender receiver slot)) (name_word x)) (record job { outgoing = None })
    server_sends x out sender receiver slot within empty_slot =
        let p = ghost sender receiver slot in
        let words' = set words (index n p) (name_word x) in
        let same : SameEntries n words words' = entries_same n words p (name_word x) st.size within tt in
        let stay = server_stays n w words words' history history cycle (leaves_entries n w words words' history
        history cycle same (sizes_same (state_of w history)))
        job (seat_kept n w words words' history cycle same (serving job) known) known in record {
          tracing = sends n w words facets history cycle holding seat job here x out sender receiver slot
              within empty_slot;
          serving = served words' (record job { outgoing = None }) same refl
              (record {
                own = stay.own;
                hand = stay.hand;
                fresh = stay.fresh;
                stack = stay.stack;
                mine = stay.mine;
                once = stay.once;
                off = stay.off;
                scan = stay.scan;
              });
        }
