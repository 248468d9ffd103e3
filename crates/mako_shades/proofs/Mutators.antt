-- The steps of mutators and of the collector keep what is kept of tracing.
use Rattle.std.proofs.Common.{◌≡◌, ℕ, ◌+◌, ◌<◌, ⊎_elim, List, [], ◌∷◌, ◌++◌, Contains, length, set, slice_get}
use Rattle.std.proofs.Common.{slice_index, get_or, Some, None, true, false, sym, ap, subst, refl, ◌∙◌}
use Rattle.std.proofs.lemmas.Option.{slice_get-get_or, same_Some}
use Rattle.std.proofs.lemmas.Bool.{cases_eq}
use Rattle.mako_words.specs.declared.name.Name.{Name}
use Rattle.mako_words.specs.declared.value.Value.{Value}
use Rattle.mako_words.specs.declared.value.Value.TheVariants as value
use Rattle.mako_words.specs.Entries.{entry_at}
use Rattle.mako_words.specs.Names.{name_word, FitsName}
use Rattle.mako_words.specs.Values.{value_at}
use Rattle.mako_words.proofs.ValueWords.{value_at-value_word}
use Rattle.mako_shape.specs.declared.numbers.Numbers.{Numbers}
use Rattle.mako_shape.specs.Places.{barrier, work, entry, index, Within, word_at}
use Rattle.mako_model.specs.declared.call.Call.{Call}
use Rattle.mako_model.specs.declared.call.Call.TheVariants as call
use Rattle.mako_model.specs.declared.reply.Reply.{Reply}
use Rattle.mako_model.specs.declared.reply.Reply.TheVariants as reply
use Rattle.mako_model.specs.declared.point.Point.{Point}
use Rattle.mako_model.specs.declared.point.Point.TheVariants.{Did, Snap}
use Rattle.mako_model.specs.Heaps.{fields_of, root_of}
use Rattle.mako_model.specs.Lawful.{IsNoRef, HasRoot, RefersTo, IsLawful}
use Rattle.mako_model.specs.Legal.{Facts, state_of, IsLegal}
use Rattle.mako_ring.specs.Shades.{entry_of}
use Rattle.mako_ring.specs.TraceFacets.{Hand, empty, considering, marking, pushing, TraceFacet, apart, looking, storing}
use Rattle.mako_ring.specs.TraceFacets.{serving, collecting, InHand}
use Rattle.mako_names.specs.Tables.{IsTaken}
use Rattle.mako_shades.specs.Holding.{AgreeOnTrace}
use Rattle.mako_shades.specs.Serving.{HandStands, StandOnce, HandIsFresh, OffStands, ScanFits, SeatTracks, ServerIs}
use Rattle.mako_shades.specs.Serving.{AreSole, AreServing, Tracks}
use Rattle.mako_shades.specs.Stands.{HeapStands, SizesStay, SameEntries}
use Rattle.mako_shades.specs.Steps.{IsAtRest, IsReady, LeavesObjects}
use Rattle.mako_shades.proofs.Goods.{root_good}
use Rattle.mako_shades.proofs.Words.{entries_same, entry_written, marked_same, slot_is_traced}
use Rattle.mako_shades.proofs.Taken.{taken_word, marked_taken}
use Rattle.mako_shades.proofs.Serving.{SeatKept, HandKept, seat_kept, leaves_entries, sizes_same, sizes_stay, Leaves}
use Rattle.mako_shades.proofs.Serving.{serving_on, serving_rest}
use Rattle.mako_shades.proofs.Turns.{no_member, put_finds, put_passes, put_gives_up}
use Rattle.mako_shades.proofs.Slots.{put_shades, forwards, gathers}
use Rattle.mako_shades.proofs.Entries.{publishes}
use Rattle.mako_shades.proofs.Points.{plain_point, unseen, put_stores}
use Rattle.mako_shades.proofs.Servers.{holding}
use Rattle.mako_shades.proofs.Snapshots.{snapped}

module _ (n : Numbers) (w : Facts) (words : List ℕ) (facets : List TraceFacet) (history : List Point) (cycle : ℕ)
    (st : HeapStands n w words history) (t : Tracks n w words facets history cycle) where
  -- the words that tracing reads have the entries among them
  traced_entries : (words' : List ℕ) → AgreeOnTrace n words words' → SameEntries n words words'
  traced_entries words' agree x in_x = agree (entry x) tt in_x

  -- one facet changes that is no server's, and no entry
  moved_on : (words' : List ℕ) (history' : List Point) (seat : ℕ) (f g : TraceFacet) → SameEntries n words words'
      → SizesStay (state_of w history) (state_of w history') → slice_get facets seat ≡ Some f
      → ((s : ℕ) → ServerIs g s → ⊥) → SeatTracks n w words' history' cycle g
      → AreServing n w words' (set facets seat g) history' cycle
  moved_on words' history' seat f g same sizes here none stands =
      serving_on n w words words' history history' cycle (leaves_entries n w words words' history history' cycle same
      sizes) facets t.serving seat f g here (λ s is. absurd (none s is))
      (λ other e at ne. seat_kept n w words words' history cycle same e (t.serving.each other e at)) stands

  -- no facet changes, and no entry
  rested : (words' : List ℕ) (history' : List Point) → SameEntries n words words' → SizesStay (state_of w history)
      (state_of w history') → AreServing n w words' facets history' cycle
  rested words' history' same sizes =
      serving_rest n w words words' history history' cycle (leaves_entries n w words words' history history' cycle
      same sizes) facets t.serving
      (λ other e at. seat_kept n w words words' history cycle same e (t.serving.each other e at))

  same_words : SameEntries n words words
  same_words x in_x = refl

  -- ---- steps that tracing does not see

  -- a step at another word, of a seat whose facet stays
  pub goes_unseen : (words' : List ℕ) → AgreeOnTrace n words words' → Tracks n w words' facets history cycle
  goes_unseen words' agree = record {
    tracing = unseen n w words words' facets history cycle (holding n w words facets history cycle st t) agree;
    serving = rested words' history (traced_entries words' agree) (sizes_same (state_of w history));
  }

  -- a deciding point that changes no object
  pub decides : (words' : List ℕ) → AgreeOnTrace n words words' → (m : ℕ) (c : Call) (r : Reply)
      → IsLawful (state_of w history) (Did m c r) → LeavesObjects c r
      → Tracks n w words' facets (history ++ Did m c r ∷ []) cycle
  decides words' agree m c r lawful plain = record {
    tracing = plain_point n w words words' facets history cycle (holding n w words facets history cycle st t) agree m
        c r lawful plain;
    serving = rested words' (history ++ Did m c r ∷ []) (traced_entries words' agree)
        (sizes_stay w history (Did m c r) lawful);
  }

  -- ---- puts

  module _ (seat : ℕ) where
    module _ (m root : ℕ) (object : Name) (fields : List Value)
        (refers : RefersTo (state_of w history) m root object fields) (field : ℕ) (inside : field < length fields)
        (address : ℕ) (present : address ≡ (entry_of n words object.entry).address)
        (here : slice_get facets seat ≡ Some apart) where
      -- the value that the word loaded packs
      abbrev pub found : Value
      found = value_at (slice_index words (address + 1 + field))

      pub field_found : slice_get fields field ≡ Some found
      field_found =
          let taken : IsTaken n words object.entry object.generation = st.taken object
          (root_good w history st.legal object (m, root, refers.root_is)) in
          let there : slice_get fields field ≡ Some (get_or fields field value.Null) = slice_get-get_or fields field
          value.Null inside in
          let word = (st.records object fields taken refers.fields_are).each field (get_or fields field value.Null)
          there in
          there ∙ ap (λ (u : Value). Some u)
          (sym (ap value_at (ap (λ (a : ℕ). slice_index words (a + 1 + field)) present ∙ word.0) ∙ value_at-value_word
          (get_or fields field value.Null) word.1))

      -- the look of a put finds a name
      pub mutator_finds : (old : Name) → found ≡ value.Ref old
          → Tracks n w words (set facets seat (looking object field old)) history cycle
      mutator_finds old is = record {
        tracing = put_finds n w words facets history cycle (holding n w words facets history cycle st t) seat m root
            object fields refers field old here (field_found ∙ ap (λ (u : Value). Some u) is);
        serving = moved_on words history seat apart (looking object field old) same_words
            (sizes_same (state_of w history)) here (λ s none. none) tt;
      }

      -- it finds no name
      pub mutator_passes : IsNoRef found → Tracks n w words (set facets seat (storing object field)) history cycle
      mutator_passes none = record {
        tracing = put_passes n w words facets history cycle (holding n w words facets history cycle st t) seat m root
            object fields refers field found here field_found none;
        serving = moved_on words history seat apart (storing object field) same_words
            (sizes_same (state_of w history)) here (λ s none. none) tt;
      }

    -- the barrier slot is filled: the put gives up
    pub mutator_gives_up : (object : Name) (field : ℕ) (old : Name)
        → slice_get facets seat ≡ Some (looking object field old)
        → Tracks n w words (set facets seat apart) history cycle
    mutator_gives_up object field old here = record {
      tracing = put_gives_up n w words facets history cycle (holding n w words facets history cycle st t) seat object
          field old here;
      serving = moved_on words history seat (looking object field old) apart same_words
          (sizes_same (state_of w history)) here (λ s none. none) tt;
    }

    -- it stores the name into its barrier slot
    pub mutator_shades : (object : Name) (field : ℕ) (old : Name)
        → slice_get facets seat ≡ Some (looking object field old) → (m slot : ℕ) → Within n (barrier m slot)
        → word_at n words (barrier m slot) ≡ 0
        → Tracks n w (set words (index n (barrier m slot)) (name_word old))
        (set facets seat (storing object field)) history cycle
    mutator_shades object field old here m slot within free = record {
      tracing = put_shades n w words facets history cycle (holding n w words facets history cycle st t) seat object
          field old here m slot within free;
      serving = moved_on (set words (index n (barrier m slot)) (name_word old)) history seat
          (looking object field old) (storing object field)
          (entries_same n words (barrier m slot) (name_word old) st.size within tt) (sizes_same (state_of w history))
          here (λ s none. none) tt;
    }

    -- it stores the field
    pub mutator_stores : (words' : List ℕ) → AgreeOnTrace n words words' → (m to from field : ℕ) (object : Name)
        (fields : List Value) (v : Value) → RefersTo (state_of w history) m to object fields
        → field < length fields → root_of (state_of w history) m from ≡ Some v
        → slice_get facets seat ≡ Some (storing object field)
        → Tracks n w words' (set facets seat apart) (history ++ Did m (call.Put to field from) reply.Done ∷ []) cycle
    mutator_stores words' agree m to from field object fields v refers inside root_is here = record {
      tracing = put_stores n w words words' facets history cycle (holding n w words facets history cycle st t) seat
          agree m to from field object fields v refers inside root_is here;
      serving = moved_on words' (history ++ Did m (call.Put to field from) reply.Done ∷ []) seat
          (storing object field) apart (traced_entries words' agree)
          (sizes_stay w history (Did m (call.Put to field from) reply.Done)
          ((v, root_is), (object, fields, refers, inside))) here (λ s none. none) tt;
    }

    -- ---- the collector

    pub collector_forwards : (x : Name) (rest : List Name) → slice_get facets seat ≡ Some (collecting (x ∷ rest))
        → (s slot : ℕ) → Within n (work s slot) → word_at n words (work s slot) ≡ 0
        → Tracks n w (set words (index n (work s slot)) (name_word x)) (set facets seat (collecting rest)) history cycle
    collector_forwards x rest here s slot within free = record {
      tracing = forwards n w words facets history cycle (holding n w words facets history cycle st t) seat x rest here
          s slot within free;
      serving = moved_on (set words (index n (work s slot)) (name_word x)) history seat (collecting (x ∷ rest))
          (collecting rest)
          (entries_same n words (work s slot) (name_word x) st.size within tt) (sizes_same (state_of w history)) here
          (λ s none. none) tt;
    }

    pub collector_gathers : (names : List Name) → slice_get facets seat ≡ Some (collecting names) → (m slot : ℕ)
        → Within n (barrier m slot) → (x : Name) → FitsName x → word_at n words (barrier m slot) ≡ name_word x
        → Tracks n w (set words (index n (barrier m slot)) 0)
        (set facets seat (collecting (names ++ x ∷ []))) history cycle
    collector_gathers names here m slot within x fits is = record {
      tracing = gathers n w words facets history cycle (holding n w words facets history cycle st t) seat names here
          (barrier m slot) tt within x fits is;
      serving = moved_on (set words (index n (barrier m slot)) 0) history seat (collecting names)
          (collecting (names ++ x ∷ []))
          (entries_same n words (barrier m slot) 0 st.size within tt) (sizes_same (state_of w history)) here
          (λ s none. none) tt;
    }

    -- ---- a name is made

    module _ (here : slice_get facets seat ≡ Some apart) (m root count : ℕ) (x : Name)
        (has : HasRoot (state_of w history) m root) (fresh : fields_of (state_of w history) x ≡ None)
        (within : Within n (entry x.entry)) (free : (entry_of n words x.entry).taken ≡ false)
        (v : ℕ) (taken : (entry_at v).taken ≡ true) (generation : (entry_at v).generation ≡ x.generation)
        (epoch : (entry_at v).epoch ≡ cycle) where
      abbrev publish_words : List ℕ
      publish_words = set words (index n (entry x.entry)) v

      no_both : false ≡ true → ⊥
      no_both e = cc

      -- an entry that was taken is as it was
      taken_else : (y : Name) → IsTaken n words y.entry y.generation
          → word_at n publish_words (entry y.entry) ≡ word_at n words (entry y.entry)
      taken_else y is =
          ⊎_elim
          (λ c. absurd (no_both (sym free ∙ ap (λ (k : ℕ). (entry_of n words k).taken) (sym c.0) ∙ taken_word n words
          y.entry y.generation is))) (λ c. c.1)
          (entry_written n words x.entry v within st.size y.entry is.within)

      publish_leaves : Leaves n w words publish_words history (history ++ Did m (call.New root count) (reply.Made x) ∷
          []) cycle
      publish_leaves = record {
        marks = λ y is. marked_same n words publish_words cycle y (taken_else y (marked_taken n words cycle y is)) is;
        addresses = λ y is. ap (λ (k : ℕ). (entry_at k).address) (taken_else y (marked_taken n words cycle y is));
        sizes = sizes_stay w history (Did m (call.New root count) (reply.Made x)) (has, fresh);
      }

      publish_hand : (h : Hand) → HandStands n words cycle h → HandKept n words publish_words h
      publish_hand empty stands = tt
      publish_hand (considering y) stands = tt
      publish_hand (marking y e) stands = ap entry_at (taken_else y stands.0)
      publish_hand (pushing y) stands = tt

      publish_kept : (f : TraceFacet) → SeatTracks n w words history cycle f → SeatKept n words publish_words f
      publish_kept (serving job) stands = publish_hand job.hand stands.hand
      publish_kept f stands = tt

      pub mutator_makes : Tracks n w publish_words facets
          (history ++ Did m (call.New root count) (reply.Made x) ∷ []) cycle
      mutator_makes = record {
        tracing = publishes n w words facets history cycle (holding n w words facets history cycle st t) seat here m
            root count x has fresh within free v taken generation epoch;
        serving = serving_rest n w words publish_words history (history ++ Did m (call.New root count) (reply.Made x)
            ∷ []) cycle publish_leaves facets t.serving
            (λ other f at. publish_kept f (t.serving.each other f at));
      }

-- ---- the snapshot

-- a server at rest keeps nothing
rest_stands : (n : Numbers) (w : Facts) (words : List ℕ) (history : List Point) (cycle : ℕ) (f : TraceFacet)
    → IsAtRest f → SeatTracks n w words history cycle f
rest_stands n w words history cycle (serving job) rest = record {
  own = λ x is. absurd (subst (λ (g : Hand). InHand g x) rest.0 is);
  hand = subst (HandStands n words cycle) (sym rest.0) tt;
  fresh = subst (λ (g : Hand). HandIsFresh g job.stack) (sym rest.0) tt;
  stack = λ e on. absurd (no_member e (subst (λ (s : List ℕ). Contains s e) rest.2 on));
  mine = λ e on. absurd (no_member e (subst (λ (s : List ℕ). Contains s e) rest.2 on));
  once = subst StandOnce (sym rest.2) tt;
  off = subst (OffStands n words cycle) (sym rest.3) tt;
  scan = subst (ScanFits n w words history cycle) (sym rest.4) tt;
}
rest_stands n w words history cycle f rest = tt

-- the store of the phase Trace
pub collector_snaps : (n : Numbers) (w : Facts) (words words' : List ℕ) (facets : List TraceFacet)
    (history : List Point) (cycle seat : ℕ) (names : List Name)
    → IsLegal w (history ++ Snap cycle ∷ []) → IsReady n w words facets history cycle seat names → AreSole facets
    → AgreeOnTrace n words words'
    → Tracks n w words' facets (history ++ Snap cycle ∷ []) cycle
collector_snaps n w words words' facets history cycle seat names legal ready sole agree =
    let now : IsReady n w words' facets history cycle seat names = record {
      here = ready.here;
      roots = ready.roots;
      pending = ready.pending;
      others = ready.others;
      slots = λ p slot within. agree p (slot_is_traced p slot) within ∙ ready.slots p slot within;
      unmarked = λ x m. ready.unmarked x
          (marked_same n words' words cycle x (sym (agree (entry x.entry) tt m.in_range)) m);
    } in record {
      tracing = snapped n w words' facets history cycle seat names legal now;
      serving = record {
        each = λ other f at.
            ⊎_elim
            (λ e. subst (SeatTracks n w words' (history ++ Snap cycle ∷ []) cycle)
            (sym (same_Some f (collecting names) (sym at ∙ ap (slice_get facets) e ∙ ready.here))) tt)
            (λ ne. rest_stands n w words' (history ++ Snap cycle ∷ []) cycle f (ready.others other f at ne))
            (cases_eq other seat);
        sole = sole;
      };
    }
