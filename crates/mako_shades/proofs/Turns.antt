-- Each kind of step keeps the tracing invariant.
use Rattle.std.proofs.Common.{◌≡◌, ℕ, ◌+◌, ◌<◌, ◌⊎◌, inl, inr, ⊎_elim, List, [], ◌∷◌, ◌++◌, Contains, flat_map, length}
use Rattle.std.proofs.Common.{set, slice_get, Option, Some, None, sym, ap, subst, refl, ◌∙◌, arith, append-nil}
use Rattle.std.proofs.lemmas.Bool.{cases_eq}
use Rattle.std.proofs.lemmas.Option.{same_Some, none-some, slice_get_within}
use Rattle.std.proofs.lemmas.List.Elements.{Contains-append_left, Contains-push, Contains-push_cases}
use Rattle.mako_words.specs.declared.name.Name.{Name}
use Rattle.mako_words.specs.declared.value.Value.{Value}
use Rattle.mako_words.specs.declared.value.Value.TheVariants as value
use Rattle.mako_words.specs.declared.entry_word.EntryWord.{EntryWord}
use Rattle.mako_words.specs.Entries.{entry_at}
use Rattle.mako_shape.specs.declared.numbers.Numbers.{Numbers}
use Rattle.mako_shape.specs.Places.{entry, Within, word_at}
use Rattle.mako_model.specs.declared.point.Point.{Point}
use Rattle.mako_model.specs.Heaps.{Heap, fields_of}
use Rattle.mako_model.specs.Lawful.{IsNoRef, RefersTo}
use Rattle.mako_model.specs.Legal.{Facts, state_of}
use Rattle.mako_model.specs.Dead.{made_by}
use Rattle.mako_model.proofs.Lists.{get_set_same}
use Rattle.mako_model.specs.Laws.{HasObject}
use Rattle.mako_model.proofs.Closed.{same_ref, made_are_objects}
use Rattle.mako_ring.specs.declared.tracing.Scan.{Scan}
use Rattle.mako_ring.specs.Shades.{entry_of, IsMarked, IsShaded}
use Rattle.mako_ring.specs.TraceFacets.{Hand, empty, considering, marking, pushing, Off, nothing, popped, located, Work}
use Rattle.mako_ring.specs.TraceFacets.{TraceFacet, apart, looking, storing, swapping, serving, InHand, IsPushing}
use Rattle.mako_ring.specs.TraceFacets.{IsOff, ScanAwaits, GreyIn, WorksOn}
use Rattle.mako_names.specs.Uses.{IsGood}
use Rattle.mako_shades.specs.Holding.{HoldsName, Keeps, PutKnows, TracingHolds}
use Rattle.mako_shades.proofs.Goods.{root_good, field_good}
use Rattle.mako_shades.proofs.Words.{marked_same}
use Rattle.mako_shades.proofs.General.{Holding, Act, Before, After, Marked, NextMarked, Shaded, EverShaded, NextGood}
use Rattle.mako_shades.proofs.General.{Holds, NextHolds, AtSnap, Stands}
use Rattle.mako_shades.proofs.Moves.{Slot, NextSlot, address, moved}

pub no_member : {A : Type 0} (x : A) → Contains [] x → ⊥
no_member x c = let l : c.0 < 0 = c.1 in omega arith

-- what was found in a field is the name that it holds
pub found_same : (h : Heap) (object on : Name) (fields : List Value) (field at : ℕ) (v : Value) (x : Name)
    → fields_of h object ≡ Some fields → slice_get fields field ≡ Some v
    → object ≡ on → field ≡ at → HoldsName h on at x → v ≡ value.Ref x
found_same h object on fields field at v x is found same_object same_field holds =
    let same : fields ≡ holds.fields = same_Some fields holds.fields (sym is ∙ ap (fields_of h) same_object ∙
    holds.object_is) in
    same_Some v (value.Ref x) (sym found ∙ ap (λ (fs : List Value). slice_get fs field) same ∙ ap
    (slice_get holds.fields) same_field ∙ holds.field_is)

pub no_ref : (v : Value) (x : Name) → IsNoRef v → v ≡ value.Ref x → ⊥
no_ref v x is e = subst IsNoRef e is

-- ---- steps that touch no entry and make no point

pub record Plain (a : Act) (t : Before a) : Type 0 where
  pub entries : (x : ℕ) → Within a.numbers (entry x)
      → word_at a.numbers a.next_words (entry x) ≡ word_at a.numbers a.words (entry x)
  pub slots : (x : Name) → Slot a x → NextSlot a x ⊎ GreyIn a.next_facet x
  pub held : (x : Name) → GreyIn a.facet x → GreyIn a.next_facet x ⊎ (NextSlot a x ⊎ Marked a x)
  pub new_slots : (x : Name) → NextSlot a x → Slot a x ⊎ NextGood a x
  pub new_held : (x : Name) → GreyIn a.next_facet x → GreyIn a.facet x ⊎ NextGood a x
  pub keeps : (x : Name) → Keeps a.next_facet x → NextGood a x
  pub holds : (object : Name) (field : ℕ) (x : Name) → AtSnap a t object field x → Holds a object field x
      → EverShaded a x ⊎ NextHolds a object field x
  pub works : (object : Name) (field : ℕ) (x : Name) → Holds a object field x → Marked a object
      → WorksOn a.facet object.entry (address a object) field
      → EverShaded a x ⊎ WorksOn a.next_facet object.entry (address a object) field
  pub puts : (object : Name) (field : ℕ) (x : Name) → AtSnap a t object field x
      → PutKnows a.next_facet object field x (EverShaded a x)
  pub news : (x : Name) → Contains (flat_map made_by a.points) x → ⊥

module _ (a : Act) (t : Before a) (s : Stands a) (p : Plain a t) where
  plain_marks : (x : Name) → Marked a x → NextMarked a x
  plain_marks x m = marked_same a.numbers a.words a.next_words a.cycle x (p.entries x.entry m.in_range) m

  plain_unmarks : (x : Name) → NextMarked a x → Marked a x
  plain_unmarks x m = marked_same a.numbers a.next_words a.words a.cycle x (sym (p.entries x.entry m.in_range)) m

  pub plain : After a
  plain = moved a t s (record {
    slots = p.slots;
    held = λ x g. ⊎_elim (λ y. inl y) (λ y. inr (⊎_elim (λ z. inl z) (λ z. inr (plain_marks x z)) y)) (p.held x g);
    marks = plain_marks;
    addresses = λ x m. ap (λ (k : ℕ). (entry_at k).address) (p.entries x.entry m.in_range);
    new_slots = p.new_slots;
    new_held = p.new_held;
    new_marks = λ x m. inl (plain_unmarks x m);
    keeps = p.keeps;
    holds = p.holds;
    works = p.works;
    begins = λ object field x holds unmarked now. absurd (unmarked (plain_unmarks object now));
    puts = p.puts;
    news = λ x new. absurd (p.news x new);
  })

-- what a put knows before the step, it knows of names shaded before it or after it
pub put_ever : (a : Act) (f : TraceFacet) (object : Name) (field : ℕ) (x : Name)
    → PutKnows f object field x (Shaded a x) → PutKnows f object field x (EverShaded a x)
put_ever a (looking on at old) object field x knows = λ e i. ⊎_elim (λ y. inl (inl y)) (λ o. inr o) (knows e i)
put_ever a (storing on at) object field x knows = λ e i. inl (knows e i)
put_ever a (swapping e) object field x knows = λ same. inl (knows same)
put_ever a f object field x knows = tt

-- ---- one seat's facet changes, and no word

module _ (n : Numbers) (w : Facts) (words : List ℕ) (facets : List TraceFacet) (history : List Point) (cycle : ℕ)
    (k : Holding n w words facets history cycle) (seat : ℕ) where
  abbrev pub facet_act : TraceFacet → TraceFacet → Act
  facet_act f g = record {
    numbers = n;
    workload = w;
    cycle = cycle;
    words = words;
    next_words = words;
    facets = facets;
    seat = seat;
    facet = f;
    next_facet = g;
    history = history;
    points = [];
    next_history = history;
  }

  pub good_shaded : (x : Name) → IsShaded n words facets cycle x → IsGood w history x
  good_shaded x shaded = k.tracing.shades x shaded

  pub good_held : (f : TraceFacet) → slice_get facets seat ≡ Some f → (x : Name) → GreyIn f x → IsGood w history x
  good_held f here x grey = k.tracing.shades x (inl (inr (record { seat = seat; facet = f; at = here; grey = grey })))

  -- the step of one seat in which no slot changes
  pub record Turn (f g : TraceFacet) : Type 0 where
    pub held : (x : Name) → GreyIn f x → GreyIn g x ⊎ IsMarked n words cycle x
    pub new_held : (x : Name) → GreyIn g x → GreyIn f x ⊎ IsGood w history x
    pub keeps : (x : Name) → Keeps g x → IsGood w history x
    pub works : (object : Name) (field : ℕ) (x : Name) → HoldsName (state_of w history) object field x
        → IsMarked n words cycle object
        → WorksOn f object.entry (entry_of n words object.entry).address field
        → GreyIn g x ⊎ WorksOn g object.entry (entry_of n words object.entry).address field
    pub puts : (object : Name) (field : ℕ) (x : Name) → IsShaded n words facets cycle x
        ⊎ HoldsName (state_of w history) object field x → PutKnows g object field x (IsShaded n words facets cycle x)

  turn_grey : (f g : TraceFacet) → slice_get facets seat ≡ Some f → (x : Name) → GreyIn g x
      → EverShaded (facet_act f g) x
  turn_grey f g here x grey =
      inr (inl (inr (record { seat = seat; facet = g; at = get_set_same facets seat g f here; grey = grey })))

  pub turned : (f g : TraceFacet) → slice_get facets seat ≡ Some f → Turn f g
      → TracingHolds n w words (set facets seat g) history cycle
  turned f g here turn = plain (facet_act f g) k.tracing
      (record { grown = sym (append-nil history); legal = k.legal; still = refl; here = here })
      (record {
        entries = λ x in_x. refl;
        slots = λ x slot. inl slot;
        held = λ x grey. ⊎_elim (λ y. inl y) (λ m. inr (inr m)) (turn.held x grey);
        new_slots = λ x slot. inl slot;
        new_held = turn.new_held;
        keeps = turn.keeps;
        holds = λ object field x snap holds. inr holds;
        works = λ object field x holds marked works. ⊎_elim (λ y. inl (turn_grey f g here x y)) (λ y. inr y)
            (turn.works object field x holds marked works);
        puts = λ object field x snap. put_ever (facet_act f g) g object field x (turn.puts object field x
            (⊎_elim (λ y. inl y) (λ y. inr y.0) (k.tracing.fields object field x snap.reached snap.held)));
        news = λ x new. no_member x new;
      })

  -- ---- puts

  module _ (m root : ℕ) (object : Name) (fields : List Value)
      (refers : RefersTo (state_of w history) m root object fields) (field : ℕ) where
    -- the look of a put finds a name
    pub put_finds : (old : Name) → slice_get facets seat ≡ Some apart → slice_get fields field ≡ Some (value.Ref old)
        → TracingHolds n w words (set facets seat (looking object field old)) history cycle
    put_finds old here found = turned apart (looking object field old) here (record {
      held = λ x grey. absurd grey;
      new_held = λ x grey. absurd grey;
      keeps = λ x same. subst (IsGood w history) same
          (field_good w history k.legal object field old (root_good w history k.legal object (m, root, refers.root_is))
          (record { fields = fields; object_is = refers.fields_are; field_is = found }));
      works = λ on at x holds marked works. absurd works;
      puts = λ on at x known e i.
          ⊎_elim (λ shaded. inl shaded)
          (λ holds. inr (same_ref old x (found_same (state_of w history) object on fields field at (value.Ref old) x
          refers.fields_are found e i holds))) known;
    })

    -- it finds no name
    pub put_passes : (v : Value) → slice_get facets seat ≡ Some apart → slice_get fields field ≡ Some v → IsNoRef v
        → TracingHolds n w words (set facets seat (storing object field)) history cycle
    put_passes v here found plain_value = turned apart (storing object field) here (record {
      held = λ x grey. absurd grey;
      new_held = λ x grey. absurd grey;
      keeps = λ x same. absurd same;
      works = λ on at x holds marked works. absurd works;
      puts = λ on at x known e i.
          ⊎_elim (λ shaded. shaded)
          (λ holds. absurd (no_ref v x plain_value (found_same (state_of w history) object on fields field at v x
          refers.fields_are found e i holds))) known;
    })

  -- a put that found its barrier slot filled gives up
  pub put_gives_up : (object : Name) (field : ℕ) (old : Name) → slice_get facets seat ≡ Some (looking object field old)
      → TracingHolds n w words (set facets seat apart) history cycle
  put_gives_up object field old here = turned (looking object field old) apart here (record {
    held = λ x grey. absurd grey;
    new_held = λ x grey. absurd grey;
    keeps = λ x same. absurd same;
    works = λ on at x holds marked works. absurd works;
    puts = λ on at x known. tt;
  })

  -- ---- a server turns its names and entries over

  module _ (job : Work) (here : slice_get facets seat ≡ Some (serving job)) where
    -- a marked name is pushed
    pub pushes : (x : Name) → job.hand ≡ pushing x → IsMarked n words cycle x
        → TracingHolds n w words
        (set facets seat (serving (record job { hand = empty; stack = job.stack ++ x.entry ∷ [] }))) history cycle
    pushes x hand marked =
        turned (serving job) (serving (record job { hand = empty; stack = job.stack ++ x.entry ∷ [] })) here (record {
          held = λ y grey. ⊎_elim
              (λ in_hand. inr (subst (IsMarked n words cycle) (subst (λ (g : Hand). InHand g y) hand in_hand) marked))
              (λ out. inl (inr out)) grey;
          new_held = λ y grey. ⊎_elim (λ none. absurd none) (λ out. inl (inr out)) grey;
          keeps = λ y none. absurd none;
          works = λ object field y holds m works. inr (
              ⊎_elim
              (λ c. inl (inr (⊎_elim
              (λ p. subst (Contains (job.stack ++ x.entry ∷ [])) (subst (λ (g : Hand). IsPushing g object.entry) hand p)
              (Contains-push job.stack x.entry))
              (λ on_stack. Contains-append_left job.stack (x.entry ∷ []) object.entry on_stack) c)))
              (λ c. inr c) works);
          puts = λ object field y known. tt;
        })

    -- a name that is marked already is dismissed
    pub dismisses : (x : Name) → job.hand ≡ considering x → IsMarked n words cycle x
        → TracingHolds n w words (set facets seat (serving (record job { hand = empty }))) history cycle
    dismisses x hand marked = turned (serving job) (serving (record job { hand = empty })) here (record {
      held = λ y grey. ⊎_elim
          (λ in_hand. inr (subst (IsMarked n words cycle) (subst (λ (g : Hand). InHand g y) hand in_hand) marked))
          (λ out. inl (inr out)) grey;
      new_held = λ y grey. ⊎_elim (λ none. absurd none) (λ out. inl (inr out)) grey;
      keeps = λ y none. absurd none;
      works = λ object field y holds m works. inr (
          ⊎_elim
          (λ c. inl (⊎_elim (λ p. absurd (subst (λ (g : Hand). IsPushing g object.entry) hand p))
          (λ on_stack. inr on_stack) c))
          (λ c. inr c) works);
      puts = λ object field y known. tt;
    })

    -- the entry of the name was loaded, and has another epoch
    pub looks_up : (x : Name) (e : EntryWord) → job.hand ≡ considering x
        → TracingHolds n w words (set facets seat (serving (record job { hand = marking x e }))) history cycle
    looks_up x e hand = turned (serving job) (serving (record job { hand = marking x e })) here (record {
      held = λ y grey. inl (⊎_elim (λ in_hand. inl (subst (λ (g : Hand). InHand g y) hand in_hand))
          (λ out. inr out) grey);
      new_held = λ y grey. inl (⊎_elim (λ same. inl (subst (λ (g : Hand). InHand g y) (sym hand) same))
          (λ out. inr out) grey);
      keeps = λ y none. absurd none;
      works = λ object field y holds m works. inr (
          ⊎_elim
          (λ c. inl (⊎_elim (λ p. absurd (subst (λ (g : Hand). IsPushing g object.entry) hand p))
          (λ on_stack. inr on_stack) c))
          (λ c. inr c) works);
      puts = λ object field y known. tt;
    })

    -- the top entry is taken off the stack
    pub takes_off : (rest : List ℕ) (e : ℕ) → job.stack ≡ rest ++ e ∷ [] → job.off ≡ nothing
        → TracingHolds n w words (set facets seat (serving (record job { stack = rest; off = popped e }))) history cycle
    takes_off rest e stack none =
        turned (serving job) (serving (record job { stack = rest; off = popped e })) here (record {
          held = λ y grey. inl grey;
          new_held = λ y grey. inl grey;
          keeps = λ y keeps. absurd keeps;
          works = λ object field y holds m works. inr (
              ⊎_elim
              (λ c. ⊎_elim (λ p. inl (inl p))
              (λ on_stack. ⊎_elim (λ still. inl (inr still)) (λ top. inr (inl top))
              (Contains-push_cases rest e object.entry
              (subst (λ (s : List ℕ). Contains s object.entry) stack on_stack))) c)
              (λ c. ⊎_elim (λ taken. absurd (subst (λ (o : Off). IsOff o object.entry) none taken))
              (λ scans. inr (inr scans)) c) works);
          puts = λ object field y known. tt;
        })

    -- its address is loaded
    pub locates : (e address : ℕ) → job.off ≡ popped e
        → TracingHolds n w words (set facets seat (serving (record job { off = located e address }))) history cycle
    locates e address off = turned (serving job) (serving (record job { off = located e address })) here (record {
      held = λ y grey. inl grey;
      new_held = λ y grey. inl grey;
      keeps = λ y keeps. absurd keeps;
      works = λ object field y holds m works. inr (
          ⊎_elim (λ c. inl c)
          (λ c. ⊎_elim (λ taken. inr (inl (subst (λ (o : Off). IsOff o object.entry) off taken)))
          (λ scans. inr (inr scans)) c) works);
      puts = λ object field y known. tt;
    })

    -- its scan begins
    pub begins_scan : (e address count : ℕ) → job.off ≡ located e address → address ≡ (entry_of n words e).address
        → job.scan ≡ None
        → TracingHolds n w words
        (set facets seat
        (serving (record job {
          off = nothing;
          scan = Some (record { address = address; fields = count; next = 0 });
        }))) history cycle
    begins_scan e address count off is none =
        turned (serving job)
        (serving (record job { off = nothing; scan = Some (record { address = address; fields = count; next = 0 }) }))
        here (record {
          held = λ y grey. inl grey;
          new_held = λ y grey. inl grey;
          keeps = λ y keeps. absurd keeps;
          works = λ object field y holds m works. inr (
              ⊎_elim (λ c. inl c)
              (λ c. ⊎_elim
              (λ taken.
              let same : e ≡ object.entry = subst (λ (o : Off). IsOff o object.entry) off taken in
              inr (inr (is ∙ ap (λ (x : ℕ). (entry_of n words x).address) same, omega arith)))
              (λ scans. absurd (subst (λ (s : Option Scan). ScanAwaits s (entry_of n words object.entry).address field)
              none scans)) c) works);
          puts = λ object field y known. tt;
        })

    -- or it has no fields
    pub skips_scan : (e address : ℕ) → job.off ≡ located e address
        → ((object : Name) (fields : List Value) → IsMarked n words cycle object → object.entry ≡ e
        → fields_of (state_of w history) object ≡ Some fields → length fields ≡ 0)
        → TracingHolds n w words (set facets seat (serving (record job { off = nothing }))) history cycle
    skips_scan e address off no_fields = turned (serving job) (serving (record job { off = nothing })) here (record {
      held = λ y grey. inl grey;
      new_held = λ y grey. inl grey;
      keeps = λ y keeps. absurd keeps;
      works = λ object field y holds m works.
          ⊎_elim (λ c. inr (inl c))
          (λ c. ⊎_elim
          (λ taken.
          let same : e ≡ object.entry = subst (λ (o : Off). IsOff o object.entry) off taken in
          let inside : field < length holds.fields = slice_get_within holds.fields field (value.Ref y) holds.field_is in
          let count : length holds.fields ≡ 0 = no_fields object holds.fields m (sym same) holds.object_is in
          absurd (omega arith))
          (λ scans. inr (inr (inr scans))) c) works;
      puts = λ object field y known. tt;
    })

    -- ---- the scan loads a field

    -- What the scan loads: it is of the record of some marked object, and each marked object with that address has
    -- so many fields, and this value in the next one.
    pub record Loads (scan : Scan) (v : Value) : Type 0 where
      pub object : Name
      pub marked : IsMarked n words cycle object
      pub address_is : scan.address ≡ (entry_of n words object.entry).address
      pub each : (other : Name) (fields : List Value) → IsMarked n words cycle other
          → scan.address ≡ (entry_of n words other.entry).address
          → fields_of (state_of w history) other ≡ Some fields → (length fields ≡ scan.fields)
          × (slice_get fields scan.next ≡ Some v)

    -- the scan goes on to the next field, or ends behind the last one
    abbrev pub GoesOn : Scan → Option Scan → Type 0
    GoesOn scan (Some s) = (s.address ≡ scan.address) × (s.next ≡ scan.next + 1)
    GoesOn scan None = scan.next + 1 ≡ scan.fields

    awaits_later : (scan : Scan) (next : Option Scan) (v : Value) → Loads scan v → GoesOn scan next → (object : Name)
        (field : ℕ) (x : Name)
        → HoldsName (state_of w history) object field x → IsMarked n words cycle object → ScanAwaits (Some scan)
        (entry_of n words object.entry).address field
        → (v ≡ value.Ref x) ⊎ ScanAwaits next (entry_of n words object.entry).address field
    awaits_later scan next v loads goes object field x holds marked awaits =
        let each = loads.each object holds.fields marked awaits.0 holds.object_is in
        ⊎_elim
        (λ same. inl (same_Some v (value.Ref x) (sym each.1 ∙ ap (slice_get holds.fields) (sym same) ∙ holds.field_is)))
        (λ other. inr (later next goes other)) (cases_eq field scan.next)
      where
        later : (next : Option Scan) → GoesOn scan next → (field ≡ scan.next → ⊥)
            → ScanAwaits next (entry_of n words object.entry).address field
        later (Some s) goes other = (goes.0 ∙ awaits.0, (let a = awaits.1 in let b = goes.1 in omega arith))
        later None goes other =
            let inside : field < length holds.fields = slice_get_within holds.fields field (value.Ref x)
            holds.field_is in
            let count = (loads.each object holds.fields marked awaits.0 holds.object_is).0 in
            let a = awaits.1 in
            absurd (omega arith)

    loaded_good : (scan : Scan) (v : Value) (x : Name) → Loads scan v → v ≡ value.Ref x → IsGood w history x
    loaded_good scan v x loads e =
        let good = good_shaded loads.object (inr loads.marked) in
        let object : HasObject (state_of w history) loads.object = (made_are_objects w history k.legal loads.object).0
        good.made in
        let found = (loads.each loads.object object.0 loads.marked loads.address_is object.1).1 in
        field_good w history k.legal loads.object scan.next x good
        (record { fields = object.0; object_is = object.1; field_is = found ∙ ap (λ (u : Value). Some u) e })

    -- a name of the own server is considered
    pub scan_takes : (scan : Scan) (next : Option Scan) (x : Name) → job.scan ≡ Some scan → job.hand ≡ empty
        → Loads scan (value.Ref x) → GoesOn scan next
        → TracingHolds n w words (set facets seat (serving (record job { hand = considering x; scan = next })))
        history cycle
    scan_takes scan next x scanning hand loads goes =
        turned (serving job) (serving (record job { hand = considering x; scan = next })) here (record {
          held = λ y grey. ⊎_elim (λ in_hand. absurd (subst (λ (g : Hand). InHand g y) hand in_hand))
              (λ out. inl (inr out)) grey;
          new_held = λ y grey. ⊎_elim
              (λ same. inr (subst (IsGood w history) same (loaded_good scan (value.Ref x) x loads refl)))
              (λ out. inl (inr out)) grey;
          keeps = λ y none. absurd none;
          works = λ object field y holds m works.
              ⊎_elim
              (λ c. inr (inl (⊎_elim (λ p. absurd (subst (λ (g : Hand). IsPushing g object.entry) hand p))
              (λ on_stack. inr on_stack) c)))
              (λ c. ⊎_elim (λ off. inr (inr (inl off)))
              (λ scans. ⊎_elim (λ e. inl (inl (same_ref x y e))) (λ later. inr (inr (inr later)))
              (awaits_later scan next (value.Ref x) loads goes object field y holds m
              (subst (λ (s : Option Scan). ScanAwaits s (entry_of n words object.entry).address field) scanning scans)))
              c) works;
          puts = λ object field y known. tt;
        })

    -- a foreign name becomes the outgoing name
    pub scan_sends : (scan : Scan) (next : Option Scan) (x : Name) → job.scan ≡ Some scan → job.outgoing ≡ None
        → Loads scan (value.Ref x) → GoesOn scan next
        → TracingHolds n w words (set facets seat (serving (record job { outgoing = Some x; scan = next })))
        history cycle
    scan_sends scan next x scanning none loads goes =
        turned (serving job) (serving (record job { outgoing = Some x; scan = next })) here (record {
          held = λ y grey. ⊎_elim (λ in_hand. inl (inl in_hand)) (λ out. absurd (none-some y (sym none ∙ out))) grey;
          new_held = λ y grey. ⊎_elim (λ in_hand. inl (inl in_hand))
              (λ out. inr (subst (IsGood w history) (same_Some x y out) (loaded_good scan (value.Ref x) x loads refl)))
              grey;
          keeps = λ y none. absurd none;
          works = λ object field y holds m works.
              ⊎_elim (λ c. inr (inl c))
              (λ c. ⊎_elim (λ off. inr (inr (inl off)))
              (λ scans. ⊎_elim (λ e. inl (inr (ap (λ (z : Name). Some z) (same_ref x y e))))
              (λ later. inr (inr (inr later)))
              (awaits_later scan next (value.Ref x) loads goes object field y holds m
              (subst (λ (s : Option Scan). ScanAwaits s (entry_of n words object.entry).address field) scanning scans)))
              c) works;
          puts = λ object field y known. tt;
        })

    -- no name
    pub scan_passes : (scan : Scan) (next : Option Scan) (v : Value) → job.scan ≡ Some scan → Loads scan v → IsNoRef v
        → GoesOn scan next
        → TracingHolds n w words (set facets seat (serving (record job { scan = next }))) history cycle
    scan_passes scan next v scanning loads plain_value goes =
        turned (serving job) (serving (record job { scan = next })) here (record {
          held = λ y grey. inl grey;
          new_held = λ y grey. inl grey;
          keeps = λ y none. absurd none;
          works = λ object field y holds m works.
              ⊎_elim (λ c. inr (inl c))
              (λ c. ⊎_elim (λ off. inr (inr (inl off)))
              (λ scans. ⊎_elim (λ e. absurd (no_ref v y plain_value e)) (λ later. inr (inr (inr later)))
              (awaits_later scan next v loads goes object field y holds m
              (subst (λ (s : Option Scan). ScanAwaits s (entry_of n words object.entry).address field) scanning scans)))
              c) works;
          puts = λ object field y known. tt;
        })
