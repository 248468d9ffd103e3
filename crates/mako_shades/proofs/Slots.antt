-- Each kind of step that fills or empties a slot keeps the tracing invariant.
use Rattle.std.proofs.Common.{◌≡◌, ℕ, ◌⊎◌, inl, inr, ⊎_elim, List, [], ◌∷◌, ◌++◌, set, slice_get, Some, None, sym}
use Rattle.std.proofs.Common.{subst, refl, ◌∙◌, append-nil}
use Rattle.std.proofs.lemmas.Option.{same_Some, none-some}
use Rattle.std.proofs.lemmas.List.Elements.{Contains-append_cases, Contains-append_left, Contains-append_right}
use Rattle.std.proofs.lemmas.List.Elements.{Contains-push, Contains-push_cases}
use Rattle.mako_words.specs.declared.name.Name.{Name}
use Rattle.mako_words.specs.Names.{name_word, FitsName}
use Rattle.mako_shape.specs.declared.numbers.Numbers.{Numbers}
use Rattle.mako_shape.specs.Places.{Place, barrier, work, ghost, index, Within, word_at}
use Rattle.mako_model.specs.declared.point.Point.{Point}
use Rattle.mako_model.specs.Legal.{Facts}
use Rattle.mako_ring.specs.Shades.{entry_of, IsShadeSlot, StandsInSlot, IsShaded}
use Rattle.mako_ring.specs.TraceFacets.{Hand, empty, considering, Work, TraceFacet, looking, storing, serving}
use Rattle.mako_ring.specs.TraceFacets.{collecting, InHand, IsPushing, GreyIn, WorksOn}
use Rattle.mako_names.specs.Uses.{IsGood}
use Rattle.mako_shades.specs.Holding.{Keeps, PutKnows, TracingHolds}
use Rattle.mako_shades.proofs.General.{Holding, Act, EverShaded, put_more}
use Rattle.mako_shades.proofs.Turns.{no_member, plain, put_ever, good_held}
use Rattle.mako_shades.proofs.Words.{entries_same, filled_stay, filled_here, filled_was, emptied_stay, emptied_was}

module _ (n : Numbers) (w : Facts) (words : List ℕ) (facets : List TraceFacet) (history : List Point) (cycle : ℕ)
    (k : Holding n w words facets history cycle) (seat : ℕ) where
  abbrev pub word_act : Place → ℕ → TraceFacet → TraceFacet → Act
  word_act p v f g = record {
    numbers = n;
    workload = w;
    cycle = cycle;
    words = words;
    next_words = set words (index n p) v;
    facets = facets;
    seat = seat;
    facet = f;
    next_facet = g;
    history = history;
    points = [];
    next_history = history;
  }

  -- ---- a slot is filled

  -- the step of one seat that fills a slot with a name
  pub record Fills (f g : TraceFacet) (x : Name) : Type 0 where
    pub held : (y : Name) → GreyIn f y → GreyIn g y ⊎ (x ≡ y)
    pub new_held : (y : Name) → GreyIn g y → GreyIn f y
    pub keeps : (y : Name) → Keeps g y → ⊥
    pub works : (entry address field : ℕ) → WorksOn f entry address field → WorksOn g entry address field
    pub puts : (object : Name) (field : ℕ) (y : Name) → PutKnows f object field y (IsShaded n words facets cycle y)
        → PutKnows g object field y (IsShaded n words facets cycle y ⊎ (x ≡ y))

  pub filled : (f g : TraceFacet) → slice_get facets seat ≡ Some f → (p : Place) → IsShadeSlot p → Within n p
      → (x : Name) → IsGood w history x → word_at n words p ≡ 0 → Fills f g x
      → TracingHolds n w (set words (index n p) (name_word x)) (set facets seat g) history cycle
  filled f g here p slot within x good was fills = plain (word_act p (name_word x) f g) k.tracing
      (record { grown = sym (append-nil history); legal = k.legal; still = refl; here = here })
      (record {
        entries = entries_same n words p (name_word x) k.size within slot;
        slots = λ y at. inl (filled_stay n words p (name_word x) k.size within slot x fits was refl y at);
        held = λ y grey. ⊎_elim (λ z. inl z)
            (λ same. inr (inl (subst (StandsInSlot n (set words (index n p) (name_word x))) same now)))
            (fills.held y grey);
        new_slots = λ y at. ⊎_elim (λ z. inl z) (λ same. inr (subst (IsGood w history) same good))
            (filled_was n words p (name_word x) k.size within slot x fits was refl y at);
        new_held = λ y grey. inl (fills.new_held y grey);
        keeps = λ y keeps. absurd (fills.keeps y keeps);
        holds = λ object field y snap holds. inr holds;
        works = λ object field y holds marked works. inr
            (fills.works object.entry (entry_of n words object.entry).address field works);
        puts = λ object field y snap. put_more g object field y (IsShaded n words facets cycle y ⊎ (x ≡ y))
            (EverShaded (word_act p (name_word x) f g) y)
            (λ known. ⊎_elim (λ z. inl z)
            (λ same. inr (inl (inl (subst (StandsInSlot n (set words (index n p) (name_word x))) same now)))) known)
            (fills.puts object field y (k.tracing.puts seat f here object field y snap.reached snap.held));
        news = λ y new. no_member y new;
      })
    where
      fits : FitsName x
      fits = k.fit x good.made

      now : StandsInSlot n (set words (index n p) (name_word x)) x
      now = filled_here n words p (name_word x) k.size within slot x fits was refl

  -- a put stores the name that it found into its barrier slot
  pub put_shades : (object : Name) (field : ℕ) (old : Name) → slice_get facets seat ≡ Some (looking object field old)
      → (m slot : ℕ) → Within n (barrier m slot) → word_at n words (barrier m slot) ≡ 0
      → TracingHolds n w (set words (index n (barrier m slot)) (name_word old))
      (set facets seat (storing object field)) history cycle
  put_shades object field old here m slot within was =
      filled (looking object field old) (storing object field) here (barrier m slot) tt within old
      (k.tracing.keeps seat (looking object field old) here old refl) was (record {
        held = λ y grey. absurd grey;
        new_held = λ y grey. absurd grey;
        keeps = λ y none. none;
        works = λ e a i works. works;
        puts = λ on at y knows e i. knows e i;
      })

  -- a server puts its outgoing name into a ghost slot
  pub sends : (job : Work) → slice_get facets seat ≡ Some (serving job) → (x : Name) → job.outgoing ≡ Some x
      → (sender receiver slot : ℕ) → Within n (ghost sender receiver slot)
      → word_at n words (ghost sender receiver slot) ≡ 0
      → TracingHolds n w (set words (index n (ghost sender receiver slot)) (name_word x))
      (set facets seat (serving (record job { outgoing = None }))) history cycle
  sends job here x out sender receiver slot within was =
      filled (serving job) (serving (record job { outgoing = None })) here (ghost sender receiver slot) tt within x
      (good_held n w words facets history cycle k seat (serving job) here x (inr out)) was (record {
        held = λ y grey. ⊎_elim (λ in_hand. inl (inl in_hand)) (λ o. inr (same_Some x y (sym out ∙ o))) grey;
        new_held = λ y grey. ⊎_elim (λ in_hand. inl in_hand) (λ o. absurd (none-some y o)) grey;
        keeps = λ y none. none;
        works = λ e a i works. works;
        puts = λ on at y knows. tt;
      })

  -- the collector forwards its first pending name
  pub forwards : (x : Name) (rest : List Name) → slice_get facets seat ≡ Some (collecting (x ∷ rest)) → (s slot : ℕ)
      → Within n (work s slot) → word_at n words (work s slot) ≡ 0
      → TracingHolds n w (set words (index n (work s slot)) (name_word x))
      (set facets seat (collecting rest)) history cycle
  forwards x rest here s slot within was =
      filled (collecting (x ∷ rest)) (collecting rest) here (work s slot) tt within x
      (good_held n w words facets history cycle k seat (collecting (x ∷ rest)) here x
      (Contains-append_left (x ∷ []) rest x (Contains-push [] x))) was
      (record {
        held = λ y grey. ⊎_elim (λ first. ⊎_elim (λ none. absurd (no_member y none)) (λ same. inr same)
            (Contains-push_cases [] x y first)) (λ later. inl later)
            (Contains-append_cases (x ∷ []) rest y grey);
        new_held = λ y grey. Contains-append_right (x ∷ []) rest y grey;
        keeps = λ y none. none;
        works = λ e a i works. works;
        puts = λ on at y knows. tt;
      })

  -- ---- a slot is emptied

  pub record Empties (f g : TraceFacet) (x : Name) : Type 0 where
    pub into : GreyIn g x
    pub held : (y : Name) → GreyIn f y → GreyIn g y
    pub new_held : (y : Name) → GreyIn g y → GreyIn f y ⊎ (x ≡ y)
    pub keeps : (y : Name) → Keeps g y → ⊥
    pub works : (entry address field : ℕ) → WorksOn f entry address field → WorksOn g entry address field
    pub puts : (object : Name) (field : ℕ) (y : Name) → PutKnows g object field y (IsShaded n words facets cycle y)

  pub emptied : (f g : TraceFacet) → slice_get facets seat ≡ Some f → (p : Place) → IsShadeSlot p → Within n p
      → (x : Name) → FitsName x → word_at n words p ≡ name_word x → Empties f g x
      → TracingHolds n w (set words (index n p) 0) (set facets seat g) history cycle
  emptied f g here p slot within x fits was empties = plain (word_act p 0 f g) k.tracing
      (record { grown = sym (append-nil history); legal = k.legal; still = refl; here = here })
      (record {
        entries = entries_same n words p 0 k.size within slot;
        slots = λ y at. ⊎_elim (λ z. inl z) (λ same. inr (subst (GreyIn g) same empties.into))
            (emptied_stay n words p 0 k.size within x fits was refl y at);
        held = λ y grey. inl (empties.held y grey);
        new_slots = λ y at. inl (emptied_was n words p 0 k.size within x fits was refl y at);
        new_held = λ y grey. ⊎_elim (λ z. inl z) (λ same. inr (subst (IsGood w history) same good))
            (empties.new_held y grey);
        keeps = λ y keeps. absurd (empties.keeps y keeps);
        holds = λ object field y snap holds. inr holds;
        works = λ object field y holds marked works. inr
            (empties.works object.entry (entry_of n words object.entry).address field works);
        puts = λ object field y snap. put_ever (word_act p 0 f g) g object field y (empties.puts object field y);
        news = λ y new. no_member y new;
      })
    where
      good : IsGood w history x
      good = k.tracing.shades x
          (inl (inl (record { place = p; is_slot = slot; within = within; fits = fits; word_is = was })))

  -- a server takes a name out of a work or ghost slot
  pub takes : (job : Work) → slice_get facets seat ≡ Some (serving job) → job.hand ≡ empty → (p : Place)
      → IsShadeSlot p → Within n p → (x : Name) → FitsName x → word_at n words p ≡ name_word x
      → TracingHolds n w (set words (index n p) 0)
      (set facets seat (serving (record job { hand = considering x }))) history cycle
  takes job here hand p slot within x fits was =
      emptied (serving job) (serving (record job { hand = considering x })) here p slot within x fits was (record {
        into = inl refl;
        held = λ y grey. ⊎_elim (λ in_hand. absurd (subst (λ (g : Hand). InHand g y) hand in_hand)) (λ o. inr o) grey;
        new_held = λ y grey. ⊎_elim (λ same. inr same) (λ o. inl (inr o)) grey;
        keeps = λ y none. none;
        works = λ e a i works. ⊎_elim
            (λ c. inl (⊎_elim (λ p. absurd (subst (λ (g : Hand). IsPushing g e) hand p)) (λ on_stack. inr on_stack) c))
            (λ c. inr c) works;
        puts = λ object field y. tt;
      })

  -- the collector takes a name out of a barrier slot
  pub gathers : (names : List Name) → slice_get facets seat ≡ Some (collecting names) → (p : Place) → IsShadeSlot p
      → Within n p → (x : Name) → FitsName x → word_at n words p ≡ name_word x
      → TracingHolds n w (set words (index n p) 0) (set facets seat (collecting (names ++ x ∷ []))) history cycle
  gathers names here p slot within x fits was =
      emptied (collecting names) (collecting (names ++ x ∷ [])) here p slot within x fits was (record {
        into = Contains-push names x;
        held = λ y grey. Contains-append_left names (x ∷ []) y grey;
        new_held = λ y grey. Contains-push_cases names x y grey;
        keeps = λ y none. none;
        works = λ e a i works. works;
        puts = λ object field y. tt;
      })
