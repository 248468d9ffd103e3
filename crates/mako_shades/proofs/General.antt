-- The tracing invariant is kept by one step: the general law.
use Rattle.std.proofs.Common.{◌≡◌, ℕ, ◌*◌, ◌⊎◌, inl, inr, ⊎_elim, List, ◌∷◌, ◌++◌, Contains, flat_map, length, set}
use Rattle.std.proofs.Common.{slice_get, Some, true, false, sym, ap, subst, ◌∙◌, arith, append_assoc}
use Rattle.std.proofs.lemmas.Bool.{cases_eq, cases_lt, cases_Bool}
use Rattle.std.proofs.lemmas.List.Concat.{flat_map-append}
use Rattle.std.proofs.lemmas.List.Elements.{Contains-append_cases}
use Rattle.mako_words.specs.declared.name.Name.{Name}
use Rattle.mako_words.specs.Names.{FitsName}
use Rattle.mako_shape.specs.declared.numbers.Numbers.{Numbers}
use Rattle.mako_shape.specs.Places.{total}
use Rattle.mako_model.specs.declared.point.Point.{Point}
use Rattle.mako_model.specs.declared.point.Point.TheVariants.{Snap}
use Rattle.mako_model.specs.Legal.{Facts, state_of, IsLegal}
use Rattle.mako_model.specs.Reachable.{IsReachable}
use Rattle.mako_model.specs.Dead.{made_by, names_made}
use Rattle.mako_model.proofs.Lists.{get_set_cases}
use Rattle.mako_ring.specs.Shades.{entry_of, IsMarked, IsShaded, IsWaiting}
use Rattle.mako_ring.specs.TraceFacets.{TraceFacet, looking, storing, swapping}
use Rattle.mako_names.specs.Uses.{IsGood}
use Rattle.mako_shades.specs.Holding.{HoldsName, Keeps, PutKnows, TracingHolds}
use Rattle.mako_shades.proofs.Goods.{SameSnaps, good_stays}

-- ---- what is decided

no_bool : false ≡ true → ⊥
no_bool e = cc

-- whether a name is marked can be told
pub marked_cases : (n : Numbers) (words : List ℕ) (cycle : ℕ) (x : Name) → IsMarked n words cycle x
    ⊎ (¬ IsMarked n words cycle x)
marked_cases n words cycle x =
    ⊎_elim (λ l.
    ⊎_elim (λ t.
    ⊎_elim (λ g.
    ⊎_elim (λ e. inl (record { in_range = l; taken = t; generation = g; epoch = e }))
    (λ no. inr (λ m. no m.epoch)) (cases_eq (entry_of n words x.entry).epoch cycle))
    (λ no. inr (λ m. no m.generation)) (cases_eq (entry_of n words x.entry).generation x.generation))
    (λ no. inr (λ m. no_bool (sym no ∙ m.taken))) (cases_Bool (entry_of n words x.entry).taken))
    (λ no. inr (λ m. let l = m.in_range in absurd (omega arith))) (cases_lt x.entry (n.servers * n.tablets * n.entries))

pub put_more : (f : TraceFacet) (object : Name) (field : ℕ) (x : Name) (A B : Type 0) → (A → B)
    → PutKnows f object field x A → PutKnows f object field x B
put_more (looking on at old) object field x A B more knows = λ e k. ⊎_elim (λ a. inl (more a)) (λ o. inr o) (knows e k)
put_more (storing on at) object field x A B more knows = λ e k. more (knows e k)
put_more (swapping e) object field x A B more knows = λ same. more (knows same)
put_more f object field x A B more knows = tt

-- ---- one step

-- the invariant, with what it asks of words and history beside it
pub record Holding (n : Numbers) (w : Facts) (words : List ℕ) (facets : List TraceFacet) (history : List Point)
    (cycle : ℕ) : Type 0 where
  pub size : length words ≡ total n
  pub legal : IsLegal w history
  pub fit : (x : Name) → Contains (names_made history) x → FitsName x
  pub tracing : TracingHolds n w words facets history cycle

-- the words before and after, one seat with its facet before and after, and the history with its new points
pub record Act : Type 0 where
  pub numbers : Numbers
  pub workload : Facts
  pub cycle : ℕ
  pub words : List ℕ
  pub next_words : List ℕ
  pub facets : List TraceFacet
  pub seat : ℕ
  pub facet : TraceFacet
  pub next_facet : TraceFacet
  pub history : List Point
  pub points : List Point
  pub next_history : List Point

abbrev pub next_facets : Act → List TraceFacet
next_facets a = set a.facets a.seat a.next_facet

abbrev pub Before : Act → Type 0
Before a = TracingHolds a.numbers a.workload a.words a.facets a.history a.cycle

abbrev pub After : Act → Type 0
After a = TracingHolds a.numbers a.workload a.next_words (next_facets a) a.next_history a.cycle

abbrev pub Marked : Act → Name → Type 0
Marked a x = IsMarked a.numbers a.words a.cycle x

abbrev pub NextMarked : Act → Name → Type 0
NextMarked a x = IsMarked a.numbers a.next_words a.cycle x

abbrev pub Shaded : Act → Name → Type 0
Shaded a x = IsShaded a.numbers a.words a.facets a.cycle x

abbrev pub NextShaded : Act → Name → Type 0
NextShaded a x = IsShaded a.numbers a.next_words (next_facets a) a.cycle x

abbrev pub NextGood : Act → Name → Type 0
NextGood a x = IsGood a.workload a.next_history x

abbrev pub Holds : Act → Name → ℕ → Name → Type 0
Holds a object field x = HoldsName (state_of a.workload a.history) object field x

abbrev pub NextHolds : Act → Name → ℕ → Name → Type 0
NextHolds a object field x = HoldsName (state_of a.workload a.next_history) object field x

-- shaded before the step, or after it
abbrev pub EverShaded : Act → Name → Type 0
EverShaded a x = Shaded a x ⊎ NextShaded a x

-- the field of the object held the name at the snapshot, and the object was reachable
pub record AtSnap (a : Act) (t : Before a) (object : Name) (field : ℕ) (x : Name) : Type 0 where
  pub reached : IsReachable (state_of a.workload t.before) object
  pub held : HoldsName (state_of a.workload t.before) object field x

-- the histories and the seat
pub record Stands (a : Act) : Type 0 where
  pub grown : a.next_history ≡ a.history ++ a.points
  pub legal : IsLegal a.workload a.next_history
  pub still : SameSnaps a.workload a.history a.next_history
  pub here : slice_get a.facets a.seat ≡ Some a.facet

-- What a step has to do to keep the invariant, in terms of names.
pub record Keeping (a : Act) (t : Before a) : Type 0 where
  pub shades : (x : Name) → Shaded a x → NextShaded a x
  pub good : (x : Name) → NextShaded a x → Shaded a x ⊎ NextGood a x
  pub keeps : (x : Name) → Keeps a.next_facet x → NextGood a x
  pub marks : (x : Name) → Marked a x → NextMarked a x
  pub waits : (object : Name) (field : ℕ) (x : Name) → AtSnap a t object field x → Holds a object field x
      → IsWaiting a.numbers a.words a.facets a.cycle object field
      → EverShaded a x
      ⊎ (NextHolds a object field x × IsWaiting a.numbers a.next_words (next_facets a) a.cycle object field)
  pub puts : (object : Name) (field : ℕ) (x : Name) → AtSnap a t object field x
      → PutKnows a.next_facet object field x (EverShaded a x)
  pub news : (x : Name) → Contains (flat_map made_by a.points) x → NextMarked a x

module _ (a : Act) (t : Before a) (s : Stands a) where
  pub good_next : (x : Name) → IsGood a.workload a.history x → NextGood a x
  good_next x good =
      subst (λ ps. IsGood a.workload ps x) (sym s.grown)
      (good_stays a.workload a.history a.points (subst (IsLegal a.workload) s.grown s.legal)
      (subst (SameSnaps a.workload a.history) s.grown s.still) x good)

  module _ (k : Keeping a t) where
    go_on_shaded : (x : Name) → EverShaded a x → NextShaded a x
    go_on_shaded x shaded = ⊎_elim (λ was. k.shades x was) (λ now. now) shaded

    go_on_fields : (object : Name) (field : ℕ) (x : Name) → IsReachable (state_of a.workload t.before) object
        → HoldsName (state_of a.workload t.before) object field x
        → NextShaded a x
        ⊎ (NextHolds a object field x × IsWaiting a.numbers a.next_words (next_facets a) a.cycle object field)
    go_on_fields object field x reached held =
        ⊎_elim (λ shaded. inl (k.shades x shaded))
        (λ kept. ⊎_elim (λ shaded. inl (go_on_shaded x shaded)) (λ waits. inr waits)
        (k.waits object field x (record { reached = reached; held = held }) kept.0 kept.1))
        (t.fields object field x reached held)

    go_on_puts : (seat : ℕ) (f : TraceFacet) → slice_get (next_facets a) seat ≡ Some f → (object : Name) (field : ℕ)
        (x : Name) → IsReachable (state_of a.workload t.before) object
        → HoldsName (state_of a.workload t.before) object field x → PutKnows f object field x (NextShaded a x)
    go_on_puts seat f at object field x reached held =
        ⊎_elim
        (λ c. subst (λ g. PutKnows g object field x (NextShaded a x)) c.1
        (put_more a.next_facet object field x (EverShaded a x) (NextShaded a x) (go_on_shaded x)
        (k.puts object field x (record { reached = reached; held = held }))))
        (λ c. put_more f object field x (Shaded a x) (NextShaded a x) (k.shades x)
        (t.puts seat f c.1 object field x reached held))
        (get_set_cases a.facets a.seat seat a.next_facet f at)

    go_on_keeps : (seat : ℕ) (f : TraceFacet) → slice_get (next_facets a) seat ≡ Some f → (x : Name) → Keeps f x
        → NextGood a x
    go_on_keeps seat f at x keeps =
        ⊎_elim (λ c. k.keeps x (subst (λ g. Keeps g x) (sym c.1) keeps)) (λ c. good_next x (t.keeps seat f c.1 x keeps))
        (get_set_cases a.facets a.seat seat a.next_facet f at)

    -- the general law
    pub go_on : After a
    go_on = record {
      before = t.before;
      after = t.after ++ a.points;
      latest = s.still ∙ t.latest;
      split = s.grown ∙ ap (λ (ps : List Point). ps ++ a.points) t.split ∙ append_assoc t.before
          (Snap a.cycle ∷ t.after) a.points;
      shades = λ x shaded. ⊎_elim (λ was. good_next x (t.shades x was)) (λ good. good) (k.good x shaded);
      keeps = go_on_keeps;
      roots = λ x root. k.shades x (t.roots x root);
      fields = go_on_fields;
      puts = go_on_puts;
      news = λ x new. ⊎_elim (λ was. k.marks x (t.news x was)) (λ now. k.news x now)
          (Contains-append_cases (flat_map made_by t.after) (flat_map made_by a.points) x
          (subst (λ names. Contains names x) (flat_map-append made_by t.after a.points) new));
    }
