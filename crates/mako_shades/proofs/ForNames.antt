-- What the tracing invariant tells of names in use and of epochs, as the ties of names say it.
use Rattle.std.proofs.Common.{◌≡◌, ℕ, ◌+◌, ◌<◌, ◌⊎◌, inl, inr, ⊎_elim, Bool, List, [], ◌∷◌, ◌++◌, Contains, flat_map}
use Rattle.std.proofs.Common.{slice_get, Some, sym, ap, subst, refl, ◌∙◌, arith, append-nil}
use Rattle.std.specs.List.{fold}
use Rattle.std.proofs.lemmas.List.{append_cancel_left}
use Rattle.mako_words.specs.declared.name.Name.{Name}
use Rattle.mako_words.specs.declared.entry_word.EntryWord.{EntryWord}
use Rattle.mako_words.specs.Names.{name_word, FitsName}
use Rattle.mako_shape.specs.declared.numbers.Numbers.{Numbers}
use Rattle.mako_shape.specs.Places.{Place, barrier, work, ghost, Within, word_at}
use Rattle.mako_model.specs.declared.point.Point.{Point}
use Rattle.mako_model.specs.declared.point.Point.TheVariants.{Snap}
use Rattle.mako_model.specs.Dead.{made_by, IsDead}
use Rattle.mako_model.specs.Heaps.{Heap}
use Rattle.mako_model.specs.Lawful.{heap_after}
use Rattle.mako_model.specs.Legal.{Facts, state_of, IsLegal}
use Rattle.mako_model.specs.Reachable.{IsReachable}
use Rattle.mako_model.proofs.DeadApart.{snap_number, snaps_grow, state_append}
use Rattle.mako_model.proofs.Splits.{split_of_append}
use Rattle.mako_ring.specs.Shades.{IsShadeSlot, IsComplete}
use Rattle.mako_ring.specs.TraceFacets.{TraceFacet, GreyIn}
use Rattle.mako_names.specs.Counts.{name_of}
use Rattle.mako_names.specs.Freeing.{AllMarked, EpochsStand, TraceStands, since_snap}
use Rattle.mako_names.specs.Tables.{IsTaken, entry_of}
use Rattle.mako_names.specs.Uses.{IsGood, IsUseSlot}
use Rattle.mako_names.proofs.TraceKinds.{snap_split}
use Rattle.mako_shades.specs.Holding.{Keeps, TracingHolds}
use Rattle.mako_shades.specs.Laws.{NoneIsLater}
use Rattle.mako_shades.specs.Stands.{AreTraced}
use Rattle.mako_shades.proofs.Completes.{reachable_marked}
use Rattle.mako_shades.proofs.Taken.{entry_is, taken_marked}

-- ---- there is one snapshot of a cycle

past : (w : Facts) (before : List Point) (cycle : ℕ) (rest : List Point)
    → (state_of w before).snaps < (state_of w (before ++ Snap cycle ∷ rest)).snaps
past w before cycle rest =
    let grow = snaps_grow (heap_after (state_of w before) (Snap cycle)) rest in
    let same : (state_of w (before ++ Snap cycle ∷ rest)).snaps
    ≡ (fold heap_after (heap_after (state_of w before) (Snap cycle)) rest).snaps =
    ap (λ (h : Heap). h.snaps) (state_append w before (Snap cycle ∷ rest)) in
    omega arith

module _ (w : Facts) (history a b : List Point) (cycle : ℕ) (after_a after_b : List Point) (legal : IsLegal w history)
    (in_a : history ≡ a ++ Snap cycle ∷ after_a) (in_b : history ≡ b ++ Snap cycle ∷ after_b) where
  number_a : cycle ≡ (state_of w a).snaps + 1
  number_a = snap_number w a cycle after_a (subst (IsLegal w) in_a legal)

  number_b : cycle ≡ (state_of w b).snaps + 1
  number_b = snap_number w b cycle after_b (subst (IsLegal w) in_b legal)

  apart : (x y more : List Point) → cycle ≡ (state_of w x).snaps + 1 → cycle ≡ (state_of w y).snaps + 1
      → x ≡ y ++ Snap cycle ∷ more → ⊥
  apart x y more number_x number_y e =
      let less = past w y cycle more in
      let same : (state_of w x).snaps ≡ (state_of w (y ++ Snap cycle ∷ more)).snaps =
      ap (λ (ps : List Point). (state_of w ps).snaps) e in
      omega arith

  in_order : (more : List Point) → b ≡ a ++ more → Snap cycle ∷ after_a ≡ more ++ Snap cycle ∷ after_b → a ≡ b
  in_order [] e f = sym (e ∙ append-nil a)
  in_order (p ∷ more) e f =
      let first : p ≡ Snap cycle = cc in
      absurd (apart b a more number_b number_a (e ∙ ap (λ (q : Point). a ++ q ∷ more) first))

  -- what comes before the snapshot is one history
  one_before : a ≡ b
  one_before =
      ⊎_elim (λ t. absurd (apart a b t.0 number_a number_b t.1)) (λ t. in_order t.0 t.1 t.2)
      (split_of_append a (Snap cycle ∷ after_a) b (Snap cycle) after_b (sym in_a ∙ in_b))

  -- and so is what comes after it
  one_after : after_a ≡ after_b
  one_after =
      let same : Snap cycle ∷ after_a ≡ Snap cycle ∷ after_b =
      append_cancel_left b (Snap cycle ∷ after_a) (Snap cycle ∷ after_b)
      (ap (λ (ps : List Point). ps ++ Snap cycle ∷ after_a) (sym one_before) ∙ sym in_a ∙ in_b) in cc

-- ---- what is told

module _ (n : Numbers) (w : Facts) (words : List ℕ) (facets : List TraceFacet) (history : List Point) (cycle : ℕ)
    (t : TracingHolds n w words facets history cycle) where
  shade_slot : (p : Place) → IsUseSlot p → IsShadeSlot p
  shade_slot (barrier m slot) is = tt
  shade_slot (work s slot) is = tt
  shade_slot (ghost sender receiver slot) is = tt
  shade_slot p is = absurd is

  -- names in slots are good
  pub slots_good : (p : Place) (x : Name) → Within n p → IsUseSlot p → FitsName x → word_at n words p ≡ name_word x
      → IsGood w history x
  slots_good p x within is fits word =
      t.shades x (inl (inl (record {
        place = p;
        is_slot = shade_slot p is;
        within = within;
        fits = fits;
        word_is = word;
      })))

  -- and so are those that seats hold
  pub held_good : (seat : ℕ) (f : TraceFacet) (x : Name) → slice_get facets seat ≡ Some f → GreyIn f x ⊎ Keeps f x
      → IsGood w history x
  held_good seat f x at how =
      ⊎_elim (λ grey. t.shades x (inl (inr (record { seat = seat; facet = f; at = at; grey = grey }))))
      (λ keeps. t.keeps seat f at x keeps) how

  -- the name that an entry is taken for is not dead, where it has the epoch
  epoch_good : (x : ℕ) → IsTaken n words x (entry_of n words x).generation → (entry_of n words x).epoch ≡ cycle
      → ¬ IsDead w history cycle (name_of x (entry_of n words x).generation)
  epoch_good x is epoch dead =
      let name : Name = name_of x (entry_of n words x).generation in
      let marked =
      taken_marked n words cycle name is (ap (λ (e : EntryWord). e.epoch) (sym (entry_is n words x)) ∙ epoch) in
      (t.shades name (inr marked)).kept (subst (λ k. IsDead w history k name) (sym t.latest) dead)

  module _ (legal : IsLegal w history) where
    -- the points since the last snapshot are those since that of the cycle
    since_is : since_snap history ≡ t.after
    since_is =
        let number = snap_number w t.before cycle t.after (subst (IsLegal w) t.split legal) in
        let latest = t.latest in
        let last = snap_split w history legal (omega arith) in
        one_after w history last.0 t.before cycle (since_snap history) t.after legal
        (last.1 ∙ ap (λ (k : ℕ). last.0 ++ Snap k ∷ since_snap history) t.latest) t.split

    pub trace_stands : NoneIsLater n words cycle → TraceStands n words w history cycle
    trace_stands old = record {
      good = λ x within taken epoch.
          epoch_good x (record { within = within; taken = taken; generation = refl }) epoch;
      young = λ x within taken made.
          let name : Name = name_of x (entry_of n words x).generation in
          let marked = t.news name (subst (λ ps. Contains (flat_map made_by ps) name) since_is made) in
          ap (λ (e : EntryWord). e.epoch) (entry_is n words x) ∙ marked.epoch;
      old = old;
    }

    pub complete_marks_all : (admitted : ℕ → Bool) → IsComplete n words facets admitted
        → AllMarked n words w history cycle
    complete_marks_all admitted complete before after x g split reached =
        let same : before ≡ t.before =
        one_before w history before t.before cycle after t.after legal split t.split in
        let marked =
        reachable_marked n w words facets history cycle legal t admitted complete (name_of x g)
        (subst (λ ps. IsReachable (state_of w ps) (name_of x g)) same reached) in
        ap (λ (e : EntryWord). e.epoch) (entry_is n words x) ∙ marked.epoch

-- what is told of taken entries is what names keep of epochs while no cycle is traced
pub epochs_stand : (n : Numbers) (w : Facts) (words : List ℕ) (history : List Point) (cycle : ℕ)
    → (state_of w history).snaps ≡ cycle → NoneIsLater n words cycle → AreTraced n w words history cycle
    → EpochsStand n words w history cycle
epochs_stand n w words history cycle latest old traced x within taken =
    let name : Name = name_of x (entry_of n words x).generation in
    let told = traced name (record { within = within; taken = taken; generation = refl }) in
    let here = ap (λ (e : EntryWord). e.epoch) (sym (entry_is n words x)) in record {
      good = λ epoch dead.
          ⊎_elim (λ a. a.1.kept (subst (λ k. IsDead w history k name) (sym latest) dead))
          (λ b. absurd (b.0 (here ∙ epoch))) told;
      dead = λ other. ⊎_elim (λ a. absurd (other (sym here ∙ a.0))) (λ b. b.1) told;
      old = old x within taken;
    }
