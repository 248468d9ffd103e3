-- The store of the phase Trace establishes the tracing invariant.
use Rattle.std.proofs.Common.{◌≡◌, ℕ, ◌⊎◌, inl, inr, ⊎_elim, List, [], ◌∷◌, ◌++◌, Contains, slice_get, Some, sym, ap}
use Rattle.std.proofs.Common.{subst, refl, ◌∙◌}
use Rattle.std.proofs.lemmas.Bool.{cases_eq}
use Rattle.std.proofs.lemmas.Option.{same_Some, none-some}
use Rattle.mako_words.specs.declared.name.Name.{Name}
use Rattle.mako_shape.specs.declared.numbers.Numbers.{Numbers}
use Rattle.mako_model.specs.declared.point.Point.{Point}
use Rattle.mako_model.specs.declared.point.Point.TheVariants.{Snap}
use Rattle.mako_model.specs.Legal.{Facts, state_of, IsLegal}
use Rattle.mako_model.specs.Reachable.{StandsInRoot}
use Rattle.mako_model.specs.Heaps.{Heap}
use Rattle.mako_model.proofs.DeadApart.{snap_number}
use Rattle.mako_model.proofs.Histories.{state_push}
use Rattle.mako_ring.specs.Shades.{IsShaded}
use Rattle.mako_ring.specs.TraceFacets.{Hand, Off, TraceFacet, looking, storing, expecting, swapping, serving}
use Rattle.mako_ring.specs.TraceFacets.{collecting, InHand, IsPushing, IsOff, ScanAwaits, GreyIn, WorksOn, IsIdle}
use Rattle.mako_names.specs.Uses.{IsGood}
use Rattle.mako_shades.specs.Holding.{HoldsName, Keeps, PutKnows, TracingHolds}
use Rattle.mako_shades.specs.Steps.{IsAtRest, IsReady}
use Rattle.mako_shades.proofs.Goods.{root_good}
use Rattle.mako_shades.proofs.Turns.{no_member}
use Rattle.mako_shades.proofs.Words.{no_zero_name}

-- ---- seats with nothing left

pub idle_not_grey : (f : TraceFacet) (x : Name) → IsIdle f → GreyIn f x → ⊥
idle_not_grey (serving job) x idle grey =
    ⊎_elim (λ in_hand. subst (λ (g : Hand). InHand g x) idle.0 in_hand) (λ out. none-some x (sym idle.1 ∙ out)) grey
idle_not_grey (collecting names) x idle grey = no_member x (subst (λ (l : List Name). Contains l x) idle grey)
idle_not_grey f x idle grey = grey

pub idle_not_working : (f : TraceFacet) (entry address field : ℕ) → IsIdle f → WorksOn f entry address field → ⊥
idle_not_working (serving job) entry address field idle works =
    ⊎_elim
    (λ c. ⊎_elim (λ p. subst (λ (g : Hand). IsPushing g entry) idle.0 p)
    (λ on_stack. no_member entry (subst (λ (l : List ℕ). Contains l entry) idle.2 on_stack)) c)
    (λ c. ⊎_elim (λ off. subst (λ (o : Off). IsOff o entry) idle.3 off)
    (λ scans. subst (λ s. ScanAwaits s address field) idle.4 scans) c) works
idle_not_working (collecting names) entry address field idle works = works
idle_not_working f entry address field idle works = works

rest_not_grey : (f : TraceFacet) (x : Name) → IsAtRest f → GreyIn f x → ⊥
rest_not_grey (looking object field old) x rest grey = absurd rest
rest_not_grey (storing object field) x rest grey = absurd rest
rest_not_grey (serving job) x rest grey = idle_not_grey (serving job) x rest grey
rest_not_grey (collecting names) x rest grey = idle_not_grey (collecting names) x rest grey
rest_not_grey f x rest grey = grey

rest_keeps_none : (f : TraceFacet) (x : Name) → IsAtRest f → Keeps f x → ⊥
rest_keeps_none (looking object field old) x rest keeps = absurd rest
rest_keeps_none (expecting old) x rest keeps = absurd rest
rest_keeps_none f x rest keeps = keeps

rest_knows : (f : TraceFacet) (object : Name) (field : ℕ) (x : Name) (S : Type 0) → IsAtRest f
    → PutKnows f object field x S
rest_knows (looking on at old) object field x S rest = absurd rest
rest_knows (storing on at) object field x S rest = absurd rest
rest_knows (swapping e) object field x S rest = absurd rest
rest_knows f object field x S rest = tt

collector_knows : (names : List Name) (f : TraceFacet) (object : Name) (field : ℕ) (x : Name) (S : Type 0)
    → f ≡ collecting names → PutKnows f object field x S
collector_knows names f object field x S is = subst (λ g. PutKnows g object field x S) (sym is) tt

module _ (n : Numbers) (w : Facts) (words : List ℕ) (facets : List TraceFacet) (history : List Point) (cycle seat : ℕ)
    (names : List Name)
    (legal : IsLegal w (history ++ Snap cycle ∷ [])) (ready : IsReady n w words facets history cycle seat names) where
  -- a seat is the collector, or at rest
  seat_cases : (other : ℕ) (f : TraceFacet) → slice_get facets other ≡ Some f → (f ≡ collecting names) ⊎ IsAtRest f
  seat_cases other f at =
      ⊎_elim (λ e. inl (same_Some f (collecting names) (sym at ∙ ap (slice_get facets) e ∙ ready.here)))
      (λ ne. inr (ready.others other f at ne)) (cases_eq other seat)

  root_now : (x : Name) → StandsInRoot (state_of w history) x → StandsInRoot (state_of w (history ++ Snap cycle ∷ [])) x
  root_now x stands = subst (λ h. StandsInRoot h x) (sym (state_push w history (Snap cycle))) stands

  snap_good : (x : Name) → IsShaded n words facets cycle x → IsGood w (history ++ Snap cycle ∷ []) x
  snap_good x shaded =
      ⊎_elim
      (λ grey. ⊎_elim
      (λ s. absurd (no_zero_name x s.fits (sym (ready.slots s.place s.is_slot s.within) ∙ s.word_is)))
      (λ held. ⊎_elim
      (λ is. root_good w (history ++ Snap cycle ∷ []) legal x
      (root_now x (ready.pending x (subst (λ f. GreyIn f x) is held.grey))))
      (λ rest. absurd (rest_not_grey held.facet x rest held.grey)) (seat_cases held.seat held.facet held.at)) grey)
      (λ marked. absurd (ready.unmarked x marked)) shaded

  snap_holds : (object : Name) (field : ℕ) (x : Name) → HoldsName (state_of w history) object field x
      → HoldsName (state_of w (history ++ Snap cycle ∷ [])) object field x
  snap_holds object field x holds = subst (λ h. HoldsName h object field x) (sym (state_push w history (Snap cycle)))
      (record { fields = holds.fields; object_is = holds.object_is; field_is = holds.field_is })

  pub snapped : TracingHolds n w words facets (history ++ Snap cycle ∷ []) cycle
  snapped = record {
    before = history;
    after = [];
    split = refl;
    latest = ap (λ (h : Heap). h.snaps) (state_push w history (Snap cycle)) ∙ sym
        (snap_number w history cycle [] legal);
    shades = snap_good;
    keeps = λ other f at x keeps. ⊎_elim (λ is. absurd (subst (λ g. Keeps g x) is keeps))
        (λ rest. absurd (rest_keeps_none f x rest keeps)) (seat_cases other f at);
    roots = λ x root. inl
        (inr (record { seat = seat; facet = collecting names; at = ready.here; grey = ready.roots x root }));
    fields = λ object field x reached held. inr (snap_holds object field x held, inl (ready.unmarked object));
    puts = λ other f at object field x reached held.
        ⊎_elim (λ is. collector_knows names f object field x (IsShaded n words facets cycle x) is)
        (λ rest. rest_knows f object field x (IsShaded n words facets cycle x) rest) (seat_cases other f at);
    news = λ x none. absurd (no_member x none);
  }
