-- No step adds a facet behind those of the seats.
use Rattle.std.proofs.Common.{◌≡◌, ℕ, zero, suc, ◌+◌, ◌<◌, ⊎_elim, List, [], ◌∷◌, slice_get, slice_set, Some, sym, ap}
use Rattle.std.proofs.Common.{subst, refl, ◌∙◌}
use Rattle.std.proofs.lemmas.Option.{none-some}
use Rattle.mako_shape.specs.declared.numbers.Numbers.{Numbers}
use Rattle.mako_model.proofs.Lists.{get_set_cases}
use Rattle.mako_ring.specs.TraceFacets.{TraceFacet}
use Rattle.mako_joint.specs.Joints.{JointScene}
use Rattle.mako_sitting_collector.specs.CollectorSnaps.{SeatsAreAll, SeatsStayAll, StepsAddNoFacet}

-- where an item stands after one was set, one stood before
was_there : {A : Type 0} (xs : List A) (i j : ℕ) (x y : A) → slice_get (slice_set xs i x) j ≡ Some y
    → (z : A) × (slice_get xs j ≡ Some z)
was_there [] i j x y at = absurd (none-some y at)
was_there (a ∷ xs) zero zero x y at = (a, refl)
was_there (a ∷ xs) zero (suc j) x y at = (y, at)
was_there (a ∷ xs) (suc i) zero x y at = (a, refl)
was_there (a ∷ xs) (suc i) (suc j) x y at = was_there xs i j x y at

module _ (n : Numbers) (s after : JointScene) (all : SeatsAreAll n s) where
  traced : (i : ℕ) (f : TraceFacet) → after.facets.trace ≡ slice_set s.facets.trace i f → (j : ℕ) (g : TraceFacet)
      → slice_get after.facets.trace j ≡ Some g → j < n.mutators + n.servers + 1
  traced i f is j g at =
      let was = was_there s.facets.trace i j f g (ap (λ xs. slice_get xs j) (sym is) ∙ at) in
      all.traces j was.0 was.1

  pub stay_all : SeatsStayAll n s after
  stay_all = record {
    same = λ traces held. record {
      traces = λ j g at. all.traces j g (ap (λ xs. slice_get xs j) (sym traces) ∙ at);
      held = λ j names name at has. all.held j names name (ap (λ xs. slice_get xs j) (sym held) ∙ at) has;
    };
    traces = λ i f traces held. record {
      traces = traced i f traces;
      held = λ j names name at has. all.held j names name (ap (λ xs. slice_get xs j) (sym held) ∙ at) has;
    };
    held = λ m f names low traces held. record {
      traces = traced m f traces;
      held = λ j others name at has.
          ⊎_elim (λ t. subst (λ x. x < n.mutators) (sym t.0) low) (λ t. all.held j others name t.1 has)
          (get_set_cases s.facets.names.held m j names others (ap (λ xs. slice_get xs j) (sym held) ∙ at));
    };
  }

pub steps_add_no_facet : StepsAddNoFacet
steps_add_no_facet n s after all = stay_all n s after all
