-- Openings are in order, and so is what steps lead to from there.
use Rattle.std.proofs.Common.{◌≡◌, ◌≢◌, ℕ, inl, ⊎_elim, List, [], length, map, slice_get, Some, sym, ap, subst, refl}
use Rattle.std.proofs.Common.{◌∙◌, arith}
use Rattle.std.proofs.lemmas.Bool.{cases_eq}
use Rattle.std.proofs.lemmas.Option.{same_Some}
use Rattle.mako_shape.specs.declared.numbers.Numbers.{Numbers}
use Rattle.mako_shape.specs.Limits.{IsShape}
use Rattle.mako_shape.specs.Places.{Place, phase, demand, barrier, work, ghost, notice, leaving, entry, Within, word_at}
use Rattle.mako_shape.specs.Places.{total}
use Rattle.mako_names.specs.Tables.{entry_of}
use Rattle.mako_names.specs.Uses.{IsUseSlot}
use Rattle.mako_phases.specs.Facets.{idle, ServerStage, resting, Admission, PhaseFacet, mutating, serving, collecting}
use Rattle.mako_phases.specs.Facets.{role_of}
use Rattle.mako_phases.specs.Orders.{IsResting, IsAtOwn, IsAtLeaving, SeatStands, AreSeated, PhaseOrder}
use Rattle.mako_phases.specs.Steps.{PhaseScene, PhaseOrderIn, IsPhaseWord}
use Rattle.mako_phases.specs.Reaching.{IsOpeningFacet, IsRootOrEntry, IsPhaseOpening, PhaseReached, Opens, Goes}
use Rattle.mako_phases.proofs.AllPhases.{phase_kept}

in_order : (n : Numbers) (words : List ℕ) (facets : List PhaseFacet) (seat : ℕ) → IsShape n
    → length words ≡ total n
    → slice_get facets seat ≡ Some (collecting (idle 0) [])
    → ((other : ℕ) (f : PhaseFacet) → slice_get facets other ≡ Some f → other ≢ seat → IsOpeningFacet n f)
    → AreSeated n (map role_of facets)
    → ((p : Place) → IsPhaseWord p → (¬ IsRootOrEntry p) → Within n p → word_at n words p ≡ 0)
    → ((e : ℕ) → Within n (entry e) → (entry_of n words e).epoch ≡ 0)
    → PhaseOrder n words facets
in_order n words facets seat shape size here others seated none epochs = record {
  shape = shape;
  seat = seat;
  part = idle 0;
  pending = [];
  here = here;
  words_stand = record {
    size = size;
    phase_is = none phase tt (λ x. x) tt;
    bound = omega arith;
    asked = (let e = none demand tt (λ x. x) tt in omega arith);
    slots = λ rest p is within. slot p is within;
    pends = refl;
    leavings = λ t within. inl (none (leaving t) tt (λ x. x) within);
    tellers = λ s k within e. absurd (let z = none (notice s k) tt (λ x. x) within in omega arith);
    tell_once = λ s k j in_k in_j e f. absurd (let z = none (notice s k) tt (λ x. x) in_k in omega arith);
    epochs = λ e within. let z = epochs e within in omega arith;
  };
  each = λ other f at.
      ⊎_elim (λ same. at_seat other f same at) (λ ne. stands f (others other f at ne)) (cases_eq other seat);
  seated = seated;
}
  where
    slot : (p : Place) → IsUseSlot p → Within n p → word_at n words p ≡ 0
    slot (barrier m k) is within = none (barrier m k) tt (λ x. x) within
    slot (work s k) is within = none (work s k) tt (λ x. x) within
    slot (ghost a b k) is within = none (ghost a b k) tt (λ x. x) within
    slot p is within = absurd is

    at_seat : (other : ℕ) (f : PhaseFacet) → other ≡ seat → slice_get facets other ≡ Some f
        → SeatStands n words (idle 0) f
    at_seat other f same at =
        subst (SeatStands n words (idle 0))
        (same_Some (collecting (idle 0) []) f (sym here ∙ ap (slice_get facets) (sym same) ∙ at)) tt

    rests : (stage : ServerStage) → stage ≡ resting → IsResting stage
    rests stage e = subst IsResting (sym e) tt

    stands : (f : PhaseFacet) → IsOpeningFacet n f → SeatStands n words (idle 0) f
    stands (mutating admission) is = subst (λ (s : Admission). SeatStands n words (idle 0) (mutating s)) (sym is) tt
    stands (collecting part pending) is = absurd is
    stands (serving s stage ended laden) is = record {
      known = is.0;
      fits = (rests stage is.1, is.2);
      rests = λ r. is.3;
      own = subst (IsAtOwn n s) (sym is.1) tt;
      passed = λ u within own has. none (leaving u) tt (λ x. x) within;
      at_leaving = λ u at. absurd (subst (λ (g : ServerStage). IsAtLeaving g u) is.1 at);
      told = λ k within e. absurd (let z = none (notice s k) tt (λ x. x) within in omega arith);
    }

pub opening_order : (n : Numbers) (s : PhaseScene) → IsPhaseOpening n s → PhaseOrderIn n s
opening_order n s is =
    in_order n s.words s.facets is.seat is.shape is.size is.here is.others is.seated is.words is.epochs

pub reached_order : (n : Numbers) (s : PhaseScene) → PhaseReached n s → PhaseOrderIn n s
reached_order n s (Opens t is) = opening_order n s is
reached_order n after (Goes s next reached drained step) = phase_kept n s after (reached_order n s reached) drained step
