-- Where a server's evacuation begins, and where it ends.
use Rattle.std.proofs.Common.{◌≡◌, ℕ, ◌+◌, ◌*◌, ◌<◌, sym, ap, subst, refl, arith, add-mul}
use Rattle.mako_step.specs.Machines.{IsAct}
use Rattle.mako_step.specs.declared.step.Step.TheVariants.{Ended as NoStep}
use Rattle.mako_step.proofs.Cases.{when_lt}
use Rattle.mako_evac.specs.declared.owner.Owner.{Owner}
use Rattle.mako_evac.specs.declared.stage.EvacStage.{EvacStage}
use Rattle.mako_evac.specs.declared.stage.EvacStage.TheVariants.{Evacuating, Freeing, AwaitingEnd, TellingEnd, Ended}
use Rattle.mako_evac.specs.declared.tablet.TabletStage.{TabletStage}
use Rattle.mako_evac.specs.declared.tablet.TabletStage.TheVariants.{LoadingLeaving, Shutting, Draining, LoadingHome}
use Rattle.mako_evac.specs.declared.tablet.TabletStage.TheVariants.{LoadingEntry, Copying, Clearing, Reopening}
use Rattle.mako_evac.specs.declared.freeing.FreeStage.{FreeStage}
use Rattle.mako_evac.specs.declared.freeing.FreeStage.TheVariants.{Loading, Storing, Awaiting, Telling}
use Rattle.mako_evac.specs.Owners.{IsOwner, first_tablet, tablets_end, first_entry}
use Rattle.mako_evac.specs.Tablets.{tablet_next, TabletIsKnown}
use Rattle.mako_evac.specs.Freeing.{free_next}
use Rattle.mako_evac.specs.Evacuating.{opening, stage_next, slot_of, StageIsKnown}
use Rattle.mako_clearing.specs.Clearing.{ClearingStands}
use Rattle.mako_clearing.specs.Turning.{at_first, EvacuationsBegin, EvacuationsEnd}

first_below : (o : Owner) → IsOwner o → first_tablet o < tablets_end o
first_below o known =
    let some = known.shape.in_range.each.2.2.0 in
    let e : (o.server + 1) * o.shape.tablets ≡ o.server * o.shape.tablets + 1 * o.shape.tablets =
    add-mul o.server 1 o.shape.tablets in
    omega arith

begins_at : (o : Owner) (at : ℕ) → IsOwner o → opening o at ≡ at_first o at
begins_at o at known =
    ap (λ (stage : EvacStage). record { owner = o; at = at; stage = stage })
    (when_lt (λ stage. stage ≡ Evacuating (first_tablet o) LoadingLeaving) (Evacuating (first_tablet o) LoadingLeaving)
    (Freeing (first_entry o.shape (first_tablet o)) Loading) (first_tablet o) (tablets_end o) (λ low. refl)
    (λ high. absurd (let low = first_below o known in omega arith)))

pub evacuations_begin : EvacuationsBegin
evacuations_begin n w s o at ended laden taker sent known shape low =
    let is = begins_at o at known in record {
      is = is;
      stands = λ seat sending.
          subst (λ v. ClearingStands n w s v ended laden taker sent) (sym is)
          (record {
            known = record {
              owner = known;
              at = subst (λ k. at < k.ring) (sym shape) low;
              stage = (record { from = omega arith; below = first_below o known }, tt);
            };
            shape = shape;
            facets = seat;
            sending = sending;
            knows = tt;
          });
    }

tablet_acts : (o : Owner) (t : ℕ) (stage : TabletStage) → TabletIsKnown o t stage → tablet_next o t stage ≡ NoStep → ⊥
tablet_acts o t LoadingLeaving known e = cc
tablet_acts o t Shutting known e = cc
tablet_acts o t Draining known e = cc
tablet_acts o t LoadingHome known e = cc
tablet_acts o t (LoadingEntry region x) known e = cc
tablet_acts o t (Copying region x copy) known e = subst IsAct e known.1.acts
tablet_acts o t Clearing known e = cc
tablet_acts o t Reopening known e = cc

free_acts : (o : Owner) (slot x : ℕ) (stage : FreeStage) → free_next o slot x stage ≡ NoStep → ⊥
free_acts o slot x Loading e = cc
free_acts o slot x (Storing generation) e = cc
free_acts o slot x (Awaiting generation) e = cc
free_acts o slot x (Telling generation) e = cc

ends_at : (o : Owner) (slot : ℕ) (stage : EvacStage) → StageIsKnown o stage → stage_next o slot stage ≡ NoStep
    → stage ≡ Ended
ends_at o slot (Evacuating t stage) known e = absurd (tablet_acts o t stage known.1 e)
ends_at o slot (Freeing x stage) known e = absurd (free_acts o slot x stage e)
ends_at o slot AwaitingEnd known e = absurd (let b : ⊥ = cc in b)
ends_at o slot TellingEnd known e = absurd (let b : ⊥ = cc in b)
ends_at o slot Ended known e = refl

pub evacuations_end : EvacuationsEnd
evacuations_end v known e = ends_at v.owner (slot_of v) v.stage known.stage e
