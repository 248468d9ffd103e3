-- A step of an evacuation keeps its numbers in their ranges, and lowers the rank of its job.
use Rattle.std.proofs.Common.{◌≡◌, ℕ, Bool, false, not, ◌+◌, ◌*◌, ◌<◌, ◌≤◌, ◌==◌, if◌then◌else◌, refl, sym, ap, ◌∙◌}
use Rattle.std.proofs.Common.{subst, arith}
use Rattle.mako_words.specs.Entries.{entry_at, FitsEntry}
use Rattle.mako_step.specs.Machines.{IsAct, Lowers}
use Rattle.mako_step.specs.declared.step.Step.{Step}
use Rattle.mako_step.specs.declared.step.Step.TheVariants.{Do, Ended as NoStep}
use Rattle.mako_step.proofs.Cases.{by_lt, by_bool}
use Rattle.mako_gate.specs.Shutting.{is_counting}
use Rattle.mako_record.specs.Copying as copying
use Rattle.mako_record.specs.Copying.{Copying as Copy, opening_copy}
use Rattle.mako_record.proofs.Going.{copy_goes, copy_known}
use Rattle.mako_evac.specs.declared.owner.Owner.{Owner}
use Rattle.mako_evac.specs.declared.stage.EvacStage.{EvacStage}
use Rattle.mako_evac.specs.declared.stage.EvacStage.TheVariants.{Evacuating, Freeing, AwaitingEnd, TellingEnd, Ended}
use Rattle.mako_evac.specs.declared.tablet.TabletStage.{TabletStage}
use Rattle.mako_evac.specs.declared.tablet.TabletStage.TheVariants.{LoadingLeaving, Shutting, Draining, LoadingHome}
use Rattle.mako_evac.specs.declared.tablet.TabletStage.TheVariants.{LoadingEntry, Copying, Clearing, Reopening}
use Rattle.mako_evac.specs.declared.freeing.FreeStage.{FreeStage}
use Rattle.mako_evac.specs.declared.freeing.FreeStage.TheVariants.{Loading, Storing, Awaiting, Telling}
use Rattle.mako_evac.specs.Owners.{IsOwner, IsOwnTablet, IsOwnEntry, first_tablet, tablets_end, first_entry, is_left}
use Rattle.mako_evac.specs.Owners.{is_dead}
use Rattle.mako_evac.specs.Passing.{at_tablet, at_record, at_entry}
use Rattle.mako_evac.specs.Tablets.{copy_fed, tablet_fed, TabletFits, tablet_waits, tablet_renewed, tablet_rank, ends}
use Rattle.mako_evac.specs.Tablets.{IsPlaced, TabletIsKnown}
use Rattle.mako_evac.specs.Freeing.{free_fed, FreeFits, free_waits, free_renewed, free_rank, FreeIsKnown}
use Rattle.mako_evac.specs.Evacuating.{Evacuation, next_of, stage_next, slot_of, stage_fed, told_at, at_fed, fed}
use Rattle.mako_evac.specs.Evacuating.{StageFits, Fits, stage_waits, is_waiting, stage_renewed, is_renewed, stage_rank}
use Rattle.mako_evac.specs.Evacuating.{rank, StageIsKnown, IsKnown}
use Rattle.mako_evac.proofs.Bounds.{record_within, has_entry, after_below}

-- a stage that is known, of a lower rank but for a look that waits
pub record GoesOn (o : Owner) (waits renewed : Bool) (r : ℕ) (stage : EvacStage) : Type 0 where
  pub known : StageIsKnown o stage
  pub lower : waits ≡ false → Lowers renewed r (stage_rank stage)

-- a tablet that is due is its own
pub tablet_known : (o : Owner) (t : ℕ) → IsOwner o → first_tablet o ≤ t → StageIsKnown o (at_tablet o t)
tablet_known o t owner from = by_lt
    (λ b. StageIsKnown o
    (if b then Evacuating t LoadingLeaving else Freeing (first_entry o.shape (first_tablet o)) Loading)) t
    (tablets_end o)
    (λ l. (record { from = from; below = l }, tt))
    (λ _. (record { from = omega arith; below = has_entry o owner }, tt))

pub record_known : (o : Owner) (t region x : ℕ) → IsOwnTablet o t
    → region < o.shape.servers * (o.shape.tablets + o.shape.spare) → first_entry o.shape t ≤ x →
    StageIsKnown o (at_record o t region x)
record_known o t region x own home from = by_lt
    (λ b. StageIsKnown o (if b then Evacuating t (LoadingEntry region x) else Evacuating t Clearing)) x
    (first_entry o.shape (t + 1))
    (λ l. (own, record { entry_is = record { from = from; below = l }; home_is = home }))
    (λ _. (own, tt))

pub entry_known : (o : Owner) (x : ℕ) → first_entry o.shape (first_tablet o) ≤ x → StageIsKnown o (at_entry o x)
entry_known o x from = by_lt
    (λ b. StageIsKnown o (if b then Freeing x Loading else AwaitingEnd)) x (first_entry o.shape (tablets_end o))
    (λ l. (record { from = from; below = l }, tt))
    (λ _. tt)

-- each word is that of an entry whose numbers fit their bits
pub entry_fits : (w : ℕ) → FitsEntry (entry_at w)
entry_fits w = record { address = omega arith; epoch = omega arith; generation = omega arith }

-- behind an entry of the tablet
pub next_record_known : (o : Owner) (t region x : ℕ) → IsOwnTablet o t → IsPlaced o t region x
    → StageIsKnown o (at_record o t region (x + 1))
next_record_known o t region x own placed =
    let from = placed.entry_is.from in
    record_known o t region (x + 1) own placed.home_is (omega (arith, from))

-- the copy after its step, by what it does next
copy_on : (o : Owner) (t region x r : ℕ) (copy : Copy) (next : Step) → copying.next_of copy ≡ next → IsOwnTablet o t
    → IsPlaced o t region x →
    copying.IsKnown copy → copy.shape ≡ o.shape → copy.number ≡ x → copy.home ≡ region → copying.rank copy < r →
    GoesOn o false (ends next) r (copy_fed o t region x copy next)
copy_on o t region x r copy (Do act) at own placed known shape number home lower = record {
  known = (
    own,
    (
      placed,
      record {
        known = known;
        acts = subst IsAct (sym at) tt;
        shape = shape;
        number = number;
        home = home;
      },
    ),
  );
  lower = λ _. lower;
}
copy_on o t region x r copy NoStep at own placed known shape number home lower = record {
  known = next_record_known o t region x own placed;
  lower = λ _. omega (arith, lower);
}

tablet_goes : (o : Owner) (t : ℕ) (s : TabletStage) (w : ℕ) → IsOwner o → IsOwnTablet o t → TabletIsKnown o t s
    → TabletFits o s w →
    GoesOn o (tablet_waits s w) (tablet_renewed o s w) (tablet_rank s) (tablet_fed o t s w)
tablet_goes o t LoadingLeaving w owner own known fits =
    let from = own.from in
    by_bool (λ b. GoesOn o false b 4 (if b then at_tablet o (t + 1) else Evacuating t Shutting)) (w == 0)
    (λ _. record { known = tablet_known o (t + 1) owner (omega (arith, from)); lower = λ _. omega arith })
    (λ _. record { known = (own, tt); lower = λ _. omega arith })
tablet_goes o t Shutting w owner own known fits = record { known = (own, tt); lower = λ _. omega arith }
tablet_goes o t Draining w owner own known fits =
    by_bool (λ b. GoesOn o b false 2 (if b then Evacuating t Draining else Evacuating t LoadingHome)) (is_counting w)
    (λ _. record { known = (own, tt); lower = λ e. absurd (cc) })
    (λ _. record { known = (own, tt); lower = λ _. omega arith })
tablet_goes o t LoadingHome w owner own known fits =
    record { known = record_known o t w (first_entry o.shape t) own fits (omega arith); lower = λ _. omega arith }
tablet_goes o t (LoadingEntry region x) w owner own known fits =
    by_bool (λ b. GoesOn o false (not b) 34
    (if b then Evacuating t
    (Copying region x (opening_copy o.shape x (entry_at w) region)) else at_record o t region (x + 1)))
    (is_left o region (entry_at w))
    (λ left. record {
      known = (
        own,
        (
          known,
          record {
            known = record {
              shape = owner.shape;
              number = record_within o t x owner own known.entry_is;
              fits = entry_fits w;
              address = fits left;
              home = known.home_is;
              stage = tt;
            };
            acts = tt;
            shape = refl;
            number = refl;
            home = refl;
          },
        ),
      );
      lower = λ _. omega arith;
    })
    (λ _. record { known = next_record_known o t region x own known; lower = λ _. omega arith })
tablet_goes o t (Copying region x copy) w owner own known fits =
    let of = known.1 in
    let after = copy_goes copy w of.known fits of.acts in
    copy_on o t region x (copying.rank copy) (copying.fed copy w)
    (copying.next_of (copying.fed copy w)) refl own known.0
    (copy_known copy w of.known fits of.acts) of.shape of.number of.home after.lower
tablet_goes o t Clearing w owner own known fits = record { known = (own, tt); lower = λ _. omega arith }
tablet_goes o t Reopening w owner own known fits =
    let from = own.from in
    record { known = tablet_known o (t + 1) owner (omega (arith, from)); lower = λ _. omega arith }

next_entry_known : (o : Owner) (x : ℕ) → IsOwnEntry o x → StageIsKnown o (at_entry o (x + 1))
next_entry_known o x own = let from = own.from in entry_known o (x + 1) (omega (arith, from))

free_goes : (o : Owner) (x : ℕ) (s : FreeStage) (w : ℕ) → IsOwnEntry o x → FreeIsKnown s → FreeFits o s w →
    GoesOn o (free_waits s w) (free_renewed o s w) (free_rank s) (free_fed o x s w)
free_goes o x Loading w own known fits =
    by_bool (λ b. GoesOn o false (not b) 4
    (if b then Freeing x (Storing (entry_at w).generation) else at_entry o (x + 1))) (is_dead o (entry_at w))
    (λ dead. record { known = (own, fits dead); lower = λ _. omega arith })
    (λ _. record { known = next_entry_known o x own; lower = λ _. omega arith })
free_goes o x (Storing generation) w own known fits = record { known = (own, known); lower = λ _. omega arith }
free_goes o x (Awaiting generation) w own known fits =
    by_bool (λ b. GoesOn o (not b) false 2
    (if b then Freeing x (Telling generation) else Freeing x (Awaiting generation))) (w == 0)
    (λ _. record { known = (own, known); lower = λ _. omega arith })
    (λ _. record { known = (own, known); lower = λ e. absurd (cc) })
free_goes o x (Telling generation) w own known fits = record {
  known = next_entry_known o x own;
  lower = λ _. omega arith;
}

pub stage_goes : (o : Owner) (slot : ℕ) (s : EvacStage) (w : ℕ) → IsOwner o → StageIsKnown o s → StageFits o s w
    → IsAct (stage_next o slot s) →
    GoesOn o (stage_waits s w) (stage_renewed o s w) (stage_rank s) (stage_fed o s w)
stage_goes o slot (Evacuating t s) w owner known fits acts = tablet_goes o t s w owner known.0 known.1 fits
stage_goes o slot (Freeing x s) w owner known fits acts = free_goes o x s w known.0 known.1 fits
stage_goes o slot AwaitingEnd w owner known fits acts =
    by_bool (λ b. GoesOn o (not b) false 2 (if b then TellingEnd else AwaitingEnd)) (w == 0)
    (λ _. record { known = tt; lower = λ _. omega arith })
    (λ _. record { known = tt; lower = λ e. absurd (cc) })
stage_goes o slot TellingEnd w owner known fits acts = record { known = tt; lower = λ _. omega arith }
stage_goes o slot Ended w owner known fits acts = absurd acts

told_below : (size at : ℕ) (s : FreeStage) → at < size → told_at size at s < size
told_below size at Loading h = h
told_below size at (Storing generation) h = h
told_below size at (Awaiting generation) h = h
told_below size at (Telling generation) h = after_below size at h

at_below : (size at : ℕ) (s : EvacStage) → at < size → at_fed size at s < size
at_below size at (Evacuating t s) h = h
at_below size at (Freeing x s) h = told_below size at s h
at_below size at AwaitingEnd h = h
at_below size at TellingEnd h = after_below size at h
at_below size at Ended h = h

pub step_goes : (v : Evacuation) (w : ℕ) → IsKnown v → Fits v w → IsAct (next_of v)
    → GoesOn v.owner (is_waiting v w) (is_renewed v w) (rank v) (fed v w).stage
step_goes v w known fits acts = stage_goes v.owner (slot_of v) v.stage w known.owner known.stage fits acts

-- the evacuation after a step is known
pub step_known : (v : Evacuation) (w : ℕ) → IsKnown v → Fits v w → IsAct (next_of v) → IsKnown (fed v w)
step_known v w known fits acts = record {
  owner = known.owner;
  at = at_below v.owner.shape.ring v.at v.stage known.at;
  stage = (step_goes v w known fits acts).known;
}

-- what the code puts together is the evacuation after the step
pub put_together : (o v : Evacuation) (w at : ℕ) (stage : EvacStage) → o ≡ v
    → at ≡ at_fed v.owner.shape.ring v.at v.stage → stage ≡ stage_fed v.owner v.stage w →
    record { owner = o.owner; at = at; stage = stage } ≡ fed v w
put_together o v w at stage same at_is stage_is =
    let of_old : Evacuation → Evacuation = λ q. record { owner = q.owner; at = at; stage = stage } in
    let of_at : ℕ → Evacuation = λ q. record { owner = v.owner; at = q; stage = stage } in
    let of_stage : EvacStage
    → Evacuation = λ q. record { owner = v.owner; at = at_fed v.owner.shape.ring v.at v.stage; stage = q } in
    ap of_old same ∙ (ap of_at at_is ∙ ap of_stage stage_is)
