-- Low copies fit, and stay low.
use Rattle.std.proofs.Common.{◌≡◌, ℕ, ◌+◌, ◌≤◌, ◌==◌, if◌then◌else◌, List, slice_index, ap, ◌∙◌, sym, subst}
use Rattle.mako_words.specs.Entries.{entry_at}
use Rattle.mako_step.specs.Acts.{found, finds}
use Rattle.mako_step.specs.Machines.{machine_stepped}
use Rattle.mako_step.specs.declared.act.Act.{Act}
use Rattle.mako_step.specs.declared.step.Step.{Step}
use Rattle.mako_step.specs.declared.step.Step.TheVariants.{Do, Ended as NoStep}
use Rattle.mako_step.proofs.Cases.{by_lt, by_bool}
use Rattle.mako_gate.specs.Shutting.{is_counting}
use Rattle.mako_record.specs.Copying as copying
use Rattle.mako_record.specs.Copying.{Copying as Copy, opening_copy}
use Rattle.mako_record.specs.declared.copier.CopyStage.{CopyStage}
use Rattle.mako_record.specs.declared.copier.CopyStage.TheVariants.{LoadingTop, LoadingHeader, StoringHeader}
use Rattle.mako_record.specs.declared.copier.CopyStage.TheVariants.{LoadingField, StoringField, StoringEntry}
use Rattle.mako_record.specs.declared.copier.CopyStage.TheVariants.{RaisingTop, Ended as Copied}
use Rattle.mako_evac.specs.declared.owner.Owner.{Owner}
use Rattle.mako_evac.specs.declared.stage.EvacStage.{EvacStage}
use Rattle.mako_evac.specs.declared.stage.EvacStage.TheVariants.{Evacuating, Freeing, AwaitingEnd, TellingEnd, Ended}
use Rattle.mako_evac.specs.declared.tablet.TabletStage.{TabletStage}
use Rattle.mako_evac.specs.declared.tablet.TabletStage.TheVariants.{LoadingLeaving, Shutting, Draining, LoadingHome}
use Rattle.mako_evac.specs.declared.tablet.TabletStage.TheVariants.{LoadingEntry, Copying, Clearing, Reopening}
use Rattle.mako_evac.specs.declared.freeing.FreeStage.{FreeStage}
use Rattle.mako_evac.specs.declared.freeing.FreeStage.TheVariants.{Loading, Storing, Awaiting, Telling}
use Rattle.mako_evac.specs.Owners.{first_tablet, tablets_end, first_entry, is_left, is_dead}
use Rattle.mako_evac.specs.Passing.{at_tablet, at_record, at_entry}
use Rattle.mako_evac.specs.Tablets.{copy_fed, tablet_fed}
use Rattle.mako_evac.specs.Freeing.{free_fed}
use Rattle.mako_evac.specs.Evacuating.{Evacuation, next_of, stage_fed, fed}
use Rattle.mako_evac.specs.Low.{IsLowStage, IsLowCopy, IsLow, IsLowTablet, KeepsTabletLow, KeepsLow}

before_low : (offset fields field : ℕ) → IsLowStage (copying.before_field offset fields field)
before_low offset fields field =
    by_lt (λ b. IsLowStage (if b then LoadingField offset fields field else StoringEntry offset fields)) field fields
    (λ _. tt) (λ _. tt)

copy_low : (c : Copy) (s : CopyStage) (w : ℕ) → w ≤ 7 → IsLowStage (copying.stage_fed c.shape c.home s w)
copy_low c LoadingTop w small = small
copy_low c (LoadingHeader offset) w small = tt
copy_low c (StoringHeader offset fields) w small = before_low offset fields 0
copy_low c (LoadingField offset fields field) w small = tt
copy_low c (StoringField offset fields field word) w small = before_low offset fields (field + 1)
copy_low c (StoringEntry offset fields) w small = tt
copy_low c (RaisingTop offset fields) w small = tt
copy_low c (Copied address) w small = tt

tablet_low : (o : Owner) (t : ℕ) → IsLow (at_tablet o t)
tablet_low o t = by_lt
    (λ b. IsLow (if b then Evacuating t LoadingLeaving else Freeing (first_entry o.shape (first_tablet o)) Loading)) t
    (tablets_end o) (λ _. tt) (λ _. tt)

record_low : (o : Owner) (t region x : ℕ) → IsLow (at_record o t region x)
record_low o t region x =
    by_lt (λ b. IsLow (if b then Evacuating t (LoadingEntry region x) else Evacuating t Clearing)) x
    (first_entry o.shape (t + 1)) (λ _. tt) (λ _. tt)

entry_low : (o : Owner) (x : ℕ) → IsLow (at_entry o x)
entry_low o x = by_lt (λ b. IsLow (if b then Freeing x Loading else AwaitingEnd)) x
    (first_entry o.shape (tablets_end o)) (λ _. tt) (λ _. tt)

copied_low : (o : Owner) (t region x : ℕ) (after : Copy) (next : Step) → IsLowCopy after
    → IsLow (copy_fed o t region x after next)
copied_low o t region x after (Do act) low = low
copied_low o t region x after NoStep low = record_low o t region (x + 1)

tablet_stays_low : (o : Owner) (t : ℕ) (s : TabletStage) (w : ℕ) → IsLowTablet s → KeepsTabletLow o s w
    → IsLow (tablet_fed o t s w)
tablet_stays_low o t LoadingLeaving w low keeps =
    by_bool (λ b. IsLow (if b then at_tablet o (t + 1) else Evacuating t Shutting)) (w == 0) (λ _. tablet_low o (t + 1))
    (λ _. tt)
tablet_stays_low o t Shutting w low keeps = tt
tablet_stays_low o t Draining w low keeps =
    by_bool (λ b. IsLow (if b then Evacuating t Draining else Evacuating t LoadingHome)) (is_counting w) (λ _. tt)
    (λ _. tt)
tablet_stays_low o t LoadingHome w low keeps = record_low o t w (first_entry o.shape t)
tablet_stays_low o t (LoadingEntry region x) w low keeps =
    by_bool (λ b. IsLow (if b then Evacuating t
    (Copying region x (opening_copy o.shape x (entry_at w) region)) else at_record o t region (x + 1)))
    (is_left o region (entry_at w))
    (λ left. (keeps left, tt)) (λ _. record_low o t region (x + 1))
tablet_stays_low o t (Copying region x copy) w low keeps =
    copied_low o t region x (copying.fed copy w) (copying.next_of (copying.fed copy w))
    (low.0, copy_low copy copy.stage w keeps)
tablet_stays_low o t Clearing w low keeps = tt
tablet_stays_low o t Reopening w low keeps = tablet_low o (t + 1)

free_low : (o : Owner) (x : ℕ) (s : FreeStage) (w : ℕ) → IsLow (free_fed o x s w)
free_low o x Loading w =
    by_bool (λ b. IsLow (if b then Freeing x (Storing (entry_at w).generation) else at_entry o (x + 1)))
    (is_dead o (entry_at w)) (λ _. tt) (λ _. entry_low o (x + 1))
free_low o x (Storing generation) w = tt
free_low o x (Awaiting generation) w =
    by_bool (λ b. IsLow (if b then Freeing x (Telling generation) else Freeing x (Awaiting generation))) (w == 0)
    (λ _. tt) (λ _. tt)
free_low o x (Telling generation) w = entry_low o (x + 1)

pub stays_low : (o : Owner) (s : EvacStage) (w : ℕ) → IsLow s → KeepsLow o s w → IsLow (stage_fed o s w)
stays_low o (Evacuating t s) w low keeps = tablet_stays_low o t s w low keeps
stays_low o (Freeing x s) w low keeps = free_low o x s w
stays_low o AwaitingEnd w low keeps =
    by_bool (λ b. IsLow (if b then TellingEnd else AwaitingEnd)) (w == 0) (λ _. tt) (λ _. tt)
stays_low o TellingEnd w low keeps = tt
stays_low o Ended w low keeps = tt

-- after a step on words that keep it low
pub step_low : (v after : Evacuation) (act : Act) (words : List ℕ) (w : ℕ) → next_of v ≡ Do act
    → w ≡ found act.op (slice_index words act.word) →
    after ≡ machine_stepped (next_of v) v (fed v (finds (next_of v) words)) → IsLow v.stage → KeepsLow v.owner v.stage w
    → IsLow after.stage
step_low v after act words w next is made low keeps =
    let same : after ≡ fed v (found act.op (slice_index words act.word)) = made
    ∙ ap (λ (q : Step). machine_stepped q v (fed v (finds q words))) next in
    subst (λ (q : Evacuation). IsLow q.stage) (sym same)
    (stays_low v.owner v.stage (found act.op (slice_index words act.word)) low
    (subst (KeepsLow v.owner v.stage) is keeps))
