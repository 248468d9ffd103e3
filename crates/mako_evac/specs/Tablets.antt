-- An evacuation at one tablet.
use Rattle.std.specs.Prelude.{◌≡◌, ℕ, Bool, true, false, not, ◌+◌, ◌*◌, ◌<◌, ◌==◌, if◌then◌else◌}
use Rattle.mako_words.specs.Entries.{entry_at}
use Rattle.mako_words.specs.Gates.{IsPackedGate}
use Rattle.mako_words.specs.Words.{all_but}
use Rattle.mako_words.specs.declared.entry_word.EntryWord.{EntryWord}
use Rattle.mako_shape.specs.Places.{index, leaving, tablet_gate, home, entry}
use Rattle.mako_shape.specs.Belongings.{IsAddress}
use Rattle.mako_step.specs.Acts.{does}
use Rattle.mako_step.specs.Machines.{IsAct}
use Rattle.mako_step.specs.declared.act.Op.TheVariants.{Load, Store, Or, And}
use Rattle.mako_step.specs.declared.step.Step.{Step}
use Rattle.mako_step.specs.declared.step.Step.TheVariants.{Do, Ended as NoStep}
use Rattle.mako_gate.specs.Bits.{shut_bit}
use Rattle.mako_gate.specs.Shutting.{is_counting}
use Rattle.mako_record.specs.Copying as copying
use Rattle.mako_record.specs.Copying.{Copying as Copy, opening_copy}
use Rattle.mako_evac.specs.declared.owner.Owner.{Owner}
use Rattle.mako_evac.specs.declared.stage.EvacStage.{EvacStage}
use Rattle.mako_evac.specs.declared.stage.EvacStage.TheVariants.{Evacuating}
use Rattle.mako_evac.specs.declared.tablet.TabletStage.{TabletStage}
use Rattle.mako_evac.specs.declared.tablet.TabletStage.TheVariants.{LoadingLeaving, Shutting, Draining, LoadingHome}
use Rattle.mako_evac.specs.declared.tablet.TabletStage.TheVariants.{LoadingEntry, Copying, Clearing, Reopening}
use Rattle.mako_evac.specs.Owners.{first_entry, IsEntryOf, is_left}
use Rattle.mako_evac.specs.Passing.{at_tablet, at_record}

-- load leaving; or the shut bit into the gate; look at the gate; load home; load each entry, and copy; store leaving 0;
-- and the shut bit away
abbrev pub tablet_next : Owner → ℕ → TabletStage → Step
tablet_next o t LoadingLeaving = does (index o.shape (leaving t)) Load
tablet_next o t Shutting = does (index o.shape (tablet_gate t)) (Or shut_bit)
tablet_next o t Draining = does (index o.shape (tablet_gate t)) Load
tablet_next o t LoadingHome = does (index o.shape (home t)) Load
tablet_next o t (LoadingEntry region x) = does (index o.shape (entry x)) Load
tablet_next o t (Copying region x copy) = copying.next_of copy
tablet_next o t Clearing = does (index o.shape (leaving t)) (Store 0)
tablet_next o t Reopening = does (index o.shape (tablet_gate t)) (And (all_but shut_bit))

-- a record that is left behind is copied, and any other passed over
abbrev pub record_fed : Owner → ℕ → ℕ → ℕ → EntryWord → EvacStage
record_fed o t region x e =
    if is_left o region e then Evacuating t
    (Copying region x (opening_copy o.shape x e region)) else at_record o t region (x + 1)

-- a copy goes on, or past its end the next entry is due
abbrev pub copy_fed : Owner → ℕ → ℕ → ℕ → Copy → Step → EvacStage
copy_fed o t region x copy (Do act) = Evacuating t (Copying region x copy)
copy_fed o t region x copy NoStep = at_record o t region (x + 1)

abbrev pub tablet_fed : Owner → ℕ → TabletStage → ℕ → EvacStage
tablet_fed o t LoadingLeaving w = if w == 0 then at_tablet o (t + 1) else Evacuating t Shutting
tablet_fed o t Shutting w = Evacuating t Draining
tablet_fed o t Draining w = if is_counting w then Evacuating t Draining else Evacuating t LoadingHome
tablet_fed o t LoadingHome w = at_record o t w (first_entry o.shape t)
tablet_fed o t (LoadingEntry region x) w = record_fed o t region x (entry_at w)
tablet_fed o t (Copying region x copy) w = let after = copying.fed copy w in
    copy_fed o t region x after (copying.next_of after)
tablet_fed o t Clearing w = Evacuating t Reopening
tablet_fed o t Reopening w = at_tablet o (t + 1)

-- a gate's word is that of a gate, a home is a region, and a record that is to be copied has an address
abbrev pub TabletFits : Owner → TabletStage → ℕ → Type 0
TabletFits o Draining w = IsPackedGate w
TabletFits o LoadingHome w = w < o.shape.servers * (o.shape.tablets + o.shape.spare)
TabletFits o (LoadingEntry region x) w = is_left o region (entry_at w) ≡ true → IsAddress o.shape (entry_at w).address
TabletFits o (Copying region x copy) w = copying.Fits copy w
TabletFits o _ w = Unit {0}

-- a look waits while somebody is counted at the gate
abbrev pub tablet_waits : TabletStage → ℕ → Bool
tablet_waits Draining w = is_counting w
tablet_waits _ w = false

abbrev pub ends : Step → Bool
ends (Do act) = false
ends NoStep = true

-- a job is the way to a tablet's records, one record, or a tablet's end
abbrev pub tablet_renewed : Owner → TabletStage → ℕ → Bool
tablet_renewed o LoadingLeaving w = w == 0
tablet_renewed o Shutting w = false
tablet_renewed o Draining w = false
tablet_renewed o LoadingHome w = true
tablet_renewed o (LoadingEntry region x) w = not (is_left o region (entry_at w))
tablet_renewed o (Copying region x copy) w = ends (copying.next_of (copying.fed copy w))
tablet_renewed o Clearing w = false
tablet_renewed o Reopening w = true

-- the most steps that the job still takes; a copy takes 33
abbrev pub tablet_rank : TabletStage → ℕ
tablet_rank LoadingLeaving = 4
tablet_rank Shutting = 3
tablet_rank Draining = 2
tablet_rank LoadingHome = 1
tablet_rank (LoadingEntry region x) = 34
tablet_rank (Copying region x copy) = copying.rank copy
tablet_rank Clearing = 2
tablet_rank Reopening = 1

-- the entry is one of the tablet, and the home a region
pub record IsPlaced (o : Owner) (t region x : ℕ) : Type 0 where
  pub entry_is : IsEntryOf o.shape t x
  pub home_is : region < o.shape.servers * (o.shape.tablets + o.shape.spare)

-- the copy is that of this entry into this region, and has not ended
pub record IsCopyOf (o : Owner) (region x : ℕ) (copy : Copy) : Type 0 where
  pub known : copying.IsKnown copy
  pub acts : IsAct (copying.next_of copy)
  pub shape : copy.shape ≡ o.shape
  pub number : copy.number ≡ x
  pub home : copy.home ≡ region

abbrev pub TabletIsKnown : Owner → ℕ → TabletStage → Type 0
TabletIsKnown o t (LoadingEntry region x) = IsPlaced o t region x
TabletIsKnown o t (Copying region x copy) = IsPlaced o t region x × IsCopyOf o region x copy
TabletIsKnown o t _ = Unit {0}
