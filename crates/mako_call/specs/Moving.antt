-- The stages of an attempt that moves its object's record into the tablet's home.
use Rattle.std.specs.Prelude.{◌≡◌, ℕ, ◌+◌, ◌*◌, ◌<◌, ◌==◌, if◌then◌else◌}
use Rattle.mako_words.specs.Entries.{entry_at}
use Rattle.mako_words.specs.declared.entry_word.EntryWord.{EntryWord}
use Rattle.mako_shape.specs.declared.numbers.Numbers.{Numbers}
use Rattle.mako_shape.specs.Places.{index, turn, entry}
use Rattle.mako_shape.specs.Belongings.{IsAddress}
use Rattle.mako_step.specs.Acts.{does}
use Rattle.mako_step.specs.declared.act.Op.TheVariants.{Load, Store, Exchange}
use Rattle.mako_step.specs.declared.step.Step.{Step}
use Rattle.mako_record.specs.Regions.{is_in_region}
use Rattle.mako_record.specs.Copying as copying
use Rattle.mako_record.specs.Copying.{Copying, opening_copy}
use Rattle.mako_record.specs.declared.copier.CopyStage.{CopyStage}
use Rattle.mako_record.specs.declared.copier.CopyStage.TheVariants.{LoadingTop, LoadingHeader, StoringHeader}
use Rattle.mako_record.specs.declared.copier.CopyStage.TheVariants.{LoadingField, StoringField, StoringEntry}
use Rattle.mako_record.specs.declared.copier.CopyStage.TheVariants.{RaisingTop, Ended}
use Rattle.mako_model.specs.declared.attempt.Attempt.TheVariants.{Pause as Paused}
use Rattle.mako_model.specs.declared.attempt.Pause.TheVariants.{Busy}
use Rattle.mako_call.specs.declared.caller.Caller.{Caller}
use Rattle.mako_call.specs.declared.object.Errand.{Errand}
use Rattle.mako_call.specs.declared.call_stage.CallStage.{CallStage}
use Rattle.mako_call.specs.declared.call_stage.CallStage.TheVariants.{Moving}
use Rattle.mako_call.specs.declared.moving.MoveStage.{MoveStage}
use Rattle.mako_call.specs.declared.moving.MoveStage.TheVariants.{TakingTurn, LoadingEntry as LoadingAgain}
use Rattle.mako_call.specs.declared.moving.MoveStage.TheVariants.{Copying as Copies, GivingTurn}
use Rattle.mako_call.specs.Objects.{tablet_of, at_object}
use Rattle.mako_call.specs.Leaving.{leaving_tablet}

-- exchange the turn word from 0 to m + 1; load entry; copy; store turn 0
abbrev pub move_next : Caller → Errand → MoveStage → Step
move_next k e (TakingTurn home) = does (index k.shape (turn (tablet_of k.shape e.object))) (Exchange 0 (k.mutator + 1))
move_next k e (LoadingAgain home) = does (index k.shape (entry e.object.entry)) Load
move_next k e (Copies copier) = copying.next_of copier
move_next k e (GivingTurn address) = does (index k.shape (turn (tablet_of k.shape e.object))) (Store 0)

abbrev pub giving_turn : Errand → ℕ → CallStage
giving_turn e address = Moving e (GivingTurn address)

-- under the turn a record that lies in the home by now is left there, and else copied
abbrev pub again_fed : Numbers → Errand → ℕ → EntryWord → CallStage
again_fed n e home found = if is_in_region n home found.address then giving_turn e found.address
    else Moving e (Copies (opening_copy n e.object.entry found home))

-- the turn is given once the copy has ended
abbrev pub copy_fed : Errand → Copying → CopyStage → CallStage
copy_fed e copier LoadingTop = Moving e (Copies copier)
copy_fed e copier (LoadingHeader offset) = Moving e (Copies copier)
copy_fed e copier (StoringHeader offset fields) = Moving e (Copies copier)
copy_fed e copier (LoadingField offset fields field) = Moving e (Copies copier)
copy_fed e copier (StoringField offset fields field word) = Moving e (Copies copier)
copy_fed e copier (StoringEntry offset fields) = Moving e (Copies copier)
copy_fed e copier (RaisingTop offset fields) = Moving e (Copies copier)
copy_fed e copier (Ended address) = giving_turn e address

abbrev pub move_fed : Numbers → Errand → MoveStage → ℕ → CallStage
move_fed n e (TakingTurn home) w =
    if w == 0 then Moving e (LoadingAgain home) else leaving_tablet (tablet_of n e.object)
    (Paused (Busy (tablet_of n e.object) w))
move_fed n e (LoadingAgain home) w = again_fed n e home (entry_at w)
move_fed n e (Copies copier) w = let after = copying.fed copier w in copy_fed e after after.stage
move_fed n e (GivingTurn address) w = at_object e address

-- the record lies in the regions, and its copy fits
abbrev pub MoveFits : Numbers → MoveStage → ℕ → Type 0
MoveFits n (TakingTurn home) w = Unit {0}
MoveFits n (LoadingAgain home) w = IsAddress n (entry_at w).address
MoveFits n (Copies copier) w = copying.Fits copier w
MoveFits n (GivingTurn address) w = Unit {0}

-- the most steps that are left; at the record there are 7, and a copy takes 33
abbrev pub move_rank : MoveStage → ℕ
move_rank (TakingTurn home) = 43
move_rank (LoadingAgain home) = 42
move_rank (Copies copier) = 8 + copying.rank copier
move_rank (GivingTurn address) = 8

-- a copy that has not ended, in this geometry
abbrev pub CopyGoesOn : CopyStage → Type 0
CopyGoesOn (Ended address) = ⊥
CopyGoesOn LoadingTop = Unit {0}
CopyGoesOn (LoadingHeader offset) = Unit {0}
CopyGoesOn (StoringHeader offset fields) = Unit {0}
CopyGoesOn (LoadingField offset fields field) = Unit {0}
CopyGoesOn (StoringField offset fields field word) = Unit {0}
CopyGoesOn (StoringEntry offset fields) = Unit {0}
CopyGoesOn (RaisingTop offset fields) = Unit {0}

abbrev pub MoveIsKnown : Numbers → MoveStage → Type 0
MoveIsKnown n (TakingTurn home) = home < n.servers * (n.tablets + n.spare)
MoveIsKnown n (LoadingAgain home) = home < n.servers * (n.tablets + n.spare)
MoveIsKnown n (Copies copier) = copying.IsKnown copier × CopyGoesOn copier.stage × (copier.shape ≡ n)
MoveIsKnown n (GivingTurn address) = IsAddress n address
