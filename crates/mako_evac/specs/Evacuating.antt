-- The machine of a server's evacuation.
use Rattle.std.specs.Prelude.{ℕ, Bool, false, not, ◌<◌, ◌==◌, if◌then◌else◌}
use Rattle.mako_words.specs.Notices.{notice_word}
use Rattle.mako_words.specs.declared.notice_word.NoticeWord.TheVariants.{Done}
use Rattle.mako_shape.specs.Places.{index, notice}
use Rattle.mako_step.specs.Acts.{does}
use Rattle.mako_step.specs.declared.act.Op.TheVariants.{Load, Store}
use Rattle.mako_step.specs.declared.step.Step.{Step}
use Rattle.mako_step.specs.declared.step.Step.TheVariants.{Ended as NoStep}
use Rattle.mako_ring.specs.Contents.{after_place}
use Rattle.mako_evac.specs.declared.owner.Owner.{Owner}
use Rattle.mako_evac.specs.declared.stage.EvacStage.{EvacStage}
use Rattle.mako_evac.specs.declared.stage.EvacStage.TheVariants.{Evacuating, Freeing, AwaitingEnd, TellingEnd, Ended}
use Rattle.mako_evac.specs.declared.freeing.FreeStage.{FreeStage}
use Rattle.mako_evac.specs.declared.freeing.FreeStage.TheVariants.{Loading, Storing, Awaiting, Telling}
use Rattle.mako_evac.specs.Owners.{IsOwner, first_tablet, IsOwnTablet, IsOwnEntry}
use Rattle.mako_evac.specs.Passing.{at_tablet}
use Rattle.mako_evac.specs.Tablets.{tablet_next, tablet_fed, TabletFits, tablet_waits, tablet_renewed, tablet_rank}
use Rattle.mako_evac.specs.Tablets.{TabletIsKnown}
use Rattle.mako_evac.specs.Freeing.{free_next, free_fed, FreeFits, free_waits, free_renewed, free_rank, FreeIsKnown}

-- whose it is, the slot of its notice ring for the next notice, and the stage
pub record Evacuation : Type 0 where
  pub owner : Owner
  pub at : ℕ
  pub stage : EvacStage

-- at the beginning: at the first tablet
abbrev pub opening : Owner → ℕ → Evacuation
opening o at = record { owner = o; at = at; stage = at_tablet o (first_tablet o) }

-- the index of a slot of the server's notice ring
abbrev pub slot_at : Owner → ℕ → ℕ
slot_at o at = index o.shape (notice o.server at)

abbrev pub slot_of : Evacuation → ℕ
slot_of v = slot_at v.owner v.at

-- each tablet; each entry; look at the notice slot; store Done
abbrev pub stage_next : Owner → ℕ → EvacStage → Step
stage_next o slot (Evacuating t stage) = tablet_next o t stage
stage_next o slot (Freeing x stage) = free_next o slot x stage
stage_next o slot AwaitingEnd = does slot Load
stage_next o slot TellingEnd = does slot (Store (notice_word Done))
stage_next o slot Ended = NoStep

abbrev pub next_of : Evacuation → Step
next_of v = stage_next v.owner (slot_of v) v.stage

abbrev pub stage_fed : Owner → EvacStage → ℕ → EvacStage
stage_fed o (Evacuating t stage) w = tablet_fed o t stage w
stage_fed o (Freeing x stage) w = free_fed o x stage w
stage_fed o AwaitingEnd w = if w == 0 then TellingEnd else AwaitingEnd
stage_fed o TellingEnd w = Ended
stage_fed o Ended w = Ended

-- the slot for the next notice is the one behind, after a notice
abbrev pub told_at : ℕ → ℕ → FreeStage → ℕ
told_at size at Loading = at
told_at size at (Storing generation) = at
told_at size at (Awaiting generation) = at
told_at size at (Telling generation) = after_place size at

abbrev pub at_fed : ℕ → ℕ → EvacStage → ℕ
at_fed size at (Evacuating t stage) = at
at_fed size at (Freeing x stage) = told_at size at stage
at_fed size at AwaitingEnd = at
at_fed size at TellingEnd = after_place size at
at_fed size at Ended = at

abbrev pub fed : Evacuation → ℕ → Evacuation
fed v w = record { owner = v.owner; at = at_fed v.owner.shape.ring v.at v.stage; stage = stage_fed v.owner v.stage w }

abbrev pub StageFits : Owner → EvacStage → ℕ → Type 0
StageFits o (Evacuating t stage) w = TabletFits o stage w
StageFits o (Freeing x stage) w = FreeFits o stage w
StageFits o AwaitingEnd w = Unit {0}
StageFits o TellingEnd w = Unit {0}
StageFits o Ended w = Unit {0}

abbrev pub Fits : Evacuation → ℕ → Type 0
Fits v w = StageFits v.owner v.stage w

-- looks wait while somebody is counted at a gate, and while a notice slot is full
abbrev pub stage_waits : EvacStage → ℕ → Bool
stage_waits (Evacuating t stage) w = tablet_waits stage w
stage_waits (Freeing x stage) w = free_waits stage w
stage_waits AwaitingEnd w = not (w == 0)
stage_waits TellingEnd w = false
stage_waits Ended w = false

abbrev pub is_waiting : Evacuation → ℕ → Bool
is_waiting v w = stage_waits v.stage w

abbrev pub stage_renewed : Owner → EvacStage → ℕ → Bool
stage_renewed o (Evacuating t stage) w = tablet_renewed o stage w
stage_renewed o (Freeing x stage) w = free_renewed o stage w
stage_renewed o AwaitingEnd w = false
stage_renewed o TellingEnd w = false
stage_renewed o Ended w = false

abbrev pub is_renewed : Evacuation → ℕ → Bool
is_renewed v w = stage_renewed v.owner v.stage w

abbrev pub stage_rank : EvacStage → ℕ
stage_rank (Evacuating t stage) = tablet_rank stage
stage_rank (Freeing x stage) = free_rank stage
stage_rank AwaitingEnd = 2
stage_rank TellingEnd = 1
stage_rank Ended = 0

abbrev pub rank : Evacuation → ℕ
rank v = stage_rank v.stage

-- the numbers are in their ranges
abbrev pub StageIsKnown : Owner → EvacStage → Type 0
StageIsKnown o (Evacuating t stage) = IsOwnTablet o t × TabletIsKnown o t stage
StageIsKnown o (Freeing x stage) = IsOwnEntry o x × FreeIsKnown stage
StageIsKnown o AwaitingEnd = Unit {0}
StageIsKnown o TellingEnd = Unit {0}
StageIsKnown o Ended = Unit {0}

pub record IsKnown (v : Evacuation) : Type 0 where
  pub owner : IsOwner v.owner
  pub at : v.at < v.owner.shape.ring
  pub stage : StageIsKnown v.owner v.stage
