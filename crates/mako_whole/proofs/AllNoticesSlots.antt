-- A server that evacuates stores a notice into the slot that it found empty, and leaves all other notices.
use Rattle.std.proofs.Common.{◌≡◌, ℕ, sym, subst}
use Rattle.mako_step.specs.Acts.{words_stepped}
use Rattle.mako_shape.specs.declared.numbers.Numbers.{Numbers}
use Rattle.mako_shape.specs.Places.{notice, word_at}
use Rattle.mako_model.specs.Legal.{Facts}
use Rattle.mako_joint.specs.Joints.{JointScene}
use Rattle.mako_evac.specs.Evacuating as evacuating
use Rattle.mako_evac.specs.Evacuating.{Evacuation}
use Rattle.mako_evac.specs.declared.owner.Owner.{Owner}
use Rattle.mako_evac.specs.declared.stage.EvacStage.{EvacStage}
use Rattle.mako_evac.specs.declared.stage.EvacStage.TheVariants.{Evacuating as AtTablet, Freeing, AwaitingEnd}
use Rattle.mako_evac.specs.declared.stage.EvacStage.TheVariants.{TellingEnd, Ended as Evacuated}
use Rattle.mako_evac.specs.declared.freeing.FreeStage.TheVariants.{Loading, Storing, Awaiting, Telling}
use Rattle.mako_clearing.specs.Clearing.{StageKnows}
use Rattle.mako_writes.proofs.Servers.{Tells, evacuates}
use Rattle.mako_whole.proofs.AllNotices.{NoticesStay}

slot_empty : (n : Numbers) (w : Facts) (s : JointScene) (o : Owner) (at : ℕ) (stage : EvacStage)
    → StageKnows n w s o at stage → Tells stage → word_at n s.words (notice o.server at) ≡ 0
slot_empty n w s o at (AtTablet t stage) knows tells = absurd tells
slot_empty n w s o at (Freeing x Loading) knows tells = absurd tells
slot_empty n w s o at (Freeing x (Storing generation)) knows tells = absurd tells
slot_empty n w s o at (Freeing x (Awaiting generation)) knows tells = absurd tells
slot_empty n w s o at (Freeing x (Telling generation)) knows tells = knows
slot_empty n w s o at AwaitingEnd knows tells = absurd tells
slot_empty n w s o at TellingEnd knows tells = knows
slot_empty n w s o at Evacuated knows tells = absurd tells

pub notices_left : (n : Numbers) (w : Facts) (s : JointScene) (e : Evacuation) → evacuating.IsKnown e
    → e.owner.shape ≡ n → StageKnows n w s e.owner e.at e.stage
    → NoticesStay n s.words (words_stepped (evacuating.next_of e) s.words)
notices_left n w s e known shape knows =
    let o = e.owner in
    let here : StageKnows o.shape w s o e.at e.stage =
    subst (λ k. StageKnows k w s o e.at e.stage) (sym shape) knows in
    subst (λ k. NoticesStay k s.words (words_stepped (evacuating.next_of e) s.words)) shape
    (λ r slot low small some.
    (evacuates o known.owner e.at known.at e.stage known.stage).rest s.words (notice r slot) (low, small)
    (λ may. some
    (subst (λ k. word_at o.shape s.words (notice k slot) ≡ 0) (sym may.0)
    (subst (λ i. word_at o.shape s.words (notice o.server i) ≡ 0) (sym may.1.0)
    (slot_empty o.shape w s o e.at e.stage here may.1.1)))))
