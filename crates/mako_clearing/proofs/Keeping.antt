-- Each step of a server's evacuation, by its stage.
use Rattle.std.proofs.Common.{◌≡◌, ℕ, Bool, List, sym, subst}
use Rattle.mako_words.specs.declared.name.Name.{Name}
use Rattle.mako_shape.specs.declared.numbers.Numbers.{Numbers}
use Rattle.mako_step.specs.Machines.{IsAct}
use Rattle.mako_model.specs.Legal.{Facts, state_of}
use Rattle.mako_model.specs.Sizes.{ObjectsAreSmall}
use Rattle.mako_evac.specs.declared.stage.EvacStage.{EvacStage}
use Rattle.mako_evac.specs.declared.stage.EvacStage.TheVariants.{Evacuating, Freeing, AwaitingEnd, TellingEnd, Ended}
use Rattle.mako_evac.specs.declared.freeing.FreeStage.TheVariants.{Loading, Storing, Awaiting, Telling}
use Rattle.mako_evac.specs.declared.tablet.TabletStage.{TabletStage}
use Rattle.mako_evac.specs.declared.tablet.TabletStage.TheVariants.{LoadingLeaving, Shutting, Draining, LoadingHome}
use Rattle.mako_evac.specs.declared.tablet.TabletStage.TheVariants.{LoadingEntry, Copying, Clearing, Reopening}
use Rattle.mako_record.specs.declared.copier.CopyStage.{CopyStage}
use Rattle.mako_record.specs.declared.copier.CopyStage.TheVariants as copy
use Rattle.mako_record.specs.Copying.{Copying as Copy}
use Rattle.mako_words.specs.declared.entry_word.EntryWord.{EntryWord}
use Rattle.mako_evac.specs.Evacuating.{next_of}
use Rattle.mako_joint.specs.Joints.{JointScene, Joint}
use Rattle.mako_clearing.specs.Clearing.{ClearingStands, ReadersMatch, ClearingGoesOn, IsFreeing}
use Rattle.mako_clearing.specs.Clearing.{FreeingKeeps, IsAtTablet, TabletsKeep}
use Rattle.mako_clearing.proofs.Freeing.{loading_kept, storing_kept}
use Rattle.mako_clearing.proofs.Telling.{awaiting_kept, awaiting_end_kept, telling_kept, telling_end_kept}
use Rattle.mako_clearing.proofs.Tablets.{leaving_loaded, gate_shut, gate_looked, gate_reopened}
use Rattle.mako_clearing.proofs.Records.{home_loaded, entry_loaded, leaving_cleared}
use Rattle.mako_clearing.proofs.Copies.{copier, copies, top_loaded, header_loaded, field_loaded, header_stored}
use Rattle.mako_clearing.proofs.Copies.{field_stored}
use Rattle.mako_clearing.proofs.CopyEnds.{entry_stored, top_raised}
use Rattle.mako_clearing.proofs.Stages.{at_stage}

freeing_at : (n : Numbers) (w : Facts) (s : JointScene) (server cycle ended : ℕ) (laden : Bool) (taker : ℕ)
    → Joint n w s → ReadersMatch s → (at : ℕ) (sent : List Name) (stage : EvacStage)
    → ClearingStands n w s (at_stage n w s server cycle ended laden taker stage at) ended laden taker sent
    → IsAct (next_of (at_stage n w s server cycle ended laden taker stage at)) → IsFreeing stage
    → ClearingGoesOn n w s (at_stage n w s server cycle ended laden taker stage at) ended laden taker sent
freeing_at n w s server cycle ended laden taker j reader at sent (Evacuating t stage) c acts is = absurd is
freeing_at n w s server cycle ended laden taker j reader at sent (Freeing x Loading) c acts is =
    loading_kept n w s server cycle ended laden taker j at sent x c
freeing_at n w s server cycle ended laden taker j reader at sent (Freeing x (Storing g)) c acts is =
    storing_kept n w s server cycle ended laden taker j at sent reader x g c
freeing_at n w s server cycle ended laden taker j reader at sent (Freeing x (Awaiting g)) c acts is =
    awaiting_kept n w s server cycle ended laden taker j at sent x g c
freeing_at n w s server cycle ended laden taker j reader at sent (Freeing x (Telling g)) c acts is =
    telling_kept n w s server cycle ended laden taker j at sent x g c
freeing_at n w s server cycle ended laden taker j reader at sent AwaitingEnd c acts is =
    awaiting_end_kept n w s server cycle ended laden taker j at sent c
freeing_at n w s server cycle ended laden taker j reader at sent TellingEnd c acts is =
    telling_end_kept n w s server cycle ended laden taker j at sent c
freeing_at n w s server cycle ended laden taker j reader at sent Ended c acts is = absurd acts

pub freeing_keeps : FreeingKeeps
freeing_keeps n w s v ended laden taker sent j reader small c acts is =
    subst
    (λ k. Joint k w s → ClearingStands k w s v ended laden taker sent → ClearingGoesOn k w s v ended laden taker sent)
    c.shape
    (λ i d. freeing_at v.owner.shape w s v.owner.server v.owner.cycle ended laden taker i reader v.at sent v.stage d
    acts is)
    j c

-- ---- at a tablet

module _ (n : Numbers) (w : Facts) (s : JointScene) (server cycle ended : ℕ) (laden : Bool) (taker : ℕ)
    (j : Joint n w s) (small : ObjectsAreSmall (state_of w s.front.history)) (at : ℕ) (sent : List Name) (t : ℕ) where
  -- the stage's step goes on
  abbrev Goes : TabletStage → Type 0
  Goes stage =
      ClearingStands n w s (at_stage n w s server cycle ended laden taker (Evacuating t stage) at) ended laden taker
      sent
      → IsAct (next_of (at_stage n w s server cycle ended laden taker (Evacuating t stage) at))
      → ClearingGoesOn n w s (at_stage n w s server cycle ended laden taker (Evacuating t stage) at) ended laden
      taker sent

  copy_at : (region x : ℕ) (e : EntryWord) (cs : CopyStage)
      → Goes (copies n w s server cycle ended laden taker j at sent t region x e cs)
  copy_at region x e copy.LoadingTop c acts =
      top_loaded n w s server cycle ended laden taker j at sent t region x e c
  copy_at region x e (copy.LoadingHeader offset) c acts =
      header_loaded n w s server cycle ended laden taker j at sent t region x e small offset c
  copy_at region x e (copy.StoringHeader offset fields) c acts =
      header_stored n w s server cycle ended laden taker j at sent t region x e offset fields c
  copy_at region x e (copy.LoadingField offset fields field) c acts =
      field_loaded n w s server cycle ended laden taker j at sent t region x e offset fields field c
  copy_at region x e (copy.StoringField offset fields field word) c acts =
      field_stored n w s server cycle ended laden taker j at sent t region x e offset fields field word c
  copy_at region x e (copy.StoringEntry offset fields) c acts =
      entry_stored n w s server cycle ended laden taker j at sent t region x e offset fields c
  copy_at region x e (copy.RaisingTop offset fields) c acts =
      top_raised n w s server cycle ended laden taker j at sent t region x e offset fields c
  copy_at region x e (copy.Ended address) c acts = absurd acts

  -- the copy is that of the entry into the home
  copying_at : (region x : ℕ) (q : Copy) → Goes (Copying region x q)
  copying_at region x q c acts =
      let of = c.known.stage.1.1 in
      let same : q ≡ copier n w s server cycle ended laden taker j at sent t region x q.entry q.stage =
      (λ i. record {
        shape = of.shape i;
        number = of.number i;
        entry = q.entry;
        home = of.home i;
        stage = q.stage;
      }) in
      subst (λ k. Goes (Copying region x k)) (sym same) (copy_at region x q.entry q.stage) c acts

  tablet_at : (stage : TabletStage) → Goes stage
  tablet_at LoadingLeaving c acts = leaving_loaded n w s server cycle ended laden taker j at sent t c
  tablet_at Shutting c acts = gate_shut n w s server cycle ended laden taker j at sent t c
  tablet_at Draining c acts = gate_looked n w s server cycle ended laden taker j at sent t c
  tablet_at LoadingHome c acts = home_loaded n w s server cycle ended laden taker j at sent t c
  tablet_at (LoadingEntry region x) c acts =
      entry_loaded n w s server cycle ended laden taker j at sent t region x c
  tablet_at (Copying region x q) c acts = copying_at region x q c acts
  tablet_at Clearing c acts = leaving_cleared n w s server cycle ended laden taker j at sent t c
  tablet_at Reopening c acts = gate_reopened n w s server cycle ended laden taker j at sent t c

stage_at : (n : Numbers) (w : Facts) (s : JointScene) (server cycle ended : ℕ) (laden : Bool) (taker : ℕ)
    → Joint n w s → ObjectsAreSmall (state_of w s.front.history) → (at : ℕ) (sent : List Name) (stage : EvacStage)
    → ClearingStands n w s (at_stage n w s server cycle ended laden taker stage at) ended laden taker sent
    → IsAct (next_of (at_stage n w s server cycle ended laden taker stage at)) → IsAtTablet stage
    → ClearingGoesOn n w s (at_stage n w s server cycle ended laden taker stage at) ended laden taker sent
stage_at n w s server cycle ended laden taker j small at sent (Evacuating t stage) c acts is =
    tablet_at n w s server cycle ended laden taker j small at sent t stage c acts
stage_at n w s server cycle ended laden taker j small at sent (Freeing x stage) c acts is = absurd is
stage_at n w s server cycle ended laden taker j small at sent AwaitingEnd c acts is = absurd is
stage_at n w s server cycle ended laden taker j small at sent TellingEnd c acts is = absurd is
stage_at n w s server cycle ended laden taker j small at sent Ended c acts is = absurd is

pub tablets_keep : TabletsKeep
tablets_keep n w s v ended laden taker sent j reader small c acts is =
    subst
    (λ k. Joint k w s → ClearingStands k w s v ended laden taker sent → ClearingGoesOn k w s v ended laden taker sent)
    c.shape
    (λ i d. stage_at v.owner.shape w s v.owner.server v.owner.cycle ended laden taker i small v.at sent v.stage d
    acts is)
    j c
