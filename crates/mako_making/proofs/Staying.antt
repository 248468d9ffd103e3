-- What a search keeps while others make their steps.
use Rattle.std.proofs.Common.{⊎_elim, sym, ◌∙◌}
use Rattle.mako_call.specs.declared.call_stage.CallStage.{CallStage}
use Rattle.mako_call.specs.declared.call_stage.CallStage.TheVariants.{Arriving, Rooting, Entering, Moving, Getting}
use Rattle.mako_call.specs.declared.call_stage.CallStage.TheVariants.{Putting, Allocating, Asking, Leaving, Ended}
use Rattle.mako_call.specs.declared.allocating.AllocStage.{AllocStage}
use Rattle.mako_call.specs.declared.allocating.AllocStage.TheVariants.{LoadingPhase as NewPhase, Searching, StoringRoot}
use Rattle.mako_call.specs.declared.allocating.AllocStage.TheVariants.{GivingTurn as GivingNewTurn}
use Rattle.mako_mutator.specs.declared.progress.Task.{Task}
use Rattle.mako_mutator.specs.declared.progress.Task.TheVariants.{Attempting, Awaiting, Finishing, Ended as TaskEnded}
use Rattle.mako_phases.specs.Facets.{IsInPause, IsNotAdmitted}
use Rattle.mako_joint.proofs.Pauses.{gates_drain}
use Rattle.mako_mutating.specs.MutatorFacets.{stage_admission, task_admission}
use Rattle.mako_making.specs.Makings.{NewSearches, StageSearches, TaskSearches}
use Rattle.mako_making.specs.Stages.{SearchesStay}

pub searches_stay : SearchesStay
searches_stay n w s m d j seen keeps words stays =
    by d.progress.task keeps
    (λ paused. gates_drain n w s j j.order.seat j.order.part j.order.pending j.order.here paused m
    (task_admission d.progress.task) seen.phase)
  where
    by_new : (a : AllocStage) → NewSearches n s.words a → (IsInPause j.order.part → ⊥) → NewSearches n words a
    by_new (Searching q search) k out = record {
      cycle = ⊎_elim (λ same. k.cycle ∙ sym same) (λ paused. absurd (out paused)) stays;
      noted = k.noted;
    }
    by_new (NewPhase q fields) k out = tt
    by_new (StoringRoot q name tablet) k out = tt
    by_new (GivingNewTurn name tablet) k out = tt

    by_stage : (st : CallStage) → StageSearches n s.words st
        → (IsInPause j.order.part → IsNotAdmitted (stage_admission st))
        → StageSearches n words st
    by_stage (Allocating a) k out = by_new a k out
    by_stage Arriving k out = tt
    by_stage (Rooting a) k out = tt
    by_stage (Entering e a) k out = tt
    by_stage (Moving e a) k out = tt
    by_stage (Getting l get a) k out = tt
    by_stage (Putting l put a) k out = tt
    by_stage (Asking a) k out = tt
    by_stage (Leaving a) k out = tt
    by_stage (Ended o) k out = tt

    by : (t : Task) → TaskSearches n s.words t → (IsInPause j.order.part → IsNotAdmitted (task_admission t))
        → TaskSearches n words t
    by (Attempting c) k out = by_stage c.stage k out
    by (Awaiting c) k out = tt
    by Finishing k out = tt
    by TaskEnded k out = tt
