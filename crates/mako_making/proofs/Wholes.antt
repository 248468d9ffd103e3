-- The steps of collects, waits, news and ends keep all groups, and what the mutator keeps of itself.
use Rattle.std.proofs.Common.{◌≡◌, ℕ, Option, sym, subst, refl}
use Rattle.mako_shape.specs.declared.numbers.Numbers.{Numbers}
use Rattle.mako_model.specs.declared.attempt.Attempt.TheVariants.{Answer, Full as NoRoom, Pause as Paused}
use Rattle.mako_model.specs.declared.attempt.Pause.{Pause as Reason}
use Rattle.mako_model.specs.declared.call.Call.{Call}
use Rattle.mako_model.specs.declared.call.Call.TheVariants as call
use Rattle.mako_model.specs.Legal.{Facts}
use Rattle.mako_alloc.specs.Allocating.{Allocation}
use Rattle.mako_alloc.specs.declared.progress.NewStage.{NewStage}
use Rattle.mako_alloc.specs.declared.progress.NewStage.TheVariants.{Arriving as NewArriving}
use Rattle.mako_alloc.specs.declared.progress.NewStage.TheVariants.{TurnedAway as NewTurnedAway}
use Rattle.mako_alloc.specs.declared.progress.NewStage.TheVariants.{TakingTurn as NewTakingTurn, LoadingLeaving}
use Rattle.mako_alloc.specs.declared.progress.NewStage.TheVariants.{LoadingTop, LoadingEntry as NewEntry}
use Rattle.mako_alloc.specs.declared.progress.NewStage.TheVariants.{LoadingHome as NewHome, Making}
use Rattle.mako_alloc.specs.declared.progress.NewStage.TheVariants.{GivingTurn as PassingTurn, Leaving as NewLeaving}
use Rattle.mako_alloc.specs.declared.progress.NewStage.TheVariants.{Ended as NewEnded}
use Rattle.mako_alloc.specs.declared.progress.Part.TheVariants.{Header, Field, Top, Entry}
use Rattle.mako_call.specs.declared.call_stage.CallStage.{CallStage}
use Rattle.mako_call.specs.declared.call_stage.CallStage.TheVariants.{Arriving, Rooting, Entering, Moving, Getting}
use Rattle.mako_call.specs.declared.call_stage.CallStage.TheVariants.{Putting, Allocating, Asking, Leaving, Ended}
use Rattle.mako_call.specs.declared.allocating.AllocStage.{AllocStage}
use Rattle.mako_call.specs.declared.allocating.AllocStage.TheVariants.{LoadingPhase as NewPhase, Searching, StoringRoot}
use Rattle.mako_call.specs.declared.allocating.AllocStage.TheVariants.{GivingTurn as GivingNewTurn}
use Rattle.mako_call.specs.declared.asking.AskStage.{AskStage}
use Rattle.mako_call.specs.declared.leaving.LeaveStage.TheVariants.{Refused, TurnedAway, FromTablet, FromOwn}
use Rattle.mako_mutator.specs.declared.progress.Task.{Task}
use Rattle.mako_mutator.specs.declared.progress.Task.TheVariants.{Attempting, Awaiting, Finishing, Ended as TaskEnded}
use Rattle.mako_call.specs.Agreeing.{StageOf}
use Rattle.mako_mutator.specs.Drivers as drivers
use Rattle.mako_mutator.specs.Drivers.{Driving}
use Rattle.mako_joint.specs.Joints.{JointScene, Joint}
use Rattle.mako_mutating.specs.Mutators.{MutatorKeeps, found_by}
use Rattle.mako_making.specs.Makings.{IsAt, IsMaking}
use Rattle.mako_making.specs.Stages.{StepsKeepAll, AttemptsCollect, AttemptsFilled, AttemptsObject, AwaitsCycle}
use Rattle.mako_making.specs.Stages.{IsAllocating, IsAsking, IsPastCalls, LeavesFilled}
use Rattle.mako_making.proofs.FullStages.{full_kept}
use Rattle.mako_making.proofs.Lights.{SelfKept, light_kept, ask_light, wait_light, full_light, phase_light, turn_light}
use Rattle.mako_making.proofs.Lights.{search_light}
use Rattle.mako_making.proofs.NewStages.{object_kept, allocates}
use Rattle.mako_making.proofs.OwnRoots.{publication_kept, root_kept, end_light}
use Rattle.mako_making.proofs.Placed.{StepsHold, NextKeeps}
use Rattle.mako_making.proofs.Searches.{y, seeking, search_at, AtStage}
use Rattle.mako_making.proofs.Tasks.{collect_kept, wait_kept, end_kept, is_collect, only_asks, trial, ending}
use Rattle.mako_making.proofs.Tasks.{of_attempt, of_wait, of_task}
use Rattle.mako_making.proofs.Trials.{Trial, at_task, driver, waiter}

-- a mutator at its seat
placed : (n : Numbers) (w : Facts) (s : JointScene) (m : ℕ) (d : Driving) → IsMaking n w s m d → IsAt n s m d
placed n w s m d making = record {
  low = making.keeps.in_range;
  shape = making.keeps.shape;
  number = making.keeps.number;
  known = making.keeps.known;
  here = making.seen;
  keeps = making.searches;
}

-- what a mutator keeps of itself, it keeps
abbrev SelfHolds : Numbers → Facts → JointScene → ℕ → Driving → Type 0
SelfHolds n w s m d =
    MutatorKeeps n w s.words s.front m d → drivers.Fits d (found_by s d) → SelfKept n w s m d

abbrev SelvesHold : (Task → Type 0) → Type 0
SelvesHold AreThese = (n : Numbers) (w : Facts) (s : JointScene) (m : ℕ) (d : Driving) → Joint n w s
    → IsAt n s m d → AreThese d.progress.task → SelfHolds n w s m d

whole : (AreThese : Task → Type 0) → StepsHold AreThese → SelvesHold AreThese → StepsKeepAll AreThese
whole AreThese steps selves n w s m d j making these =
    let is : IsAt n s m d = placed n w s m d making in
    let next : NextKeeps n w s m d = steps n w s m d j is these in
    record { step = (next.joint, selves n w s m d j is these making.keeps making.fits); searches = next.keeps }

module _ (x : Trial) where
  abbrev Self : Driving → Type 0
  Self d = SelfHolds x.n x.w x.s x.m d

  -- ---- a search
  search_self : (q f c passed : ℕ) (o : Option Reason) (r : NewStage) → AtStage x q f c passed o r
      → Self (driver (y x q f c) (seeking x q f c passed o r))
  search_self q f c passed o (Making made Entry) at keeps fits =
      publication_kept x q f c passed o made at keeps fits
  search_self q f c passed o (NewEnded found) at keeps fits = absurd at.known.progress.task.known.stage.2
  search_self q f c passed o NewArriving at keeps fits =
      light_kept x.n x.w x.s x.m _ keeps fits (search_light x q f c passed o NewArriving tt at)
  search_self q f c passed o NewTurnedAway at keeps fits =
      light_kept x.n x.w x.s x.m _ keeps fits (search_light x q f c passed o NewTurnedAway tt at)
  search_self q f c passed o NewTakingTurn at keeps fits =
      light_kept x.n x.w x.s x.m _ keeps fits (search_light x q f c passed o NewTakingTurn tt at)
  search_self q f c passed o LoadingLeaving at keeps fits =
      light_kept x.n x.w x.s x.m _ keeps fits (search_light x q f c passed o LoadingLeaving tt at)
  search_self q f c passed o LoadingTop at keeps fits =
      light_kept x.n x.w x.s x.m _ keeps fits (search_light x q f c passed o LoadingTop tt at)
  search_self q f c passed o (NewEntry kept place) at keeps fits =
      light_kept x.n x.w x.s x.m _ keeps fits (search_light x q f c passed o (NewEntry kept place) tt at)
  search_self q f c passed o (NewHome kept name) at keeps fits =
      light_kept x.n x.w x.s x.m _ keeps fits (search_light x q f c passed o (NewHome kept name) tt at)
  search_self q f c passed o (Making made Header) at keeps fits =
      light_kept x.n x.w x.s x.m _ keeps fits (search_light x q f c passed o (Making made Header) tt at)
  search_self q f c passed o (Making made (Field i)) at keeps fits =
      light_kept x.n x.w x.s x.m _ keeps fits (search_light x q f c passed o (Making made (Field i)) tt at)
  search_self q f c passed o (Making made Top) at keeps fits =
      light_kept x.n x.w x.s x.m _ keeps fits (search_light x q f c passed o (Making made Top) tt at)
  search_self q f c passed o PassingTurn at keeps fits =
      light_kept x.n x.w x.s x.m _ keeps fits (search_light x q f c passed o PassingTurn tt at)
  search_self q f c passed o NewLeaving at keeps fits =
      light_kept x.n x.w x.s x.m _ keeps fits (search_light x q f c passed o NewLeaving tt at)

  -- the same attempt, if it is one of this call
  abbrev of_call : Call → Trial
  of_call d = record x { call = d }

  searching_self : (q : ℕ) (search : Allocation) → IsAt x.n x.s x.m (driver x (Allocating (Searching q search)))
      → Self (driver x (Allocating (Searching q search)))
  searching_self q search at =
      let known = at.known.progress.task.known in
      let f = search.job.fields in
      let c = search.job.cycle in
      let p = search.progress in
      let is : x.call ≡ call.New q f = allocates x.call q search known.agrees in
      let same : search ≡ search_at x q f c p.passed p.note p.stage =
      λ i. record {
        job = record { shape = known.stage.3 i; mutator = known.stage.4 i; fields = f; cycle = c };
        progress = p;
      } in
      subst (λ a. IsAt x.n x.s x.m (driver x (Allocating (Searching q a)))
      → Self (driver x (Allocating (Searching q a)))) (sym same)
      (subst (λ d. IsAt x.n x.s x.m (driver (of_call d) (seeking x q f c p.passed p.note p.stage))
      → Self (driver (of_call d) (seeking x q f c p.passed p.note p.stage))) (sym is)
      (search_self q f c p.passed p.note p.stage)) at

  new_self : (s : AllocStage) → IsAt x.n x.s x.m (driver x (Allocating s)) → Self (driver x (Allocating s))
  new_self (NewPhase q f) at keeps fits =
      light_kept x.n x.w x.s x.m (driver x (Allocating (NewPhase q f))) keeps fits (phase_light x q f)
  new_self (Searching q a) at keeps fits = searching_self q a at keeps fits
  new_self (StoringRoot q name tablet) at keeps fits = root_kept x q tablet name keeps fits
  new_self (GivingNewTurn name tablet) at keeps fits =
      light_kept x.n x.w x.s x.m (driver x (Allocating (GivingNewTurn name tablet))) keeps fits
      (turn_light x name tablet at)

-- ---- the stages of each group

asking_self : (x : Trial) (st : CallStage) → IsAsking st → IsAt x.n x.s x.m (driver x st)
    → SelfHolds x.n x.w x.s x.m (driver x st)
asking_self x (Asking a) asks at keeps fits =
    light_kept x.n x.w x.s x.m (driver x (Asking a)) keeps fits
    (ask_light x (is_collect x.call at.known.progress.task.known.agrees) a)
asking_self x Arriving asks at keeps fits = absurd asks
asking_self x (Rooting a) asks at keeps fits = absurd asks
asking_self x (Entering e a) asks at keeps fits = absurd asks
asking_self x (Moving e a) asks at keeps fits = absurd asks
asking_self x (Getting l get a) asks at keeps fits = absurd asks
asking_self x (Putting l put a) asks at keeps fits = absurd asks
asking_self x (Allocating a) asks at keeps fits = absurd asks
asking_self x (Leaving a) asks at keeps fits = absurd asks
asking_self x (Ended o) asks at keeps fits = absurd asks

object_self : (x : Trial) (st : CallStage) → IsAllocating st → IsAt x.n x.s x.m (driver x st)
    → SelfHolds x.n x.w x.s x.m (driver x st)
object_self x (Allocating a) makes at keeps fits = new_self x a at keeps fits
object_self x Arriving makes at keeps fits = absurd makes
object_self x (Rooting a) makes at keeps fits = absurd makes
object_self x (Entering e a) makes at keeps fits = absurd makes
object_self x (Moving e a) makes at keeps fits = absurd makes
object_self x (Getting l get a) makes at keeps fits = absurd makes
object_self x (Putting l put a) makes at keeps fits = absurd makes
object_self x (Asking a) makes at keeps fits = absurd makes
object_self x (Leaving a) makes at keeps fits = absurd makes
object_self x (Ended o) makes at keeps fits = absurd makes

filled_self : (x : Trial) (st : CallStage) → LeavesFilled st → IsAt x.n x.s x.m (driver x st)
    → SelfHolds x.n x.w x.s x.m (driver x st)
filled_self x (Leaving (FromOwn NoRoom)) full at keeps fits =
    light_kept x.n x.w x.s x.m (driver x (Leaving (FromOwn NoRoom))) keeps fits
    (full_light x at.known.progress.task.known.agrees)
filled_self x (Leaving (FromOwn (Answer r))) full at keeps fits = absurd full
filled_self x (Leaving (FromOwn (Paused r))) full at keeps fits = absurd full
filled_self x (Leaving (FromTablet t o)) full at keeps fits = absurd full
filled_self x (Leaving (Refused v)) full at keeps fits = absurd full
filled_self x (Leaving (TurnedAway t v)) full at keeps fits = absurd full
filled_self x Arriving full at keeps fits = absurd full
filled_self x (Rooting a) full at keeps fits = absurd full
filled_self x (Entering e a) full at keeps fits = absurd full
filled_self x (Moving e a) full at keeps fits = absurd full
filled_self x (Getting l get a) full at keeps fits = absurd full
filled_self x (Putting l put a) full at keeps fits = absurd full
filled_self x (Allocating a) full at keeps fits = absurd full
filled_self x (Asking a) full at keeps fits = absurd full
filled_self x (Ended o) full at keeps fits = absurd full

wait_self : (x : Trial) (st : CallStage) → IsAt x.n x.s x.m (waiter x st) → SelfHolds x.n x.w x.s x.m (waiter x st)
wait_self x st at =
    let wait = at.known.progress.task in
    let a = only_asks x.n st (subst (λ c. StageOf x.n c st) wait.collects wait.known.agrees) wait.open_ in
    subst (λ k. SelfHolds x.n x.w x.s x.m (waiter x k)) (sym a.is)
    (light_kept_at x a.stage)
  where
    light_kept_at : (z : Trial) (k : AskStage) → SelfHolds z.n z.w z.s z.m (waiter z (Asking k))
    light_kept_at z k keeps fits = light_kept z.n z.w z.s z.m (waiter z (Asking k)) keeps fits (wait_light z k)

module _ (n : Numbers) (w : Facts) (s : JointScene) (m : ℕ) (d : Driving) (j : Joint n w s) (is : IsAt n s m d) where
  collect_holds : (t : Task) → d.progress.task ≡ t → AttemptsCollect t → SelfHolds n w s m d
  collect_holds (Attempting c) e these =
      of_attempt n w s m d j is c e (SelfHolds n w s m) (asking_self (trial n w s m d j is c) c.stage these)
  collect_holds (Awaiting c) e these = absurd these
  collect_holds Finishing e these = absurd these
  collect_holds TaskEnded e these = absurd these

  object_holds : (t : Task) → d.progress.task ≡ t → AttemptsObject t → SelfHolds n w s m d
  object_holds (Attempting c) e these =
      of_attempt n w s m d j is c e (SelfHolds n w s m) (object_self (trial n w s m d j is c) c.stage these)
  object_holds (Awaiting c) e these = absurd these
  object_holds Finishing e these = absurd these
  object_holds TaskEnded e these = absurd these

  filled_holds : (t : Task) → d.progress.task ≡ t → AttemptsFilled t → SelfHolds n w s m d
  filled_holds (Attempting c) e these =
      of_attempt n w s m d j is c e (SelfHolds n w s m) (filled_self (trial n w s m d j is c) c.stage these)
  filled_holds (Awaiting c) e these = absurd these
  filled_holds Finishing e these = absurd these
  filled_holds TaskEnded e these = absurd these

  wait_holds : (t : Task) → d.progress.task ≡ t → AwaitsCycle t → SelfHolds n w s m d
  wait_holds (Awaiting c) e these =
      of_wait n w s m d j is c e (SelfHolds n w s m) (wait_self (trial n w s m d j is c) c.stage)
  wait_holds (Attempting c) e these = absurd these
  wait_holds Finishing e these = absurd these
  wait_holds TaskEnded e these = absurd these

  end_holds : (t : Task) → d.progress.task ≡ t → IsPastCalls t → SelfHolds n w s m d
  end_holds Finishing e these =
      of_task n w s m d j is Finishing e (SelfHolds n w s m) (λ at keeps fits.
      light_kept n w s m (at_task (ending n w s m d j is) Finishing) keeps fits (end_light (ending n w s m d j is)))
  end_holds (Attempting c) e these = absurd these
  end_holds (Awaiting c) e these = absurd these
  end_holds TaskEnded e these = absurd these

-- ---- all of it

pub collects_keep : StepsKeepAll AttemptsCollect
collects_keep = whole AttemptsCollect collect_kept (λ n w s m d j is these. collect_holds n w s m d j is d.progress.task
    refl these)

pub objects_keep : StepsKeepAll AttemptsObject
objects_keep = whole AttemptsObject object_kept (λ n w s m d j is these. object_holds n w s m d j is d.progress.task
    refl these)

pub filled_keep : StepsKeepAll AttemptsFilled
filled_keep = whole AttemptsFilled full_kept (λ n w s m d j is these. filled_holds n w s m d j is d.progress.task refl
    these)

pub waits_keep : StepsKeepAll AwaitsCycle
waits_keep = whole AwaitsCycle wait_kept (λ n w s m d j is these. wait_holds n w s m d j is d.progress.task refl these)

pub ends_keep : StepsKeepAll IsPastCalls
ends_keep = whole IsPastCalls end_kept (λ n w s m d j is these. end_holds n w s m d j is d.progress.task refl these)
