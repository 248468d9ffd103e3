-- No step at another stage than those of a new leads into a search.
use Rattle.std.proofs.Common.{◌≡◌, ℕ, ◌+◌, Bool, true, false, List, slice_get, Option, Some, None, sym, subst, refl}
use Rattle.mako_words.specs.Gates.{is_shut}
use Rattle.mako_shape.specs.declared.numbers.Numbers.{Numbers}
use Rattle.mako_model.specs.declared.attempt.Attempt.{Attempt}
use Rattle.mako_model.specs.declared.attempt.Attempt.TheVariants.{Answer, Full, Pause as Paused}
use Rattle.mako_model.specs.declared.call.Call.{Call}
use Rattle.mako_model.specs.declared.call.Call.TheVariants as call
use Rattle.mako_alloc.specs.Allocating.{Allocation}
use Rattle.mako_call.specs.declared.caller.Caller.{Caller}
use Rattle.mako_call.specs.declared.call_stage.CallStage.{CallStage}
use Rattle.mako_call.specs.declared.call_stage.CallStage.TheVariants.{Arriving, Rooting, Entering, Moving, Getting}
use Rattle.mako_call.specs.declared.call_stage.CallStage.TheVariants.{Putting, Allocating, Asking, Leaving, Ended}
use Rattle.mako_call.specs.declared.allocating.AllocStage.{AllocStage}
use Rattle.mako_call.specs.declared.allocating.AllocStage.TheVariants.{LoadingPhase as NewPhase, Searching, StoringRoot}
use Rattle.mako_call.specs.declared.allocating.AllocStage.TheVariants.{GivingTurn as GivingNewTurn}
use Rattle.mako_call.specs.declared.leaving.LeaveStage.{LeaveStage}
use Rattle.mako_call.specs.declared.leaving.LeaveStage.TheVariants.{Refused, TurnedAway, FromTablet, FromOwn}
use Rattle.mako_mutator.specs.declared.progress.Progress.{Progress}
use Rattle.mako_mutator.specs.declared.progress.Task.{Task}
use Rattle.mako_mutator.specs.declared.progress.Task.TheVariants.{Attempting, Awaiting, Finishing, Ended as TaskEnded}
use Rattle.mako_call.specs.Agreeing.{StageOf, asked_of}
use Rattle.mako_call.specs.Calls as calling
use Rattle.mako_call.specs.Calls.{Calling, arrived, outcome_in}
use Rattle.mako_mutator.specs.Drivers as drivers
use Rattle.mako_mutator.specs.Drivers.{Driving, ProgressIsKnown, TaskIsKnown, attempt_on, task_fed, wait_on}
use Rattle.mako_call.specs.Leaving.{leave_fed}
use Rattle.mako_mutator.proofs.DriverGoing.{driver_known}
use Rattle.mako_making.specs.Makings.{StageSearches, TaskSearches}
use Rattle.mako_making.specs.Stages.{IsElsewhere, NoneBeginsASearch, TaskIsElsewhere}
use Rattle.mako_making.proofs.NewStages.{allocates}
use Rattle.mako_making.proofs.Trials.{task_begins}

-- a stage of a call that searches is one of a new
none_elsewhere : (n : Numbers) (q f : ℕ) (st : CallStage) → IsElsewhere st → StageOf n (call.New q f) st
    → (k : Caller) (last : Bool) (slot v : ℕ) (a : Allocation) (place : ℕ)
    → calling.stage_fed k (call.New q f) last slot st v ≡ Allocating (Searching place a) → ⊥
none_elsewhere n q f Arriving away agrees k last slot v a place is = by (is_shut v) is
  where
    by : (shut : Bool) → arrived (call.New q f) v shut ≡ Allocating (Searching place a) → ⊥
    by true e = cc
    by false e = cc
none_elsewhere n q f (Rooting s) away agrees k last slot v a place is = agrees
none_elsewhere n q f (Entering e s) away agrees k last slot v a place is = agrees
none_elsewhere n q f (Moving e s) away agrees k last slot v a place is = agrees
none_elsewhere n q f (Getting l g s) away agrees k last slot v a place is = agrees
none_elsewhere n q f (Putting l p s) away agrees k last slot v a place is = agrees
none_elsewhere n q f (Allocating s) away agrees k last slot v a place is = away
none_elsewhere n q f (Asking s) away agrees k last slot v a place is = agrees
none_elsewhere n q f (Leaving s) away agrees k last slot v a place is = by_leaving s is
  where
    by_leaving : (s : LeaveStage) → leave_fed last s ≡ Allocating (Searching place a) → ⊥
    by_leaving (Refused word) e = cc
    by_leaving (TurnedAway tablet word) e = cc
    by_leaving (FromTablet tablet outcome) e = cc
    by_leaving (FromOwn outcome) e = cc
none_elsewhere n q f (Ended o) away agrees k last slot v a place is = cc

-- after an attempt that goes on or ends, by the stage to which it has come
attempt_begins : (n : Numbers) (words : List ℕ) (k : Caller) (calls : List Call) (p : Progress) (m : Calling)
    → ((q : ℕ) (a : Allocation) → m.stage ≡ Allocating (Searching q a) → ⊥)
    → TaskSearches n words (attempt_on k calls p m (outcome_in m.stage)).task
attempt_begins n words k calls p m none = by m.stage refl
  where
    by_new : (a : AllocStage) → m.stage ≡ Allocating a → StageSearches n words m.stage
    by_new (Searching q a) e = absurd (none q a e)
    by_new (NewPhase q f) e = subst (StageSearches n words) (sym e) tt
    by_new (StoringRoot q name t) e = subst (StageSearches n words) (sym e) tt
    by_new (GivingNewTurn name t) e = subst (StageSearches n words) (sym e) tt

    by_end : (o : Attempt) → TaskSearches n words (drivers.attempted k calls p m o).task
    by_end (Answer r) = task_begins n words k (slice_get calls (p.done + 1)) false (asked_of m.call (Answer r)) m.slot
    by_end Full = tt
    by_end (Paused r) = task_begins n words k (Some m.call) m.last (asked_of m.call (Paused r)) m.slot

    by : (t : CallStage) → m.stage ≡ t → TaskSearches n words (attempt_on k calls p m (outcome_in t)).task
    by Arriving e = subst (StageSearches n words) (sym e) tt
    by (Rooting s) e = subst (StageSearches n words) (sym e) tt
    by (Entering a s) e = subst (StageSearches n words) (sym e) tt
    by (Moving a s) e = subst (StageSearches n words) (sym e) tt
    by (Getting l g s) e = subst (StageSearches n words) (sym e) tt
    by (Putting l g s) e = subst (StageSearches n words) (sym e) tt
    by (Allocating a) e = by_new a e
    by (Asking s) e = subst (StageSearches n words) (sym e) tt
    by (Leaving s) e = subst (StageSearches n words) (sym e) tt
    by (Ended o) e = by_end o

wait_begins : (n : Numbers) (words : List ℕ) (k : Caller) (calls : List Call) (p : Progress) (m : Calling)
    (o : Option Attempt) → TaskSearches n words (wait_on k calls p m o).task
wait_begins n words k calls p m None = tt
wait_begins n words k calls p m (Some (Answer r)) =
    task_begins n words k (slice_get calls p.done) true (asked_of m.call (Answer r)) m.slot
wait_begins n words k calls p m (Some Full) = tt
wait_begins n words k calls p m (Some (Paused r)) = tt

pub none_begins : NoneBeginsASearch
none_begins n words d found known fits acts away = by d.progress.task refl away
  where
    then_known : (t : Task) → d.progress.task ≡ t → ProgressIsKnown d.caller d.calls (task_fed d.caller d.calls
        d.progress t found)
    then_known t e =
        subst (λ u. ProgressIsKnown d.caller d.calls (task_fed d.caller d.calls d.progress u found)) e
        (driver_known d found known fits acts).progress

    none : (c : Calling) → d.progress.task ≡ Attempting c → IsElsewhere c.stage → (q : ℕ) (a : Allocation)
        → (calling.fed c found).stage ≡ Allocating (Searching q a) → ⊥
    none c e else_ q a is =
        let m : Calling = calling.fed c found in
        let before = subst (TaskIsKnown d.caller d.calls d.progress.done) e known.progress.task in
        let after = (subst (λ st. ProgressIsKnown d.caller d.calls
        (attempt_on d.caller d.calls d.progress m (outcome_in st))) is (then_known (Attempting c) e)).task in
        let one : c.call ≡ call.New q a.job.fields =
        allocates c.call q a (subst (StageOf c.caller.shape c.call) is after.known.agrees) in
        none_elsewhere c.caller.shape q a.job.fields c.stage else_
        (subst (λ k. StageOf c.caller.shape k c.stage) one before.known.agrees) c.caller c.last c.slot found a q
        (subst (λ k. calling.stage_fed c.caller k c.last c.slot c.stage found ≡ Allocating (Searching q a)) one is)

    by : (t : Task) → d.progress.task ≡ t → TaskIsElsewhere t → TaskSearches n words (task_fed d.caller d.calls
        d.progress t found).task
    by (Attempting c) e else_ =
        attempt_begins n words d.caller d.calls d.progress (calling.fed c found) (none c e else_)
    by (Awaiting c) e else_ =
        wait_begins n words d.caller d.calls d.progress (calling.fed c found) (outcome_in (calling.fed c found).stage)
    by Finishing e else_ = tt
    by TaskEnded e else_ = tt
