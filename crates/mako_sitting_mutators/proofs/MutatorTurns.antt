-- The step of a mutator among all seats: that it can be made, and what it keeps of the mutator itself.
use Rattle.std.proofs.Common.{◌≡◌, ℕ, ◌<◌, ◌≤◌, List, None, Some, sym, ap, subst, refl, ◌∙◌, arith}
use Rattle.std.specs.Prelude.{slice_get}
use Rattle.std.proofs.lemmas.Option.{none-some}
use Rattle.mako_gate.proofs.Lists.{sum_seated}
use Rattle.mako_shape.specs.declared.numbers.Numbers.{Numbers}
use Rattle.mako_shape.specs.Places.{finished, word_at}
use Rattle.mako_step.specs.Machines.{IsAct, CanStep}
use Rattle.mako_step.specs.declared.step.Step.{Step}
use Rattle.mako_step.specs.declared.step.Step.TheVariants.{Do, Ended as NoStep}
use Rattle.mako_step.specs.Acts.{finds}
use Rattle.mako_model.specs.Legal.{Facts}
use Rattle.mako_model.specs.declared.attempt.Attempt.TheVariants.{Answer, Full, Pause as Paused}
use Rattle.mako_call.specs.Calls.{Calling, outcome_in}
use Rattle.mako_call.specs.declared.call_stage.CallStage.{CallStage}
use Rattle.mako_call.specs.declared.call_stage.CallStage.TheVariants.{Arriving, Rooting, Entering, Moving, Getting}
use Rattle.mako_call.specs.declared.call_stage.CallStage.TheVariants.{Putting, Allocating, Asking, Leaving, Ended}
use Rattle.mako_call.specs.declared.leaving.LeaveStage.TheVariants.{Refused, TurnedAway, FromTablet, FromOwn}
use Rattle.mako_mutator.specs.declared.progress.Task.{Task}
use Rattle.mako_mutator.specs.declared.progress.Task.TheVariants.{Attempting, Awaiting, Finishing, Ended as TaskEnded}
use Rattle.mako_mutator.specs.Drivers as drivers
use Rattle.mako_mutator.specs.Drivers.{Driving, TaskIsKnown}
use Rattle.mako_joint.specs.Joints.{JointScene}
use Rattle.mako_seat.specs.declared.seat.Seat.{Seat}
use Rattle.mako_seat.specs.declared.seat.Seat.TheVariants.{Mutator, Server, Collector}
use Rattle.mako_state.specs.Facets.{task_ended, ended_of}
use Rattle.mako_mutating.specs.Laws.{IsOfACall}
use Rattle.mako_mutating.specs.Mutators.{found_by, stepped, IsAttempting}
use Rattle.mako_mutating.proofs.MoveSteps.{attempts_keep, attempts_can_go}
use Rattle.mako_making.specs.Going.{IsBesideObjects, IsAtRoom}
use Rattle.mako_making.specs.Makings.{IsMaking, MakingKeeps}
use Rattle.mako_making.specs.Stages.{IsElsewhere, TaskIsElsewhere, IsAllocating, AttemptsObject, IsAsking}
use Rattle.mako_making.specs.Stages.{AttemptsCollect, AwaitsCycle, IsPastCalls, LeavesFilled, AttemptsFilled}
use Rattle.mako_making.proofs.Beginning.{none_begins}
use Rattle.mako_making.proofs.Going.{makings_can_go}
use Rattle.mako_making.proofs.Wholes.{objects_keep, collects_keep, filled_keep, waits_keep, ends_keep}
use Rattle.mako_sitting.specs.Seats.{AllSit, MutatorSits, SeatSits}
use Rattle.mako_sitting_mutators.specs.MutatorSteps.{MutatorsCanGo}

-- what an act finds, where it can be made
pub finds_fit : (step : Step) (words : List ℕ) (Fits : ℕ → Type 0) → IsAct step → CanStep step words Fits
    → Fits (finds step words)
finds_fit (Do a) words Fits act can = can.2
finds_fit NoStep words Fits act can = absurd act

-- ---- how many mutators are at their ends
ended_one : (v : Seat) → ended_of v ≤ 1
ended_one (Mutator d) = task_one d.progress.task
  where
    task_one : (t : Task) → task_ended t ≤ 1
    task_one (Attempting c) = omega arith
    task_one (Awaiting c) = omega arith
    task_one Finishing = omega arith
    task_one TaskEnded = omega arith
ended_one (Server s) = omega arith
ended_one (Collector c) = omega arith

module _ (n : Numbers) (w : Facts) (s : JointScene) (seats : List Seat) (m : ℕ) (d : Driving)
    (all : AllSit n w s seats) (here : slice_get seats m ≡ Some (Mutator d)) where
  sits : MutatorSits n w s (all.places m) m d
  sits = all.each m (Mutator d) here

  ended_low : (i : ℕ) (v : Seat) → SeatSits n w s all.taker all.places i v → 1 ≤ ended_of v → i < n.mutators
  ended_low i (Mutator e) it one = it.keeps.in_range
  ended_low i (Server v) it one = absurd (omega arith)
  ended_low i (Collector c) it one = absurd (omega arith)

  pub few_ended : word_at n s.words finished ≤ n.mutators
  few_ended =
      let e = all.ends in
      let l = sum_seated ended_of seats n.mutators ended_one (λ i v at one. ended_low i v (all.each i v at) one) in
      omega arith

  attempting : (c : Calling) → d.progress.task ≡ Attempting c → (stage : CallStage) → c.stage ≡ stage
      → IsAttempting n w s m d stage
  attempting c is stage at = record {
    seen = sits.seen;
    keeps = sits.keeps;
    calling = c;
    attempts = is;
    at = at;
    small = all.few;
  }

  -- an attempt goes on
  no_end : (c : Calling) → d.progress.task ≡ Attempting c → outcome_in c.stage ≡ None
  no_end c is = (subst (TaskIsKnown d.caller d.calls d.progress.done) is sits.keeps.known.progress.task).open_

  -- ---- that it can go

  can_attempt : (c : Calling) → d.progress.task ≡ Attempting c → (stage : CallStage) → c.stage ≡ stage
      → CanStep (drivers.next_of d) s.words (drivers.Fits d)
  can_attempt c is stage at = by stage at
    where
      plain : (stage : CallStage) → IsOfACall stage → c.stage ≡ stage
          → CanStep (drivers.next_of d) s.words (drivers.Fits d)
      plain stage of at = attempts_can_go n w s all.joint m d stage of (attempting c is stage at)

      making : (stage : CallStage) → IsAtRoom stage → c.stage ≡ stage
          → CanStep (drivers.next_of d) s.words (drivers.Fits d)
      making stage room at =
          makings_can_go n w s m d all.joint sits.seen sits.keeps sits.searches few_ended
          (subst IsBesideObjects (sym is) (subst IsAtRoom (sym at) room))

      by : (stage : CallStage) → c.stage ≡ stage → CanStep (drivers.next_of d) s.words (drivers.Fits d)
      by Arriving at = plain Arriving tt at
      by (Rooting a) at = plain (Rooting a) tt at
      by (Entering e a) at = plain (Entering e a) tt at
      by (Moving e a) at = plain (Moving e a) tt at
      by (Getting l get a) at = plain (Getting l get a) tt at
      by (Putting l put a) at = plain (Putting l put a) tt at
      by (Allocating a) at = making (Allocating a) tt at
      by (Asking a) at = making (Asking a) tt at
      by (Leaving (Refused word)) at = plain (Leaving (Refused word)) tt at
      by (Leaving (TurnedAway t word)) at = plain (Leaving (TurnedAway t word)) tt at
      by (Leaving (FromTablet t o)) at = plain (Leaving (FromTablet t o)) tt at
      by (Leaving (FromOwn (Answer r))) at = plain (Leaving (FromOwn (Answer r))) tt at
      by (Leaving (FromOwn Full)) at = making (Leaving (FromOwn Full)) tt at
      by (Leaving (FromOwn (Paused p))) at = plain (Leaving (FromOwn (Paused p))) tt at
      by (Ended o) at = absurd (none-some o (sym (no_end c is) ∙ ap outcome_in at))

  can_go : (t : Task) → d.progress.task ≡ t → CanStep (drivers.next_of d) s.words (drivers.Fits d)
  can_go (Attempting c) is = can_attempt c is c.stage refl
  can_go (Awaiting c) is =
      makings_can_go n w s m d all.joint sits.seen sits.keeps sits.searches few_ended
      (subst IsBesideObjects (sym is) tt)
  can_go Finishing is =
      makings_can_go n w s m d all.joint sits.seen sits.keeps sits.searches few_ended
      (subst IsBesideObjects (sym is) tt)
  can_go TaskEnded is =
      makings_can_go n w s m d all.joint sits.seen sits.keeps sits.searches few_ended
      (subst IsBesideObjects (sym is) tt)

  pub can : CanStep (drivers.next_of d) s.words (drivers.Fits d)
  can = can_go d.progress.task refl

  -- ---- what it keeps

  module _ (act : IsAct (drivers.next_of d)) where
    pub fits : drivers.Fits d (found_by s d)
    fits = finds_fit (drivers.next_of d) s.words (drivers.Fits d) act can

    making : IsMaking n w s m d
    making = record { seen = sits.seen; keeps = sits.keeps; searches = sits.searches; fits = fits }

    keeps_attempt : (c : Calling) → d.progress.task ≡ Attempting c → (stage : CallStage) → c.stage ≡ stage
        → MakingKeeps n w s m d
    keeps_attempt c is stage at = by stage at
      where
        plain : (stage : CallStage) → IsOfACall stage → IsElsewhere stage → c.stage ≡ stage → MakingKeeps n w s m d
        plain stage of else at = record {
          step = attempts_keep n w s all.joint m d stage of (attempting c is stage at);
          searches = none_begins n (stepped s m d).words d (found_by s d) sits.keeps.known fits act
              (subst TaskIsElsewhere (sym is) (subst IsElsewhere (sym at) else));
        }

        by : (stage : CallStage) → c.stage ≡ stage → MakingKeeps n w s m d
        by Arriving at = plain Arriving tt tt at
        by (Rooting a) at = plain (Rooting a) tt tt at
        by (Entering e a) at = plain (Entering e a) tt tt at
        by (Moving e a) at = plain (Moving e a) tt tt at
        by (Getting l get a) at = plain (Getting l get a) tt tt at
        by (Putting l put a) at = plain (Putting l put a) tt tt at
        by (Allocating a) at =
            objects_keep n w s m d all.joint making (subst AttemptsObject (sym is) (subst IsAllocating (sym at) tt))
        by (Asking a) at =
            collects_keep n w s m d all.joint making (subst AttemptsCollect (sym is) (subst IsAsking (sym at) tt))
        by (Leaving (Refused word)) at = plain (Leaving (Refused word)) tt tt at
        by (Leaving (TurnedAway t word)) at = plain (Leaving (TurnedAway t word)) tt tt at
        by (Leaving (FromTablet t o)) at = plain (Leaving (FromTablet t o)) tt tt at
        by (Leaving (FromOwn (Answer r))) at = plain (Leaving (FromOwn (Answer r))) tt tt at
        by (Leaving (FromOwn Full)) at =
            filled_keep n w s m d all.joint making (subst AttemptsFilled (sym is) (subst LeavesFilled (sym at) tt))
        by (Leaving (FromOwn (Paused p))) at = plain (Leaving (FromOwn (Paused p))) tt tt at
        by (Ended o) at = absurd (none-some o (sym (no_end c is) ∙ ap outcome_in at))

    keeps_task : (t : Task) → d.progress.task ≡ t → MakingKeeps n w s m d
    keeps_task (Attempting c) is = keeps_attempt c is c.stage refl
    keeps_task (Awaiting c) is = waits_keep n w s m d all.joint making (subst AwaitsCycle (sym is) tt)
    keeps_task Finishing is = ends_keep n w s m d all.joint making (subst IsPastCalls (sym is) tt)
    keeps_task TaskEnded is = absurd (subst (λ t. IsAct (drivers.task_next d.caller t)) is act)

    pub keeps : MakingKeeps n w s m d
    keeps = keeps_task d.progress.task refl

pub mutators_can_go : MutatorsCanGo
mutators_can_go n w s seats m d all here = can n w s seats m d all here
