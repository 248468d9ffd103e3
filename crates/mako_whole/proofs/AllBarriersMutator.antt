-- A step of a mutator stores a name into its barrier slot, or leaves all of them.
use Rattle.std.proofs.Common.{◌≡◌, ℕ, ◌<◌, inl, inr, List, sym, subst, refl, ap, ◌∙◌}
use Rattle.std.specs.Prelude.{slice_get, Some}
use Rattle.std.proofs.lemmas.Bool.{cases_eq}
use Rattle.mako_words.specs.declared.name.Name.{Name}
use Rattle.mako_shape.specs.declared.numbers.Numbers.{Numbers}
use Rattle.mako_shape.specs.Places.{barrier, finished, word_at}
use Rattle.mako_shape.proofs.PlaceLaws.{word_other}
use Rattle.mako_step.specs.Machines.{IsAct}
use Rattle.mako_step.specs.Acts.{after_op}
use Rattle.mako_step.specs.declared.act.Op.TheVariants.{Add}
use Rattle.mako_model.specs.Legal.{Facts}
use Rattle.mako_call.specs.Agreeing.{StageOf}
use Rattle.mako_call.specs.Calls as calling
use Rattle.mako_call.specs.Calls.{Calling}
use Rattle.mako_call.specs.declared.object.Located.{Located}
use Rattle.mako_call.specs.declared.object.Put.{Put}
use Rattle.mako_call.specs.declared.call_stage.CallStage.{CallStage}
use Rattle.mako_call.specs.declared.call_stage.CallStage.TheVariants.{Arriving, Rooting, Entering, Moving, Getting}
use Rattle.mako_call.specs.declared.call_stage.CallStage.TheVariants.{Putting, Allocating, Asking, Leaving, Ended}
use Rattle.mako_call.specs.declared.putting.PutStage.TheVariants.{LoadingHeader as PutHeader, LoadingOld}
use Rattle.mako_call.specs.declared.putting.PutStage.TheVariants.{LookingAtBarrier, StoringBarrier}
use Rattle.mako_call.specs.declared.putting.PutStage.TheVariants.{StoringField as StoringPut}
use Rattle.mako_mutator.specs.declared.progress.Task.{Task}
use Rattle.mako_mutator.specs.declared.progress.Task.TheVariants.{Attempting, Awaiting, Finishing, Ended as TaskEnded}
use Rattle.mako_mutator.specs.Drivers as drivers
use Rattle.mako_mutator.specs.Drivers.{Driving, TaskIsKnown}
use Rattle.mako_joint.specs.Joints.{JointScene}
use Rattle.mako_seat.specs.declared.seat.Seat.{Seat}
use Rattle.mako_seat.specs.declared.seat.Seat.TheVariants.{Mutator}
use Rattle.mako_mutating.specs.Mutators.{stepped}
use Rattle.mako_making.proofs.Tasks.{only_asks}
use Rattle.mako_sitting.specs.Seats.{AllSit, MutatorSits}
use Rattle.mako_sitting_collector.specs.CollectorGoing.{BarriersHold}
use Rattle.mako_whole.specs.AllBarriers.{MutatorsHoldBarriers}
use Rattle.mako_sitting_collector.proofs.CollectorGoingBarriers.{emptying_leaves_names, puts_leave_names}
use Rattle.mako_sitting_mutators.proofs.MutatorBarriers as storing
use Rattle.mako_sitting_mutators.proofs.MutatorBeside.{leaves}
use Rattle.mako_sitting_mutators.proofs.MutatorQuiet.{attempt_leaves, wait_leaves, end_words}
use Rattle.mako_sitting_mutators.proofs.MutatorWords.{StoresBarrier}

module _ (n : Numbers) (w : Facts) (s : JointScene) (seats : List Seat) (m : ℕ) (d : Driving)
    (all : AllSit n w s seats) (here : slice_get seats m ≡ Some (Mutator d)) (act : IsAct (drivers.next_of d))
    (hold : BarriersHold n s.words) where
  abbrev us : List ℕ
  us = (stepped s m d).words

  sits : MutatorSits n w s (all.places m) m d
  sits = all.each m (Mutator d) here

  -- the slots of all others are as they were, and so it is with all slots where its own are
  unstored : ((slot : ℕ) → slot < n.ring → word_at n us (barrier m slot) ≡ word_at n s.words (barrier m slot))
      → BarriersHold n us
  unstored own = emptying_leaves_names n s.words us (λ i slot low inside. inl (same i slot low inside)) hold
    where
      same : (i slot : ℕ) → i < n.mutators → slot < n.ring
          → word_at n us (barrier i slot) ≡ word_at n s.words (barrier i slot)
      same i slot low inside = elim (cases_eq i m) [
        | inl e ↦
            subst (λ j. word_at n us (barrier j slot) ≡ word_at n s.words (barrier j slot)) (sym e) (own slot inside)
        | inr apart ↦ leaves n w s seats m d all here act (barrier i slot) (low, inside) apart
      ]

  plain : (c : Calling) → d.progress.task ≡ Attempting c → (StoresBarrier c.stage → ⊥) → BarriersHold n us
  plain c is none =
      unstored (λ slot inside. attempt_leaves n w s seats m d all here act c is (barrier m slot)
      (sits.keeps.in_range, inside) (λ may. none may.2))

  -- the name that it stores is that of a value that it has loaded
  puts : (c : Calling) (at : Located) (args : Put) (old : Name) → d.progress.task ≡ Attempting c
      → c.stage ≡ Putting at args (StoringBarrier old) → BarriersHold n us
  puts c at args old is st =
      let known = storing.known n w s seats m d all here act c at args old is st in
      let fits = (subst (calling.StageIsKnown c.caller) st known.stage).1.2 in
      subst (BarriersHold n) (storing.stored n w s seats m d all here act c at args old is st)
      (puts_leave_names n s.words m (all.places m) old all.joint.names.hold.size
      (sits.keeps.in_range, storing.place_low n w s seats m d all here act c at args old is st) fits hold)

  by_stage : (c : Calling) → d.progress.task ≡ Attempting c → (st : CallStage) → c.stage ≡ st → BarriersHold n us
  by_stage c is (Putting at put (StoringBarrier old)) e = puts c at put old is e
  by_stage c is (Putting at put PutHeader) e = plain c is (λ may. subst StoresBarrier e may)
  by_stage c is (Putting at put LoadingOld) e = plain c is (λ may. subst StoresBarrier e may)
  by_stage c is (Putting at put (LookingAtBarrier old)) e = plain c is (λ may. subst StoresBarrier e may)
  by_stage c is (Putting at put StoringPut) e = plain c is (λ may. subst StoresBarrier e may)
  by_stage c is Arriving e = plain c is (λ may. subst StoresBarrier e may)
  by_stage c is (Rooting s) e = plain c is (λ may. subst StoresBarrier e may)
  by_stage c is (Entering x s) e = plain c is (λ may. subst StoresBarrier e may)
  by_stage c is (Moving x s) e = plain c is (λ may. subst StoresBarrier e may)
  by_stage c is (Getting at get s) e = plain c is (λ may. subst StoresBarrier e may)
  by_stage c is (Allocating s) e = plain c is (λ may. subst StoresBarrier e may)
  by_stage c is (Asking s) e = plain c is (λ may. subst StoresBarrier e may)
  by_stage c is (Leaving s) e = plain c is (λ may. subst StoresBarrier e may)
  by_stage c is (Ended outcome) e = plain c is (λ may. subst StoresBarrier e may)

  by_task : (t : Task) → d.progress.task ≡ t → BarriersHold n us
  by_task (Attempting c) is = by_stage c is c.stage refl
  by_task (Awaiting c) is =
      let wait = subst (TaskIsKnown d.caller d.calls d.progress.done) is sits.keeps.known.progress.task in
      let asks = only_asks c.caller.shape c.stage
      (subst (λ q. StageOf c.caller.shape q c.stage) wait.collects wait.known.agrees) wait.open_ in
      unstored (λ slot inside. wait_leaves n w s seats m d all here act c is (barrier m slot)
      (sits.keeps.in_range, inside) (λ may. subst StoresBarrier asks.is may.2))
  by_task Finishing is =
      unstored (λ slot inside. ap (λ ws. word_at n ws (barrier m slot)) (end_words n w s seats m d all here act is)
      ∙ word_other n s.words finished (barrier m slot) (after_op (Add 1) (word_at n s.words finished)) tt
      (sits.keeps.in_range, inside) (λ e. (let c : ⊥ = cc in c)))
  by_task TaskEnded is = absurd (subst (λ t. IsAct (drivers.task_next d.caller t)) is act)

pub mutators_hold_barriers : MutatorsHoldBarriers
mutators_hold_barriers n w s seats m d all here act hold =
    by_task n w s seats m d all here act hold d.progress.task refl
