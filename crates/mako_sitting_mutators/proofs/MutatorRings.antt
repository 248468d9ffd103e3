-- The barrier rings, as the collector reads them, over the step of a mutator.
use Rattle.std.proofs.Common.{◌≡◌, ◌≢◌, ℕ, ◌<◌, inl, inr, List, length, sym, ap, subst, refl, ◌∙◌, arith}
use Rattle.std.specs.Prelude.{slice_get, slice_index, Some}
use Rattle.std.proofs.lemmas.Bool.{cases_eq}
use Rattle.mako_words.specs.Names.{name_word}
use Rattle.mako_words.specs.declared.name.Name.{Name}
use Rattle.mako_call.specs.Calls as calling
use Rattle.mako_call.specs.Calls.{Calling, outcome_in}
use Rattle.mako_call.specs.declared.object.Located.{Located}
use Rattle.mako_call.specs.declared.object.Put.{Put}
use Rattle.mako_shape.specs.declared.numbers.Numbers.{Numbers}
use Rattle.mako_shape.specs.Places.{barrier, finished, word_at}
use Rattle.mako_shape.proofs.PlaceLaws.{word_other}
use Rattle.mako_step.specs.Machines.{IsAct}
use Rattle.mako_step.specs.Acts.{after_op}
use Rattle.mako_step.specs.declared.act.Op.TheVariants.{Add}
use Rattle.mako_model.specs.Heaps.{Heap}
use Rattle.mako_model.specs.Legal.{Facts, state_of}
use Rattle.mako_call.specs.Agreeing.{StageOf}
use Rattle.mako_call.specs.declared.call_stage.CallStage.{CallStage}
use Rattle.mako_call.specs.declared.call_stage.CallStage.TheVariants.{Arriving, Rooting, Entering, Moving, Getting}
use Rattle.mako_call.specs.declared.call_stage.CallStage.TheVariants.{Putting, Allocating, Asking, Leaving, Ended}
use Rattle.mako_call.specs.declared.putting.PutStage.TheVariants.{LoadingHeader as PutHeader, LoadingOld}
use Rattle.mako_call.specs.declared.putting.PutStage.TheVariants.{LookingAtBarrier, StoringBarrier}
use Rattle.mako_call.specs.declared.putting.PutStage.TheVariants.{StoringField as StoringPut}
use Rattle.mako_mutator.specs.declared.progress.Task.{Task}
use Rattle.mako_mutator.specs.declared.progress.Task.TheVariants.{Attempting, Awaiting, Finishing, Ended as TaskEnded}
use Rattle.mako_mutator.specs.Drivers as drivers
use Rattle.mako_mutator.specs.Drivers.{Driving, TaskIsKnown}
use Rattle.mako_joint.specs.Joints.{JointScene}
use Rattle.mako_pause.specs.Collecting.{Collecting, Holdings}
use Rattle.mako_pause.specs.Keeping.{IsKeptKnown, StageIsKnown}
use Rattle.mako_pause.specs.declared.stage.BarrierStage.TheVariants.{Loading as BarrierLook, Clearing as BarrierClear}
use Rattle.mako_pause.specs.declared.stage.CollectStage.{CollectStage}
use Rattle.mako_pause.specs.declared.stage.CollectStage.TheVariants.{Idle, Pausing, Forwarding, Barriers, Emptying}
use Rattle.mako_pause.specs.declared.stage.CollectStage.TheVariants.{Polling, Choosing, Noticing, Ended as CollectEnded}
use Rattle.mako_seat.specs.declared.seat.Seat.{Seat}
use Rattle.mako_seat.specs.declared.seat.Seat.TheVariants.{Mutator}
use Rattle.mako_mutating.specs.Mutators.{found_by, stepped, TaskKeeps, StageKeeps}
use Rattle.mako_making.proofs.Tasks.{only_asks}
use Rattle.mako_collecting.specs.Keeping.{CollectorKeeps, StageKeeps as CollectorStageKeeps, BarrierRing}
use Rattle.mako_collecting.specs.Keeping.{BarrierRingsStand}
use Rattle.mako_collecting.proofs.BarrierRings.{ring_stays}
use Rattle.mako_tracing.proofs.Lists.{if_same, if_other}
use Rattle.mako_sitting.specs.Seats.{AllSit, PutsAt, MutatorSits, CollectorSits}
use Rattle.mako_sitting_mutators.specs.MutatorSteps.{mutator_next, task_place, places_after}
use Rattle.mako_sitting_mutators.proofs.MutatorBeside.{leaves}
use Rattle.mako_sitting_mutators.proofs.MutatorPuts.{attempt_place, wait_place}
use Rattle.mako_sitting_mutators.proofs.MutatorHeld.{empty_after}
use Rattle.mako_sitting_mutators.proofs.MutatorQuiet.{attempt_leaves, wait_leaves, end_words}
use Rattle.mako_sitting_mutators.proofs.MutatorWords.{StoresBarrier}

-- where a put stores a name into its barrier slot, the mutator's own ring stands up to its place after the step
abbrev pub CollectorIsLeft : Numbers → JointScene → (ℕ → ℕ) → ℕ → Driving → Collecting → Type 0
CollectorIsLeft n s places m d c = (put : Calling) (at : Located) (args : Put) (old : Name)
    → d.progress.task ≡ Attempting put → put.stage ≡ Putting at args (StoringBarrier old)
    → BarrierRing n (stepped s m d).words m (slice_index c.kept.barrier_at m) (places_after places s m d m)

-- a barrier is stored into a slot that was found empty
pub barrier_empty : (n : Numbers) (h : Heap) (words : List ℕ) (m slot : ℕ) (st : CallStage)
    → StageKeeps n h words m slot st → StoresBarrier st → word_at n words (barrier m slot) ≡ 0
barrier_empty n h words m slot (Putting at put (StoringBarrier old)) k may = k.1
barrier_empty n h words m slot (Putting at put PutHeader) k may = absurd may
barrier_empty n h words m slot (Putting at put LoadingOld) k may = absurd may
barrier_empty n h words m slot (Putting at put (LookingAtBarrier old)) k may = absurd may
barrier_empty n h words m slot (Putting at put StoringPut) k may = absurd may
barrier_empty n h words m slot Arriving k may = absurd may
barrier_empty n h words m slot (Rooting s) k may = absurd may
barrier_empty n h words m slot (Entering e s) k may = absurd may
barrier_empty n h words m slot (Moving e s) k may = absurd may
barrier_empty n h words m slot (Getting at get s) k may = absurd may
barrier_empty n h words m slot (Allocating s) k may = absurd may
barrier_empty n h words m slot (Asking s) k may = absurd may
barrier_empty n h words m slot (Leaving s) k may = absurd may
barrier_empty n h words m slot (Ended outcome) k may = absurd may

module _ (n : Numbers) (w : Facts) (s : JointScene) (seats : List Seat) (m : ℕ) (d : Driving)
    (all : AllSit n w s seats) (here : slice_get seats m ≡ Some (Mutator d)) (act : IsAct (drivers.next_of d)) where
  sits : MutatorSits n w s (all.places m) m d
  sits = all.each m (Mutator d) here

  filled_by : (t : Task) → d.progress.task ≡ t → TaskKeeps n (state_of w s.front.history) s.words m t → (slot : ℕ)
      → slot < n.ring → word_at n s.words (barrier m slot) ≢ 0
      → word_at n (stepped s m d).words (barrier m slot) ≡ word_at n s.words (barrier m slot)
  filled_by (Attempting c) is keeps slot inside filled =
      attempt_leaves n w s seats m d all here act c is (barrier m slot) (sits.keeps.in_range, inside)
      (λ may. filled (ap (λ x. word_at n s.words (barrier m x)) may.1
      ∙ barrier_empty n (state_of w s.front.history) s.words m c.slot c.stage keeps may.2))
  filled_by (Awaiting c) is keeps slot inside filled =
      let wait = subst (TaskIsKnown d.caller d.calls d.progress.done) is sits.keeps.known.progress.task in
      let asks = only_asks c.caller.shape c.stage
      (subst (λ q. StageOf c.caller.shape q c.stage) wait.collects wait.known.agrees) wait.open_ in
      wait_leaves n w s seats m d all here act c is (barrier m slot) (sits.keeps.in_range, inside)
      (λ may. subst StoresBarrier asks.is may.2)
  filled_by Finishing is keeps slot inside filled =
      ap (λ us. word_at n us (barrier m slot)) (end_words n w s seats m d all here act is)
      ∙ word_other n s.words finished (barrier m slot) (after_op (Add 1) (word_at n s.words finished)) tt
      (sits.keeps.in_range, inside) (λ e. (let c : ⊥ = cc in c))
  filled_by TaskEnded is keeps slot inside filled =
      absurd (subst (λ t. IsAct (drivers.task_next d.caller t)) is act)

  -- a filled slot stays as it is
  filled_stays : (i slot : ℕ) → i < n.mutators → slot < n.ring → word_at n s.words (barrier i slot) ≢ 0
      → word_at n (stepped s m d).words (barrier i slot) ≡ word_at n s.words (barrier i slot)
  filled_stays i slot low inside filled = elim (cases_eq i m) [
    | inl same ↦
        subst (λ j. word_at n s.words (barrier j slot) ≢ 0
        → word_at n (stepped s m d).words (barrier j slot) ≡ word_at n s.words (barrier j slot)) (sym same)
        (filled_by d.progress.task refl sits.keeps.counts slot inside) filled
    | inr apart ↦ leaves n w s seats m d all here act (barrier i slot) (low, inside) apart
  ]

  module _ (k : Holdings) (known : IsKeptKnown k) (shape : k.shape ≡ n) where
    pub at_low : (i : ℕ) → i < n.mutators → slice_index k.barrier_at i < n.ring
    at_low i low =
        let count : length k.barrier_at ≡ n.mutators =
        known.barriers_count ∙ ap (λ (x : Numbers). x.mutators) shape in
        subst (λ (x : Numbers). slice_index k.barrier_at i < x.ring) shape (known.barriers i 0 (omega arith))

    stage_keeps : (stage : CollectStage) → StageIsKnown k stage → CollectorStageKeeps n s.words k stage
        → CollectorStageKeeps n (stepped s m d).words k stage
    stage_keeps (Barriers (BarrierClear i x)) is it =
        let low = subst (λ (j : Numbers). i < j.mutators) shape is.1.0 in (
          it.0,
          filled_stays i (slice_index k.barrier_at i) low (at_low i low)
              (λ e. (let a : name_word x ≡ 0 = sym it.1 ∙ e in omega arith)) ∙ it.1,
        )
    stage_keeps (Barriers (BarrierLook i)) is it = it
    stage_keeps (Idle stage) is it = it
    stage_keeps (Pausing stage) is it = it
    stage_keeps (Forwarding stage) is it = it
    stage_keeps (Emptying r) is it = it
    stage_keeps Polling is it = it
    stage_keeps (Choosing stage) is it = it
    stage_keeps (Noticing stage) is it = it
    stage_keeps CollectEnded is it = it

    rings : BarrierRing n (stepped s m d).words m (slice_index k.barrier_at m) (places_after all.places s m d m)
        → BarrierRingsStand n s.words all.places k
        → BarrierRingsStand n (stepped s m d).words (places_after all.places s m d) k
    rings own stand i low = elim (cases_eq i m) [
      | inl same ↦
          subst (λ j. BarrierRing n (stepped s m d).words j (slice_index k.barrier_at j)
          (places_after all.places s m d j)) (sym same) own
      | inr apart ↦
          subst (BarrierRing n (stepped s m d).words i (slice_index k.barrier_at i))
          (sym (if_other i m (task_place (all.places m) (mutator_next s d).progress.task) (all.places i) apart))
          (ring_stays n s.words (stepped s m d).words i (slice_index k.barrier_at i) (all.places i) (at_low i low)
          (λ slot inside. leaves n w s seats m d all here act (barrier i slot) (low, inside) apart) (stand i low))
    ]

    after_place : (t : Task) → d.progress.task ≡ t
        → task_place (all.places m) (drivers.task_fed d.caller d.calls d.progress t (found_by s d)).task ≡ all.places m
        → BarrierRingsStand n s.words all.places k
        → ((slot : ℕ) → slot < n.ring
        → word_at n (stepped s m d).words (barrier m slot) ≡ word_at n s.words (barrier m slot))
        → BarrierRing n (stepped s m d).words m (slice_index k.barrier_at m) (places_after all.places s m d m)
    after_place t is place stand same =
        subst (BarrierRing n (stepped s m d).words m (slice_index k.barrier_at m))
        (sym (if_same m m (task_place (all.places m) (mutator_next s d).progress.task) (all.places m) refl
        ∙ ap (λ t. task_place (all.places m) (drivers.task_fed d.caller d.calls d.progress t (found_by s d)).task) is
        ∙ place))
        (ring_stays n s.words (stepped s m d).words m (slice_index k.barrier_at m) (all.places m)
        (at_low m sits.keeps.in_range) same (stand m sits.keeps.in_range))

    plain : (c : Calling) → d.progress.task ≡ Attempting c → (StoresBarrier c.stage → ⊥)
        → calling.slot_after c.caller.shape c.slot c.stage ≡ c.slot → BarrierRingsStand n s.words all.places k
        → BarrierRing n (stepped s m d).words m (slice_index k.barrier_at m) (places_after all.places s m d m)
    plain c is none slot stand =
        let puts = subst (PutsAt (all.places m)) is sits.puts in
        after_place (Attempting c) is
        (attempt_place (all.places m) d.caller d.calls d.progress (calling.fed c (found_by s d))
        (outcome_in (calling.fed c (found_by s d)).stage) (sym (slot ∙ puts)) ∙ slot ∙ puts) stand
        (λ x inside. attempt_leaves n w s seats m d all here act c is (barrier m x) (sits.keeps.in_range, inside)
        (λ may. none may.2))

    by_stage : (c : Calling) → d.progress.task ≡ Attempting c → (st : CallStage) → c.stage ≡ st
        → BarrierRingsStand n s.words all.places k
        → ((at : Located) (args : Put) (old : Name) → c.stage ≡ Putting at args (StoringBarrier old)
        → BarrierRing n (stepped s m d).words m (slice_index k.barrier_at m) (places_after all.places s m d m))
        → BarrierRing n (stepped s m d).words m (slice_index k.barrier_at m) (places_after all.places s m d m)
    by_stage c is (Putting at put PutHeader) e stand puts =
        plain c is (λ may. subst StoresBarrier e may) (ap (calling.slot_after c.caller.shape c.slot) e) stand
    by_stage c is (Putting at put LoadingOld) e stand puts =
        plain c is (λ may. subst StoresBarrier e may) (ap (calling.slot_after c.caller.shape c.slot) e) stand
    by_stage c is (Putting at put (LookingAtBarrier old)) e stand puts =
        plain c is (λ may. subst StoresBarrier e may) (ap (calling.slot_after c.caller.shape c.slot) e) stand
    by_stage c is (Putting at put StoringPut) e stand puts =
        plain c is (λ may. subst StoresBarrier e may) (ap (calling.slot_after c.caller.shape c.slot) e) stand
    by_stage c is Arriving e stand puts =
        plain c is (λ may. subst StoresBarrier e may) (ap (calling.slot_after c.caller.shape c.slot) e) stand
    by_stage c is (Rooting s) e stand puts =
        plain c is (λ may. subst StoresBarrier e may) (ap (calling.slot_after c.caller.shape c.slot) e) stand
    by_stage c is (Entering x s) e stand puts =
        plain c is (λ may. subst StoresBarrier e may) (ap (calling.slot_after c.caller.shape c.slot) e) stand
    by_stage c is (Moving x s) e stand puts =
        plain c is (λ may. subst StoresBarrier e may) (ap (calling.slot_after c.caller.shape c.slot) e) stand
    by_stage c is (Getting at get s) e stand puts =
        plain c is (λ may. subst StoresBarrier e may) (ap (calling.slot_after c.caller.shape c.slot) e) stand
    by_stage c is (Allocating s) e stand puts =
        plain c is (λ may. subst StoresBarrier e may) (ap (calling.slot_after c.caller.shape c.slot) e) stand
    by_stage c is (Asking s) e stand puts =
        plain c is (λ may. subst StoresBarrier e may) (ap (calling.slot_after c.caller.shape c.slot) e) stand
    by_stage c is (Leaving s) e stand puts =
        plain c is (λ may. subst StoresBarrier e may) (ap (calling.slot_after c.caller.shape c.slot) e) stand
    by_stage c is (Ended outcome) e stand puts =
        plain c is (λ may. subst StoresBarrier e may) (ap (calling.slot_after c.caller.shape c.slot) e) stand
    by_stage c is (Putting at put (StoringBarrier old)) e stand puts = puts at put old e

    own_ring : (t : Task) → d.progress.task ≡ t → BarrierRingsStand n s.words all.places k
        → ((c : Calling) (at : Located) (args : Put) (old : Name) → d.progress.task ≡ Attempting c
        → c.stage ≡ Putting at args (StoringBarrier old)
        → BarrierRing n (stepped s m d).words m (slice_index k.barrier_at m) (places_after all.places s m d m))
        → BarrierRing n (stepped s m d).words m (slice_index k.barrier_at m) (places_after all.places s m d m)
    own_ring (Attempting c) is stand puts = by_stage c is c.stage refl stand (λ at args old. puts c at args old is)
    own_ring (Awaiting c) is stand puts =
        let wait = subst (TaskIsKnown d.caller d.calls d.progress.done) is sits.keeps.known.progress.task in
        let asks = only_asks c.caller.shape c.stage
        (subst (λ q. StageOf c.caller.shape q c.stage) wait.collects wait.known.agrees) wait.open_ in
        let at = subst (PutsAt (all.places m)) is sits.puts in
        let slot : calling.slot_after c.caller.shape c.slot c.stage ≡ c.slot =
        ap (calling.slot_after c.caller.shape c.slot) asks.is in
        after_place (Awaiting c) is
        (wait_place (all.places m) d.caller d.calls d.progress (calling.fed c (found_by s d))
        (outcome_in (calling.fed c (found_by s d)).stage) (sym (slot ∙ at)) ∙ slot ∙ at) stand
        (λ x inside. wait_leaves n w s seats m d all here act c is (barrier m x) (sits.keeps.in_range, inside)
        (λ may. subst StoresBarrier asks.is may.2))
    own_ring Finishing is stand puts =
        after_place Finishing is refl stand
        (λ x inside. ap (λ us. word_at n us (barrier m x)) (end_words n w s seats m d all here act is)
        ∙ word_other n s.words finished (barrier m x) (after_op (Add 1) (word_at n s.words finished)) tt
        (sits.keeps.in_range, inside) (λ e. (let c : ⊥ = cc in c)))
    own_ring TaskEnded is stand puts = absurd (subst (λ t. IsAct (drivers.task_next d.caller t)) is act)

  pub keeps_after : (i : ℕ) (c : Collecting) → CollectorSits n w s all.taker all.places i c
      → CollectorIsLeft n s all.places m d c
      → CollectorKeeps n (stepped s m d).words (places_after all.places s m d) c
  keeps_after i c it left = record {
    stage = it.keeps.stage;
    keeps = stage_keeps c.kept it.known it.here.shape c.stage it.keeps.stage it.keeps.keeps;
    empty = empty_after n w s seats m d all here act i c it;
    rings = rings c.kept it.known it.here.shape
        (own_ring c.kept it.known it.here.shape d.progress.task refl it.keeps.rings left) it.keeps.rings;
  }
