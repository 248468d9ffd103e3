-- Where a put stores a name into its barrier slot, the mutator's ring stands up to the next place.
use Rattle.std.proofs.Common.{◌≡◌, ℕ, ◌<◌, List, set, Some, sym, ap, subst, refl, ◌∙◌, arith}
use Rattle.std.specs.Prelude.{slice_get, slice_index}
use Rattle.mako_words.specs.declared.name.Name.{Name}
use Rattle.mako_words.specs.Names.{name_word}
use Rattle.mako_shape.specs.declared.numbers.Numbers.{Numbers}
use Rattle.mako_shape.specs.Places.{barrier, index, word_at}
use Rattle.mako_step.specs.Machines.{IsAct}
use Rattle.mako_step.specs.Acts.{words_stepped}
use Rattle.mako_model.specs.Legal.{Facts, state_of}
use Rattle.mako_ring.specs.Contents.{after_place}
use Rattle.mako_call.specs.Calls as calling
use Rattle.mako_call.specs.Calls.{Calling, outcome_in}
use Rattle.mako_call.specs.declared.call_stage.CallStage.{CallStage}
use Rattle.mako_call.specs.declared.call_stage.CallStage.TheVariants.{Putting}
use Rattle.mako_call.specs.declared.object.Located.{Located}
use Rattle.mako_call.specs.declared.object.Put.{Put}
use Rattle.mako_call.specs.declared.putting.PutStage.TheVariants.{StoringBarrier}
use Rattle.mako_mutator.specs.declared.progress.Task.TheVariants.{Attempting}
use Rattle.mako_mutator.specs.Drivers as drivers
use Rattle.mako_mutator.specs.Drivers.{Driving, TaskIsKnown}
use Rattle.mako_joint.specs.Joints.{JointScene}
use Rattle.mako_pause.specs.Collecting.{Collecting}
use Rattle.mako_seat.specs.declared.seat.Seat.{Seat}
use Rattle.mako_seat.specs.declared.seat.Seat.TheVariants.{Mutator}
use Rattle.mako_mutating.specs.Mutators.{found_by, stepped, TaskKeeps}
use Rattle.mako_collecting.specs.Keeping.{BarrierRing}
use Rattle.mako_collecting.proofs.BarrierRings.{ring_put}
use Rattle.mako_tracing.proofs.Lists.{if_same}
use Rattle.mako_sitting.specs.Seats.{AllSit, MutatorSits, PutsAt, CollectorSits}
use Rattle.mako_sitting_mutators.specs.MutatorSteps.{mutator_next, task_place, places_after}
use Rattle.mako_sitting_mutators.proofs.MutatorQuiet.{words_by}
use Rattle.mako_sitting_mutators.proofs.MutatorRings.{CollectorIsLeft, at_low, barrier_empty}
use Rattle.mako_sitting_mutators.proofs.MutatorWords.{StoresBarrier}

module _ (n : Numbers) (w : Facts) (s : JointScene) (seats : List Seat) (m : ℕ) (d : Driving)
    (all : AllSit n w s seats) (here : slice_get seats m ≡ Some (Mutator d)) (act : IsAct (drivers.next_of d)) where
  sits : MutatorSits n w s (all.places m) m d
  sits = all.each m (Mutator d) here

  module _ (put : Calling) (at : Located) (args : Put) (old : Name) (is : d.progress.task ≡ Attempting put)
      (st : put.stage ≡ Putting at args (StoringBarrier old)) where
    pub known : calling.IsKnown put
    known = (subst (TaskIsKnown d.caller d.calls d.progress.done) is sits.keeps.known.progress.task).known

    same : put.caller ≡ d.caller
    same = (subst (TaskIsKnown d.caller d.calls d.progress.done) is sits.keeps.known.progress.task).same

    shape : put.caller.shape ≡ n
    shape = ap (λ k. k.shape) same ∙ sits.keeps.shape

    number : put.caller.mutator ≡ m
    number = ap (λ k. k.mutator) same ∙ sits.keeps.number

    slot : put.slot ≡ all.places m
    slot = subst (PutsAt (all.places m)) is sits.puts

    -- the words after it
    pub stored : set s.words (index n (barrier m (all.places m))) (name_word old) ≡ (stepped s m d).words
    stored =
        (λ i. set s.words (index (sym shape i) (barrier (sym number i) (sym slot i))) (name_word old))
        ∙ ap (λ t. words_stepped (calling.stage_next put.caller put.slot t) s.words) (sym st)
        ∙ words_by n w s seats m d all here act (Attempting put) is

    -- the place after it
    goes_to : CallStage → ℕ
    goes_to t =
        let c = calling.fed (record put { stage = t }) (found_by s d) in
        task_place (all.places m) (drivers.attempt_on d.caller d.calls d.progress c (outcome_in c.stage)).task

    place : after_place n.ring (all.places m) ≡ places_after all.places s m d m
    unfolding goes_to
    place =
        (λ i. after_place (sym shape i).ring (sym slot i))
        ∙ ap goes_to (sym st)
        ∙ sym (ap (λ t. task_place (all.places m)
        (drivers.task_fed d.caller d.calls d.progress t (found_by s d)).task) is)
        ∙ sym (if_same m m (task_place (all.places m) (mutator_next s d).progress.task) (all.places m) refl)

    is_empty : word_at n s.words (barrier m (all.places m)) ≡ 0
    is_empty =
        ap (λ x. word_at n s.words (barrier m x)) (sym slot)
        ∙ barrier_empty n (state_of w s.front.history) s.words m put.slot put.stage
        (subst (TaskKeeps n (state_of w s.front.history) s.words m) is sits.keeps.counts)
        (subst StoresBarrier (sym st) tt)

    pub place_low : all.places m < n.ring
    place_low = subst (λ x. x < n.ring) slot (subst (λ (k : Numbers). put.slot < k.ring) shape known.slot)

    ring_goes_on : (i : ℕ) (c : Collecting) → CollectorSits n w s all.taker all.places i c
        → BarrierRing n (stepped s m d).words m (slice_index c.kept.barrier_at m) (places_after all.places s m d m)
    ring_goes_on i c it =
        let k = c.kept in
        subst (BarrierRing n (stepped s m d).words m (slice_index k.barrier_at m)) place
        (subst (λ us. BarrierRing n us m (slice_index k.barrier_at m) (after_place n.ring (all.places m))) stored
        (ring_put n s.words m (slice_index k.barrier_at m) (all.places m) (name_word old) all.joint.names.hold.size
        sits.keeps.in_range (at_low n w s seats m d all here act k it.known it.here.shape m sits.keeps.in_range)
        place_low is_empty (λ e. omega arith) (it.keeps.rings m sits.keeps.in_range)))

  pub collector_left : (i : ℕ) (c : Collecting) → CollectorSits n w s all.taker all.places i c
      → CollectorIsLeft n s all.places m d c
  collector_left i c it put at args old is st = ring_goes_on put at args old is st i c it
