-- What the next step of an attempt asks of the words while it moves its object's record; and that of all stages.
use Rattle.std.proofs.Common.{◌≡◌, ℕ, ◌+◌, ◌*◌, ◌<◌, Bool, List, length, Some, sym, ap, subst, refl, ◌∙◌, arith}
use Rattle.mako_words.specs.declared.entry_word.EntryWord.{EntryWord}
use Rattle.mako_shape.specs.Places.{turn, top, entry, region_word}
use Rattle.mako_shape.specs.Belongings.{tablet_of_entry}
use Rattle.mako_shape.proofs.BelongingLaws.{belongings_in_range, word_after}
use Rattle.mako_shape.proofs.PlaceLaws.{index_below}
use Rattle.mako_gate.specs.Standings.{mutator_at}
use Rattle.mako_step.specs.Acts.{finds}
use Rattle.mako_step.specs.Machines.{IsAct, CanStep}
use Rattle.mako_step.specs.declared.step.Step.{Step}
use Rattle.mako_step.specs.declared.step.Step.TheVariants.{Do, Ended as NoStep}
use Rattle.mako_record.specs.Copying as copying
use Rattle.mako_record.specs.Copying.{copied_to}
use Rattle.mako_record.specs.declared.copier.CopyStage.{CopyStage}
use Rattle.mako_record.specs.declared.copier.CopyStage.TheVariants.{LoadingTop as CopyTop, LoadingHeader as CopyHeader}
use Rattle.mako_record.specs.declared.copier.CopyStage.TheVariants.{StoringHeader, LoadingField as CopyField}
use Rattle.mako_record.specs.declared.copier.CopyStage.TheVariants.{StoringField as CopyStore, StoringEntry, RaisingTop}
use Rattle.mako_record.specs.declared.copier.CopyStage.TheVariants.{Ended as CopyEnded}
use Rattle.mako_model.specs.Heaps.{fields_of}
use Rattle.mako_model.specs.Sizes.{ObjectsAreSmall}
use Rattle.mako_call.specs.declared.object.Errand.{Errand}
use Rattle.mako_call.specs.declared.call_stage.CallStage.{CallStage}
use Rattle.mako_call.specs.declared.call_stage.CallStage.TheVariants.{Arriving, Rooting, Entering, Moving, Getting}
use Rattle.mako_call.specs.declared.call_stage.CallStage.TheVariants.{Putting, Allocating, Asking, Leaving, Ended}
use Rattle.mako_call.specs.declared.rooting.RootStage.TheVariants.{StoringNumber, StoringNull, LoadingCopied}
use Rattle.mako_call.specs.declared.rooting.RootStage.TheVariants.{StoringCopied, LoadingShown, LoadingSource}
use Rattle.mako_call.specs.declared.rooting.RootStage.TheVariants.{LoadingTarget, LoadingValue, LoadingPhase}
use Rattle.mako_call.specs.declared.entering.EnterStage.TheVariants.{Arriving as EnterArriving, LoadingEntry}
use Rattle.mako_call.specs.declared.entering.EnterStage.TheVariants.{LoadingHome}
use Rattle.mako_call.specs.declared.moving.MoveStage.{MoveStage}
use Rattle.mako_call.specs.declared.moving.MoveStage.TheVariants.{TakingTurn, LoadingEntry as LoadingAgain}
use Rattle.mako_call.specs.declared.moving.MoveStage.TheVariants.{Copying as Copies, GivingTurn}
use Rattle.mako_call.specs.declared.getting.GetStage.TheVariants.{LoadingHeader as GetHeader, LoadingField as GetField}
use Rattle.mako_call.specs.declared.getting.GetStage.TheVariants.{StoringRoot as StoringGot}
use Rattle.mako_call.specs.declared.putting.PutStage.TheVariants.{LoadingHeader as PutHeader, LoadingOld}
use Rattle.mako_call.specs.declared.putting.PutStage.TheVariants.{LookingAtBarrier, StoringBarrier, StoringField}
use Rattle.mako_call.specs.declared.leaving.LeaveStage.TheVariants.{Refused, TurnedAway, FromTablet, FromOwn}
use Rattle.mako_mutator.specs.Drivers as drivers
use Rattle.mako_call.specs.Moving.{CopyGoesOn}
use Rattle.mako_call.specs.Objects.{tablet_of}
use Rattle.mako_layout.specs.Facets.{moves}
use Rattle.mako_layout.specs.Evacuations.{layout, slot_at}
use Rattle.mako_layout.proofs.Found.{tops_are_found, addresses_are_found, records_are_found}
use Rattle.mako_layout.proofs.Roles.{copy_fits}
use Rattle.mako_state.specs.Standings.{stage_standing}
use Rattle.mako_joint.proofs.Epochs.{held_within}
use Rattle.mako_joint.proofs.Heaps.{header_at}
use Rattle.mako_mutating.specs.Laws.{IsOfACall}
use Rattle.mako_mutating.specs.Mutators.{found_by}
use Rattle.mako_mutating.proofs.Asks.{Asks, at_address, at_place, arriving_asks, leaving_asks, rooting_asks}
use Rattle.mako_mutating.proofs.Asks.{entering_asks, getting_asks, putting_asks}
use Rattle.mako_mutating.proofs.Attempts.{Scene, At, driver, heap, st, seat}
use Rattle.mako_mutating.proofs.Copies.{copy, record_here, knows_fills}
use Rattle.mako_mutating.proofs.Moves.{may_write}
use Rattle.mako_mutating.proofs.Objects.{has_object, object_taken}

module _ (x : Scene) (within : Bool) (e : Errand) where
  abbrev y : ℕ
  y = e.object.entry

  module _ (found : EntryWord) (home : ℕ) where
    -- a word of the copy
    there : (offset : ℕ) → home < x.n.servers * (x.n.tablets + x.n.spare) → offset < x.n.words
        → copied_to x.n home offset < length x.s.words
    there offset low room =
        let below = index_below x.n (region_word home offset) (low, room) in
        let after_it = word_after x.n home offset in at_address x (copied_to x.n home offset) (omega arith)

    -- the record that is copied ends within the words, and its copy within the home
    copying_asks : ObjectsAreSmall (heap x) → (c : CopyStage) → At x within (copy x within e found home c)
        → Asks x within (copy x within e found home c)
    copying_asks small CopyTop at =
        let g = mutator_at x.m (stage_standing x.n (copy x within e found home CopyTop)) in
        let t = tablet_of_entry x.n y in
        let low = belongings_in_range.entry x.n y at.keeps.known.progress.task.known.stage.0.0.1 in (
          at_place x (top t) low,
          tt,
          tops_are_found x.n (st x) x.j.layout x.m t g (moves y found home)
              (seat x within (copy x within e found home CopyTop) at) low (may_write x.m t) (λ z. (refl, refl)),
        )
    copying_asks small (CopyHeader offset) at =
        let c = CopyHeader offset in
        let copier = at.keeps.known.progress.task.known.stage.1.0 in
        let r = record_here x within e found home c at in
        let slot = slot_at x.n (st x) y in
        let knows = knows_fills x within e found home c at offset 0 refl in
        let same = knows.as_found.address in
        let count = header_at x.n x.s.words slot.region slot.offset r.rec.fields found.address same r.rec.words in
        let are : fields_of (heap x) e.object ≡ Some r.rec.fields =
        sym (ap (fields_of (heap x)) r.name_is) ∙ r.rec.are in
        let few = small e.object r.rec.fields are in
        let record_is = records_are_found x.n (st x) x.j.layout y knows.inside knows.taken r.rec.fields r.rec.are in
        let inside = record_is.inside in
        let address = r.rec.address in
        let size = record_is.size in
        let room =
        copy_fits x.n (layout x.n (st x)) x.j.layout.copy y knows.inside knows.taken knows.epoch
        (λ is. knows.out (is ∙ sym knows.kept.region)) in
        let offset_is = knows.kept.offset in (
          at_address x found.address copier.address.1,
          tt,
          (omega arith, omega arith, omega arith),
        )
    copying_asks small (StoringHeader offset fields) at =
        let copier = at.keeps.known.progress.task.known.stage.1.0 in
        let room = copier.stage.room in (there offset copier.home (omega arith), tt, tt)
    copying_asks small (CopyField offset fields field) at =
        let copier = at.keeps.known.progress.task.known.stage.1.0 in
        let inside = copier.stage.0.inside in
        let less = copier.stage.1 in (at_address x (found.address + 1 + field) (omega arith), tt, tt)
    copying_asks small (CopyStore offset fields field word) at =
        let copier = at.keeps.known.progress.task.known.stage.1.0 in
        let room = copier.stage.0.room in
        let less = copier.stage.1 in (there (offset + 1 + field) copier.home (omega arith), tt, tt)
    copying_asks small (StoringEntry offset fields) at =
        (at_place x (entry y) at.keeps.known.progress.task.known.stage.0.0.1, tt, tt)
    copying_asks small (RaisingTop offset fields) at =
        let low = belongings_in_range.entry x.n y at.keeps.known.progress.task.known.stage.0.0.1 in
        (at_place x (top (tablet_of_entry x.n y)) low, tt, tt)
    copying_asks small (CopyEnded address) at = absurd at.keeps.known.progress.task.known.stage.1.1

  pub moving_asks : ObjectsAreSmall (heap x) → (s : MoveStage) → At x within (Moving e s) → Asks x within (Moving e s)
  moving_asks small (TakingTurn home) at =
      let low = belongings_in_range.entry x.n y at.keeps.known.progress.task.known.stage.0.0.1 in
      (at_place x (turn (tablet_of x.n e.object)) low, tt, tt)
  moving_asks small (LoadingAgain home) at =
      let has = has_object x within (Moving e (LoadingAgain home)) at e.object e.access refl in
      let inside = held_within x.n x.w x.s x.m y x.j has in (
        at_place x (entry y) inside,
        tt,
        addresses_are_found x.n (st x) x.j.layout y inside (object_taken x within y has),
      )
  moving_asks small (Copies it) at =
      subst (λ c. At x within (Moving e (Copies c)) → Asks x within (Moving e (Copies c))) (sym it_is)
      (λ here. copying_asks it.entry it.home small it.stage here) at
    where
      it_is : it ≡ record { shape = x.n; number = y; entry = it.entry; home = it.home; stage = it.stage }
      it_is =
          let shape = at.keeps.known.progress.task.known.stage.1.2 in
          let number = at.keeps.counts.0 in
          λ i. record { shape = shape i; number = number i; entry = it.entry; home = it.home; stage = it.stage }
  moving_asks small (GivingTurn address) at =
      let low = belongings_in_range.entry x.n y at.keeps.known.progress.task.known.stage.0.0.1 in
      (at_place x (turn (tablet_of x.n e.object)) low, tt, tt)

-- ---- all stages
module _ (x : Scene) (within : Bool) where
  pub stage_asks : ObjectsAreSmall (heap x) → (s : CallStage) → IsOfACall s → At x within s → Asks x within s
  stage_asks small Arriving of at = arriving_asks x within at
  stage_asks small (Rooting s) of at = rooting_asks x within s at
  stage_asks small (Entering e s) of at = entering_asks x within e s at
  stage_asks small (Moving e s) of at = moving_asks x within e small s at
  stage_asks small (Getting l get s) of at = getting_asks x within l get s at
  stage_asks small (Putting l put s) of at = putting_asks x within l put s at
  stage_asks small (Leaving s) of at = leaving_asks x within s at
  stage_asks small (Allocating s) of at = absurd of
  stage_asks small (Asking s) of at = absurd of
  stage_asks small (Ended outcome) of at = absurd of

  -- each of them acts
  copy_acts : (e : Errand) (it : copying.Copying) → At x within (Moving e (Copies it))
      → IsAct (copying.next_of it)
  copy_acts e it at = by it.stage at.keeps.known.progress.task.known.stage.1.1
    where
      by : (c : CopyStage) → CopyGoesOn c → IsAct (copying.copy_next it.shape it.number it.entry it.home c)
      by CopyTop on = tt
      by (CopyHeader offset) on = tt
      by (StoringHeader offset fields) on = tt
      by (CopyField offset fields field) on = tt
      by (CopyStore offset fields field word) on = tt
      by (StoringEntry offset fields) on = tt
      by (RaisingTop offset fields) on = tt
      by (CopyEnded address) on = absurd on

  pub stage_acts : (s : CallStage) → IsOfACall s → At x within s → IsAct (drivers.next_of (driver x within s))
  stage_acts Arriving of at = tt
  stage_acts (Rooting (StoringNumber to number)) of at = tt
  stage_acts (Rooting (StoringNull to)) of at = tt
  stage_acts (Rooting (LoadingCopied to from)) of at = tt
  stage_acts (Rooting (StoringCopied to value)) of at = tt
  stage_acts (Rooting (LoadingShown from)) of at = tt
  stage_acts (Rooting (LoadingSource to from field)) of at = tt
  stage_acts (Rooting (LoadingTarget to field from)) of at = tt
  stage_acts (Rooting (LoadingValue object field from)) of at = tt
  stage_acts (Rooting (LoadingPhase object field value)) of at = tt
  stage_acts (Entering e EnterArriving) of at = tt
  stage_acts (Entering e LoadingEntry) of at = tt
  stage_acts (Entering e (LoadingHome found)) of at = tt
  stage_acts (Moving e (TakingTurn home)) of at = tt
  stage_acts (Moving e (LoadingAgain home)) of at = tt
  stage_acts (Moving e (Copies it)) of at = copy_acts e it at
  stage_acts (Moving e (GivingTurn address)) of at = tt
  stage_acts (Getting l get GetHeader) of at = tt
  stage_acts (Getting l get GetField) of at = tt
  stage_acts (Getting l get (StoringGot v)) of at = tt
  stage_acts (Putting l put PutHeader) of at = tt
  stage_acts (Putting l put LoadingOld) of at = tt
  stage_acts (Putting l put (LookingAtBarrier old)) of at = tt
  stage_acts (Putting l put (StoringBarrier old)) of at = tt
  stage_acts (Putting l put StoringField) of at = tt
  stage_acts (Leaving (Refused word)) of at = tt
  stage_acts (Leaving (TurnedAway t word)) of at = tt
  stage_acts (Leaving (FromTablet t outcome)) of at = tt
  stage_acts (Leaving (FromOwn outcome)) of at = tt
  stage_acts (Allocating s) of at = absurd of
  stage_acts (Asking s) of at = absurd of
  stage_acts (Ended outcome) of at = absurd of

  -- so it can go on with what it finds
  can_fit : (step : Step) (words : List ℕ) (Fits : ℕ → Type 0) → CanStep step words Fits → IsAct step
      → Fits (finds step words)
  can_fit (Do a) words Fits can acts = can.2
  can_fit NoStep words Fits can acts = absurd acts

  pub stage_fits : ObjectsAreSmall (heap x) → (s : CallStage) → IsOfACall s → At x within s
      → drivers.Fits (driver x within s) (found_by x.s (driver x within s))
  stage_fits small s of at =
      can_fit (drivers.next_of (driver x within s)) x.s.words (drivers.Fits (driver x within s))
      (stage_asks small s of at) (stage_acts s of at)
