-- What the steps of a mutator leave to the others: its acts are of words of its own, or of words that no mutator owns.
use Rattle.std.proofs.Common.{◌≡◌, ◌≢◌, ℕ, ◌+◌, ◌*◌, ◌<◌, inl, Bool, List, [], set, slice_index, Option, Some, None}
use Rattle.std.proofs.Common.{sym, subst, refl, arith}
use Rattle.mako_words.specs.declared.entry_word.EntryWord.{EntryWord}
use Rattle.mako_words.specs.Values.{value_word}
use Rattle.mako_shape.specs.declared.numbers.Numbers.{Numbers}
use Rattle.mako_shape.specs.Places.{Place, mutator_gate, tablet_gate, turn, root, barrier, top, entry, region_word}
use Rattle.mako_shape.specs.Places.{index, Within}
use Rattle.mako_shape.specs.Belongings.{region_of_address, word_of_address, tablet_of_entry}
use Rattle.mako_shape.proofs.BelongingLaws.{belongings_in_range, word_after}
use Rattle.mako_shape.proofs.PlaceLaws.{word_other}
use Rattle.mako_step.specs.Acts.{after_op, does, words_stepped}
use Rattle.mako_step.specs.declared.act.Op.{Op}
use Rattle.mako_step.specs.declared.act.Op.TheVariants.{Load, Store, Add, Sub}
use Rattle.mako_step.specs.declared.step.Step.{Step}
use Rattle.mako_record.specs.Copying.{copied_to}
use Rattle.mako_record.specs.declared.copier.CopyStage.{CopyStage}
use Rattle.mako_record.specs.declared.copier.CopyStage.TheVariants.{LoadingTop as CopyTop, LoadingHeader as CopyHeader}
use Rattle.mako_record.specs.declared.copier.CopyStage.TheVariants.{StoringHeader, LoadingField as CopyField}
use Rattle.mako_record.specs.declared.copier.CopyStage.TheVariants.{StoringField as CopyStore, StoringEntry, RaisingTop}
use Rattle.mako_record.specs.declared.copier.CopyStage.TheVariants.{Ended as CopyEnded}
use Rattle.mako_model.specs.declared.call.Call.{Call}
use Rattle.mako_model.specs.declared.reply.Reply.{Reply}
use Rattle.mako_model.specs.declared.point.Point.TheVariants.{Did}
use Rattle.mako_model.specs.Fronts.{Seen}
use Rattle.mako_model.specs.Legal.{Facts, IsLegal}
use Rattle.mako_model.proofs.Histories.{legal_at}
use Rattle.mako_call.specs.declared.object.Errand.{Errand}
use Rattle.mako_call.specs.declared.call_stage.CallStage.{CallStage}
use Rattle.mako_call.specs.declared.call_stage.CallStage.TheVariants.{Arriving, Rooting, Entering, Moving, Getting}
use Rattle.mako_call.specs.declared.call_stage.CallStage.TheVariants.{Putting, Allocating, Asking, Leaving, Ended}
use Rattle.mako_call.specs.declared.rooting.RootStage.TheVariants.{StoringNumber, StoringNull, LoadingCopied}
use Rattle.mako_call.specs.declared.rooting.RootStage.TheVariants.{StoringCopied, LoadingShown, LoadingSource}
use Rattle.mako_call.specs.declared.rooting.RootStage.TheVariants.{LoadingTarget, LoadingValue, LoadingPhase}
use Rattle.mako_call.specs.declared.entering.EnterStage.TheVariants.{Arriving as EnterArriving, LoadingEntry}
use Rattle.mako_call.specs.declared.entering.EnterStage.TheVariants.{LoadingHome}
use Rattle.mako_call.specs.declared.moving.MoveStage.TheVariants.{TakingTurn, LoadingEntry as LoadingAgain}
use Rattle.mako_call.specs.declared.moving.MoveStage.TheVariants.{Copying as Copies, GivingTurn}
use Rattle.mako_call.specs.declared.getting.GetStage.TheVariants.{LoadingHeader as GetHeader, LoadingField as GetField}
use Rattle.mako_call.specs.declared.getting.GetStage.TheVariants.{StoringRoot as StoringGot}
use Rattle.mako_call.specs.declared.putting.PutStage.TheVariants.{LoadingHeader as PutHeader, LoadingOld}
use Rattle.mako_call.specs.declared.putting.PutStage.TheVariants.{LookingAtBarrier, StoringBarrier, StoringField}
use Rattle.mako_call.specs.declared.leaving.LeaveStage.TheVariants.{Refused, TurnedAway, FromTablet, FromOwn}
use Rattle.mako_call.specs.Calls.{event_by, decided}
use Rattle.mako_call.specs.Calls as calling
use Rattle.mako_mutator.specs.Drivers as drivers
use Rattle.mako_mutator.specs.Drivers.{Driving}
use Rattle.mako_call.specs.Objects.{tablet_of}
use Rattle.mako_state.specs.CoreStates.{front_after}
use Rattle.mako_state.proofs.Words.{load_back}
use Rattle.mako_mutating.specs.Laws.{IsOfACall}
use Rattle.mako_mutating.specs.Beside.{LeavesToMutator, GoesOnBeside, Silent, Told, StepLeaves, StepsLeaveOthers}
use Rattle.mako_mutating.specs.Mutators.{found_by}
use Rattle.mako_mutating.proofs.Attempts.{Scene, At, attempt, driver}
use Rattle.mako_mutating.proofs.Copies.{copy}
use Rattle.mako_mutating.proofs.Puts.{aims, field_inside}
use Rattle.mako_mutating.proofs.MoveAsks.{stage_fits}
use Rattle.mako_mutating.proofs.MoveSteps.{stage_kept}
use Rattle.mako_mutating.proofs.Scenes.{scene_of, at_scene, of_scene}

-- no root or barrier slot but its own
abbrev IsOwn : ℕ → Place → Type 0
IsOwn m (root i q) = i ≡ m
IsOwn m (barrier i slot) = i ≡ m
IsOwn m p = Unit {0}

data ActsOwn (n : Numbers) (m : ℕ) : Step → Type 0 where
  looks : (a : ℕ) → ActsOwn n m (does a Load)
  acts_on : (p : Place) (op : Op) → Within n p → IsOwn m p → ActsOwn n m (does (index n p) op)

module _ (n : Numbers) (words : List ℕ) (m other : ℕ) (apart : other ≢ m) (low : other < n.mutators) where
  set_leaves : (p : Place) (v : ℕ) → Within n p → IsOwn m p → LeavesToMutator n words (set words (index n p) v) other
  set_leaves p v there own = record {
    roots = λ q in_row. word_other n words p (root other q) v there (low, in_row)
        (λ e. apart (subst (IsOwn m) (sym e) own));
    barriers = λ slot in_ring. inl (word_other n words p (barrier other slot) v there (low, in_ring)
        (λ e. apart (subst (IsOwn m) (sym e) own)));
  }

  own_leaves : (step : Step) → ActsOwn n m step → LeavesToMutator n words (words_stepped step words) other
  own_leaves _ (looks a) = subst (λ us. LeavesToMutator n words us other) (sym (load_back words a))
      (record { roots = λ q in_row. refl; barriers = λ slot in_ring. inl refl })
  own_leaves _ (acts_on p op there own) =
      set_leaves p (after_op op (slice_index words (index n p))) there own

module _ (x : Scene) (within : Bool) where
  abbrev Acts : CallStage → Type 0
  Acts s = ActsOwn x.n x.m (drivers.next_of (driver x within s))

  module _ (e : Errand) where
    module _ (found : EntryWord) (home : ℕ) where
      copied : (offset v : ℕ) → home < x.n.servers * (x.n.tablets + x.n.spare) → offset < x.n.words
          → ActsOwn x.n x.m (does (copied_to x.n home offset) (Store v))
      copied offset v low room =
          subst (λ a. ActsOwn x.n x.m (does a (Store v))) (word_after x.n home offset)
          (acts_on (region_word home offset) (Store v) (low, room) tt)

      copy_acts : (c : CopyStage) → At x within (copy x within e found home c) → Acts (copy x within e found home c)
      copy_acts CopyTop at = looks _
      copy_acts (CopyHeader offset) at = looks _
      copy_acts (StoringHeader offset fields) at =
          let copier = at.keeps.known.progress.task.known.stage.1.0 in
          let room = copier.stage.room in copied offset fields copier.home (omega arith)
      copy_acts (CopyField offset fields field) at = looks _
      copy_acts (CopyStore offset fields field word) at =
          let copier = at.keeps.known.progress.task.known.stage.1.0 in
          let room = copier.stage.0.room in
          let less = copier.stage.1 in copied (offset + 1 + field) word copier.home (omega arith)
      copy_acts (StoringEntry offset fields) at =
          acts_on (entry e.object.entry) _ at.keeps.known.progress.task.known.stage.0.0.1 tt
      copy_acts (RaisingTop offset fields) at =
          acts_on (top (tablet_of_entry x.n e.object.entry)) _
          (belongings_in_range.entry x.n e.object.entry at.keeps.known.progress.task.known.stage.0.0.1) tt
      copy_acts (CopyEnded address) at = absurd at.keeps.known.progress.task.known.stage.1.1

  stage_acts : (s : CallStage) → IsOfACall s → At x within s → Acts s
  stage_acts Arriving of at = acts_on (mutator_gate x.m) (Add 1) at.keeps.in_range tt
  stage_acts (Rooting (StoringNumber to number)) of at =
      acts_on (root x.m to) _ (at.keeps.in_range, at.keeps.known.progress.task.known.stage.0) refl
  stage_acts (Rooting (StoringNull to)) of at =
      acts_on (root x.m to) _ (at.keeps.in_range, at.keeps.known.progress.task.known.stage) refl
  stage_acts (Rooting (LoadingCopied to from)) of at = looks _
  stage_acts (Rooting (StoringCopied to value)) of at =
      acts_on (root x.m to) _ (at.keeps.in_range, at.keeps.known.progress.task.known.stage.0) refl
  stage_acts (Rooting (LoadingShown from)) of at = looks _
  stage_acts (Rooting (LoadingSource to from field)) of at = looks _
  stage_acts (Rooting (LoadingTarget to field from)) of at = looks _
  stage_acts (Rooting (LoadingValue object field from)) of at = looks _
  stage_acts (Rooting (LoadingPhase object field value)) of at = looks _
  stage_acts (Entering e EnterArriving) of at =
      acts_on (tablet_gate (tablet_of x.n e.object)) (Add 1)
      (belongings_in_range.entry x.n e.object.entry at.keeps.known.progress.task.known.stage.0.0.1) tt
  stage_acts (Entering e LoadingEntry) of at = looks _
  stage_acts (Entering e (LoadingHome found)) of at = looks _
  stage_acts (Moving e (TakingTurn home)) of at =
      acts_on (turn (tablet_of x.n e.object)) _
      (belongings_in_range.entry x.n e.object.entry at.keeps.known.progress.task.known.stage.0.0.1) tt
  stage_acts (Moving e (LoadingAgain home)) of at = looks _
  stage_acts (Moving e (Copies it)) of at =
      subst (λ c. At x within (Moving e (Copies c)) → Acts (Moving e (Copies c))) (sym it_is)
      (λ here. copy_acts e it.entry it.home it.stage here) at
    where
      it_is : it ≡ record {
        shape = x.n;
        number = e.object.entry;
        entry = it.entry;
        home = it.home;
        stage = it.stage;
      }
      it_is =
          let shape = at.keeps.known.progress.task.known.stage.1.2 in
          let number = at.keeps.counts.0 in
          λ i. record { shape = shape i; number = number i; entry = it.entry; home = it.home; stage = it.stage }
  stage_acts (Moving e (GivingTurn address)) of at =
      acts_on (turn (tablet_of x.n e.object)) (Store 0)
      (belongings_in_range.entry x.n e.object.entry at.keeps.known.progress.task.known.stage.0.0.1) tt
  stage_acts (Getting l get GetHeader) of at = looks _
  stage_acts (Getting l get GetField) of at = looks _
  stage_acts (Getting l get (StoringGot v)) of at =
      acts_on (root x.m get.to) _ (at.keeps.in_range, at.keeps.known.progress.task.known.stage.1.0) refl
  stage_acts (Putting l put PutHeader) of at = looks _
  stage_acts (Putting l put LoadingOld) of at = looks _
  stage_acts (Putting l put (LookingAtBarrier old)) of at = looks _
  stage_acts (Putting l put (StoringBarrier old)) of at =
      acts_on (barrier x.m x.slot) _ (at.keeps.in_range, at.keeps.known.progress.task.known.slot) refl
  stage_acts (Putting l put StoringField) of at =
      let a = aims x within l put StoringField at at.keeps.says.0 in
      subst (λ i. ActsOwn x.n x.m (does i (Store (value_word put.value)))) (a.here.place put.field)
      (acts_on (region_word (region_of_address x.n l.address) (word_of_address x.n l.address + (1 + put.field)))
      (Store (value_word put.value)) (a.here.inside put.field (field_inside x within l put a at.keeps.says.1)) tt)
  stage_acts (Leaving (Refused word)) of at = acts_on (mutator_gate x.m) (Sub 1) at.keeps.in_range tt
  stage_acts (Leaving (TurnedAway t word)) of at =
      acts_on (tablet_gate t) (Sub 1) at.keeps.known.progress.task.known.stage tt
  stage_acts (Leaving (FromTablet t outcome)) of at =
      acts_on (tablet_gate t) (Sub 1) at.keeps.known.progress.task.known.stage tt
  stage_acts (Leaving (FromOwn outcome)) of at = acts_on (mutator_gate x.m) (Sub 1) at.keeps.in_range tt
  stage_acts (Allocating s) of at = absurd of
  stage_acts (Asking s) of at = absurd of
  stage_acts (Ended outcome) of at = absurd of

-- what is told, if anything, is an answer of this mutator's, which is lawful where the history after it is legal
told_beside : (w : Facts) (front : Seen) (m other : ℕ) → other ≢ m → (c : Call) (before after : Option Reply)
    → IsLegal w (front_after front [] (event_by m c before after)).history
    → GoesOnBeside w other front.history (front_after front [] (event_by m c before after)).history
told_beside w front m other apart c None None legal = Silent
told_beside w front m other apart c None (Some r) legal =
    Told m c r apart (legal_at w front.history (Did m c r) [] legal)
told_beside w front m other apart c (Some earlier) after legal = Silent

pub steps_leave_others : StepsLeaveOthers
steps_leave_others n w s j m d stage of is other apart low =
    let x = scene_of n w s j m d stage is in
    let at = at_scene n w s j m d stage is in
    let within = d.progress.within in
    let driving = driver x within stage in
    let kept = stage_kept x within stage of at (stage_fits x within is.small stage of at) in
    let c = attempt x x.slot stage in
    of_scene n w s j m d stage is (λ e. StepLeaves n w s m e other) (record {
      words = own_leaves n s.words m other apart low (drivers.next_of driving) (stage_acts x within stage of at);
      history = told_beside w s.front m other apart x.call (decided stage)
          (decided (calling.fed c (found_by s driving)).stage) kept.0.names.hold.answers.lawful.legal;
    })
