-- A mutator beside the steps of other seats.
use Rattle.std.proofs.Common.{◌≡◌, ℕ, ◌<◌, ⊎_elim, ◌==◌, cond, map, true, false, List, [], ◌∷◌, ◌++◌}
use Rattle.std.proofs.Common.{sym, ap, subst, refl, ◌∙◌}
use Rattle.mako_words.specs.declared.name.Name.{Name}
use Rattle.mako_shape.specs.declared.numbers.Numbers.{Numbers}
use Rattle.mako_record.specs.declared.copier.CopyStage.{CopyStage}
use Rattle.mako_record.specs.declared.copier.CopyStage.TheVariants.{LoadingTop as CopyTop, LoadingHeader as CopyHeader}
use Rattle.mako_record.specs.declared.copier.CopyStage.TheVariants.{StoringHeader, LoadingField as CopyField}
use Rattle.mako_record.specs.declared.copier.CopyStage.TheVariants.{StoringField as CopyStore, StoringEntry, RaisingTop}
use Rattle.mako_record.specs.declared.copier.CopyStage.TheVariants.{Ended as CopyEnded}
use Rattle.mako_model.specs.declared.call.Call.{Call}
use Rattle.mako_model.specs.declared.reply.Reply.{Reply}
use Rattle.mako_model.specs.declared.point.Point.{Point}
use Rattle.mako_model.specs.declared.point.Point.TheVariants.{Did, Snap}
use Rattle.mako_model.specs.Fronts.{replies_to, answered_by}
use Rattle.mako_model.specs.Heaps.{Heap}
use Rattle.mako_model.specs.Legal.{Facts, state_of}
use Rattle.mako_model.proofs.Histories.{state_push}
use Rattle.mako_shades.specs.Stands.{SizesStay}
use Rattle.mako_shades.proofs.Serving.{sizes_stay, sizes_same}
use Rattle.mako_call.specs.declared.object.Errand.{Errand}
use Rattle.mako_call.specs.declared.object.Put.{Put as PutArgs}
use Rattle.mako_call.specs.declared.call_stage.CallStage.{CallStage}
use Rattle.mako_call.specs.declared.call_stage.CallStage.TheVariants.{Arriving, Rooting, Entering, Moving, Getting}
use Rattle.mako_call.specs.declared.call_stage.CallStage.TheVariants.{Putting, Allocating, Asking, Leaving, Ended}
use Rattle.mako_call.specs.declared.moving.MoveStage.{MoveStage}
use Rattle.mako_call.specs.declared.moving.MoveStage.TheVariants.{TakingTurn, LoadingEntry as LoadingAgain}
use Rattle.mako_call.specs.declared.moving.MoveStage.TheVariants.{Copying as Copies, GivingTurn}
use Rattle.mako_call.specs.declared.putting.PutStage.{PutStage}
use Rattle.mako_call.specs.declared.putting.PutStage.TheVariants.{LoadingHeader as PutHeader, LoadingOld}
use Rattle.mako_call.specs.declared.putting.PutStage.TheVariants.{LookingAtBarrier, StoringBarrier, StoringField}
use Rattle.mako_mutator.specs.declared.progress.Task.{Task}
use Rattle.mako_mutator.specs.declared.progress.Task.TheVariants.{Attempting, Awaiting, Finishing, Ended as TaskEnded}
use Rattle.mako_mutator.specs.Drivers as drivers
use Rattle.mako_mutator.specs.Drivers.{Driving, TaskIsKnown}
use Rattle.mako_state.specs.Carried.{carried_of, WordStands}
use Rattle.mako_state.proofs.Points.{Preserves, preserves, says_kept, other_reply}
use Rattle.mako_mutating.specs.Mutators.{HasFields, CopyCounts, MoveCounts, PutKeeps, StageKeeps}
use Rattle.mako_mutating.specs.Mutators.{TaskKeeps}
use Rattle.mako_mutating.specs.Beside.{LeavesToMutator, GoesOnBeside, Silent, Told, Snapped, OthersLeave}

-- ---- what a mutator keeps

module _ (h after : Heap) (sizes : SizesStay h after) where
  has_fields : (object : Name) (count : ℕ) → HasFields h object count → HasFields after object count
  has_fields object count has =
      let more = sizes object has.fields has.are in
      record { fields = more.0; are = more.1; count_is = more.2 ∙ has.count_is }

  copy_counts : (object : Name) (c : CopyStage) → CopyCounts h object c → CopyCounts after object c
  copy_counts object CopyTop k = tt
  copy_counts object (CopyHeader offset) k = tt
  copy_counts object (StoringHeader offset fields) k = has_fields object fields k
  copy_counts object (CopyField offset fields field) k = has_fields object fields k
  copy_counts object (CopyStore offset fields field word) k = has_fields object fields k
  copy_counts object (StoringEntry offset fields) k = has_fields object fields k
  copy_counts object (RaisingTop offset fields) k = has_fields object fields k
  copy_counts object (CopyEnded address) k = tt

  move_counts : (e : Errand) (s : MoveStage) → MoveCounts h e s → MoveCounts after e s
  move_counts e (TakingTurn home) k = tt
  move_counts e (LoadingAgain home) k = tt
  move_counts e (Copies it) k = (k.0, copy_counts e.object it.stage k.1)
  move_counts e (GivingTurn address) k = tt

  module _ (n : Numbers) (words us : List ℕ) (m : ℕ) (leaves : LeavesToMutator n words us m) where
    put_keeps : (slot : ℕ) → slot < n.ring → (put : PutArgs) (s : PutStage) → PutKeeps n words m slot put s
        → PutKeeps n us m slot put s
    put_keeps slot low put PutHeader k = tt
    put_keeps slot low put LoadingOld k = k
    put_keeps slot low put (LookingAtBarrier old) k = k
    put_keeps slot low put (StoringBarrier old) k =
        (k.0, ⊎_elim (λ same. same ∙ k.1) (λ none. none) (leaves.barriers slot low))
    put_keeps slot low put StoringField k = tt

    stage_keeps : (slot : ℕ) → slot < n.ring → (s : CallStage) → StageKeeps n h words m slot s
        → StageKeeps n after us m slot s
    stage_keeps slot low Arriving k = tt
    stage_keeps slot low (Rooting s) k = tt
    stage_keeps slot low (Entering e s) k = tt
    stage_keeps slot low (Moving e s) k = move_counts e s k
    stage_keeps slot low (Getting at get s) k = tt
    stage_keeps slot low (Putting at put s) k = put_keeps slot low put s k
    stage_keeps slot low (Allocating s) k = tt
    stage_keeps slot low (Asking s) k = tt
    stage_keeps slot low (Leaving s) k = tt
    stage_keeps slot low (Ended outcome) k = tt

    task_keeps : (d : Driving) → drivers.IsKnown d → d.caller.shape ≡ n → (t : Task) → d.progress.task ≡ t
        → TaskKeeps n h words m t → TaskKeeps n after us m t
    task_keeps d known shape (Attempting c) is k =
        let attempt = subst (TaskIsKnown d.caller d.calls d.progress.done) is known.progress.task in
        stage_keeps c.slot
        (subst (λ z. c.slot < z.ring) (ap (λ z. z.shape) attempt.same ∙ shape) attempt.known.slot) c.stage k
    task_keeps d known shape (Awaiting c) is k = tt
    task_keeps d known shape Finishing is k = tt
    task_keeps d known shape TaskEnded is k = tt

-- the heap goes on without the mutator
record Goes (w : Facts) (history after : List Point) (m : ℕ) : Type 0 where
  pub heap : Preserves (state_of w history) (state_of w after) m
  pub sizes : SizesStay (state_of w history) (state_of w after)
  pub replies : replies_to m after ≡ replies_to m history

-- a snapshot answers nobody
snap_reply : (m cycle : ℕ) (history : List Point)
    → replies_to m (history ++ Snap cycle ∷ []) ≡ replies_to m history
snap_reply m cycle [] = refl
snap_reply m cycle (Snap other ∷ history) = snap_reply m cycle history
snap_reply m cycle (Did i c r ∷ history) = elim (i == m) as
    (λ b. map (λ (p : Call × Reply). p.1)
    (cond b ((c, r) ∷ answered_by m (history ++ Snap cycle ∷ [])) (answered_by m (history ++ Snap cycle ∷ [])))
    ≡ map (λ (p : Call × Reply). p.1) (cond b ((c, r) ∷ answered_by m history) (answered_by m history))) [
      | true ↦ ap (λ rs. r ∷ rs) (snap_reply m cycle history)
      | false ↦ snap_reply m cycle history
    ]

goes : (w : Facts) (history after : List Point) (m : ℕ) → GoesOnBeside w m history after → Goes w history after m
goes w history _ m Silent = record {
  heap = record { roots = λ q. refl; more = λ object field k. k };
  sizes = sizes_same (state_of w history);
  replies = refl;
}
goes w history _ m (Told i c r other lawful) = record {
  heap = subst (λ h. Preserves (state_of w history) h m) (sym (state_push w history (Did i c r)))
      (preserves (state_of w history) i m c r other lawful);
  sizes = sizes_stay w history (Did i c r) lawful;
  replies = other_reply i m c r history other;
}
goes w history _ m (Snapped cycle lawful) = record {
  heap = subst (λ h. Preserves (state_of w history) h m) (sym (state_push w history (Snap cycle)))
      (record { roots = λ q. refl; more = λ object field k. k });
  sizes = sizes_stay w history (Snap cycle) lawful;
  replies = snap_reply m cycle history;
}

pub others_leave : OthersLeave
others_leave n w words us front after m d keeps leaves beside =
    let on = goes w front.history after.history m beside in
    let h = state_of w front.history in
    let k = state_of w after.history in record {
      known = keeps.known;
      shape = keeps.shape;
      number = keeps.number;
      in_range = keeps.in_range;
      program = keeps.program;
      replies = keeps.replies ∙ sym on.replies;
      says = says_kept h k m on.heap d.progress.task keeps.says;
      counts = task_keeps h k on.sizes n words us m leaves d keeps.known keeps.shape d.progress.task refl keeps.counts;
      roots = λ q v low is.
          subst (λ z. WordStands (carried_of d) q z v) (sym (leaves.roots q low))
          (keeps.roots q v low (sym (on.heap.roots q) ∙ is));
    }
