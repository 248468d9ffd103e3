-- What a mutator keeps of itself, over steps that change neither its roots nor their words.
use Rattle.std.proofs.Common.{◌≡◌, ℕ, ◌<◌, Bool, List, [], ◌∷◌, ◌++◌, Option, Some, None, sym, ap, subst, refl, ◌∙◌}
use Rattle.std.proofs.Common.{append-nil}
use Rattle.mako_shape.specs.declared.numbers.Numbers.{Numbers}
use Rattle.mako_shape.specs.Places.{root, word_at}
use Rattle.mako_step.specs.Acts.{words_after}
use Rattle.mako_step.specs.declared.act.Op.TheVariants.{Load}
use Rattle.mako_model.specs.declared.call.Call.{Call}
use Rattle.mako_model.specs.declared.call.Call.TheVariants as call
use Rattle.mako_model.specs.declared.point.Point.TheVariants.{Did, Snap}
use Rattle.mako_model.specs.Fronts.{Seen, replies_to, with_point}
use Rattle.mako_model.specs.Heaps.{Heap, root_of}
use Rattle.mako_model.specs.Lawful.{heap_after}
use Rattle.mako_model.specs.Legal.{Facts, state_of}
use Rattle.mako_model.proofs.Histories.{state_push}
use Rattle.mako_call.specs.declared.caller.Caller.{Caller}
use Rattle.mako_call.specs.declared.call_stage.CallStage.{CallStage}
use Rattle.mako_call.specs.declared.call_stage.CallStage.TheVariants.{Arriving, Rooting, Entering, Moving, Getting}
use Rattle.mako_call.specs.declared.call_stage.CallStage.TheVariants.{Putting, Allocating, Asking, Leaving, Ended}
use Rattle.mako_call.specs.declared.allocating.AllocStage.{AllocStage}
use Rattle.mako_call.specs.declared.allocating.AllocStage.TheVariants.{LoadingPhase as NewPhase, Searching, StoringRoot}
use Rattle.mako_call.specs.declared.allocating.AllocStage.TheVariants.{GivingTurn as GivingNewTurn}
use Rattle.mako_mutator.specs.declared.progress.Task.{Task}
use Rattle.mako_mutator.specs.declared.progress.Task.TheVariants.{Attempting, Awaiting, Finishing, Ended as TaskEnded}
use Rattle.mako_call.specs.Calls.{first_stage}
use Rattle.mako_mutator.specs.Drivers as drivers
use Rattle.mako_mutator.specs.Drivers.{Driving, task_for, told_reply}
use Rattle.mako_model.specs.declared.event.Event.{Event}
use Rattle.mako_model.specs.declared.event.Event.TheVariants.{Nothing, Answered, Snapped, Finished}
use Rattle.mako_joint.specs.Joints.{JointScene}
use Rattle.mako_state.specs.Carried.{stage_carried, task_carried, WordStands}
use Rattle.mako_state.specs.CoreStates.{front_after}
use Rattle.mako_state.specs.Says.{StageSays, TaskSays}
use Rattle.mako_state.proofs.Points.{own_reply}
use Rattle.mako_state.proofs.Words.{load_back}
use Rattle.mako_mutating.specs.Mutators.{MutatorKeeps, StageKeeps, TaskKeeps}

-- ---- stages that say nothing of roots

abbrev pub IsBareNew : AllocStage → Type 0
IsBareNew (StoringRoot place name tablet) = ⊥
IsBareNew s = Unit {0}

abbrev pub IsBareStage : CallStage → Type 0
IsBareStage Arriving = Unit {0}
IsBareStage (Allocating s) = IsBareNew s
IsBareStage (Asking s) = Unit {0}
IsBareStage (Leaving s) = Unit {0}
IsBareStage s = ⊥

abbrev pub IsBare : Task → Type 0
IsBare (Attempting c) = IsBareStage c.stage
IsBare task = Unit {0}

pub start_is_bare : (c : Call) (asked : Option ℕ) → IsBareStage (first_stage c asked)
start_is_bare (call.New place fields) asked = tt
start_is_bare (call.Num place number) asked = tt
start_is_bare (call.CopyRoot to from) asked = tt
start_is_bare (call.DropRoot place) asked = tt
start_is_bare (call.Get to from field) asked = tt
start_is_bare (call.Put to field from) asked = tt
start_is_bare (call.Show place) asked = tt
start_is_bare call.Collect None = tt
start_is_bare call.Collect (Some cycle) = tt

pub task_is_bare : (k : Caller) (o : Option Call) (last : Bool) (asked : Option ℕ) (slot : ℕ)
    → IsBare (task_for k o last (record { asked = asked; barrier_at = slot }))
task_is_bare k None last asked slot = tt
task_is_bare k (Some c) last asked slot = start_is_bare c asked

pub says_nothing : (h : Heap) (m : ℕ) (t : Task) → IsBare t → TaskSays h m t
says_nothing h m (Attempting c) bare = by c.stage bare
  where
    by : (s : CallStage) → IsBareStage s → StageSays h m c.call s
    by Arriving b = tt
    by (Allocating s) b = tt
    by (Asking s) b = tt
    by (Leaving s) b = tt
    by (Rooting s) b = absurd b
    by (Entering e s) b = absurd b
    by (Moving e s) b = absurd b
    by (Getting l g s) b = absurd b
    by (Putting l p s) b = absurd b
    by (Ended o) b = absurd b
says_nothing h m (Awaiting c) bare = tt
says_nothing h m Finishing bare = tt
says_nothing h m TaskEnded bare = tt

pub counts_nothing : (n : Numbers) (h : Heap) (words : List ℕ) (m : ℕ) (t : Task) → IsBare t → TaskKeeps n h words m t
counts_nothing n h words m (Attempting c) bare = by c.stage bare
  where
    by : (s : CallStage) → IsBareStage s → StageKeeps n h words m c.slot s
    by Arriving b = tt
    by (Allocating s) b = tt
    by (Asking s) b = tt
    by (Leaving s) b = tt
    by (Rooting s) b = absurd b
    by (Entering e s) b = absurd b
    by (Moving e s) b = absurd b
    by (Getting l g s) b = absurd b
    by (Putting l p s) b = absurd b
    by (Ended o) b = absurd b
counts_nothing n h words m (Awaiting c) bare = tt
counts_nothing n h words m Finishing bare = tt
counts_nothing n h words m TaskEnded bare = tt

pub carries_nothing : (t : Task) → IsBare t → task_carried t ≡ None
carries_nothing (Attempting c) bare = by c.stage bare
  where
    by : (s : CallStage) → IsBareStage s → stage_carried s ≡ None
    by Arriving b = refl
    by (Allocating (NewPhase place fields)) b = refl
    by (Allocating (Searching place search)) b = refl
    by (Allocating (StoringRoot place name tablet)) b = absurd b
    by (Allocating (GivingNewTurn name tablet)) b = refl
    by (Asking s) b = refl
    by (Leaving s) b = refl
    by (Rooting s) b = absurd b
    by (Entering e s) b = absurd b
    by (Moving e s) b = absurd b
    by (Getting l g s) b = absurd b
    by (Putting l p s) b = absurd b
    by (Ended o) b = absurd b
carries_nothing (Awaiting c) bare = refl
carries_nothing Finishing bare = refl
carries_nothing TaskEnded bare = refl

-- ---- a step that changes neither the roots nor their words

-- an event that leaves the heap as it is, if it is a point of the mutator
abbrev pub IsStill : Heap → ℕ → Event → Type 0
IsStill h m Nothing = Unit {0}
IsStill h m (Answered (Did n c r)) = (n ≡ m) × (heap_after h (Did n c r) ≡ h)
IsStill h m (Answered (Snap cycle)) = ⊥
IsStill h m (Snapped cycle) = ⊥
IsStill h m (Finished cycle) = ⊥

-- the mutator's root words are as they were
abbrev pub SameRoots : Numbers → ℕ → List ℕ → List ℕ → Type 0
SameRoots n m words us = (q : ℕ) → q < n.roots → word_at n us (root m q) ≡ word_at n words (root m q)

pub roots_loaded : (n : Numbers) (m : ℕ) (words : List ℕ) (i : ℕ)
    → SameRoots n m words (words_after (record { word = i; op = Load }) words)
roots_loaded n m words i q low = ap (λ us. word_at n us (root m q)) (load_back words i)

module _ (n : Numbers) (w : Facts) (s : JointScene) (m : ℕ) (d : Driving)
    (keeps : MutatorKeeps n w s.words s.front m d) (was : IsBare d.progress.task) where
  abbrev h : Heap
  h = state_of w s.front.history

  module _ (us : List ℕ) (same : SameRoots n m s.words us) (e : Driving) (known : drivers.IsKnown e)
      (caller : e.caller ≡ d.caller) (calls : e.calls ≡ d.calls) (bare : IsBare e.progress.task) where
    -- the mutator then, where the heap is as it was
    then_with : (front : Seen) → state_of w front.history ≡ h
        → e.replies ≡ replies_to m front.history
        → MutatorKeeps n w us front m e
    then_with front still replies = record {
      known = known;
      shape = ap (λ (k : Caller). k.shape) caller ∙ keeps.shape;
      number = ap (λ (k : Caller). k.mutator) caller ∙ keeps.number;
      in_range = keeps.in_range;
      program = keeps.program ∙ ap Some (sym calls);
      replies = replies;
      says = says_nothing (state_of w front.history) m e.progress.task bare;
      counts = counts_nothing n (state_of w front.history) us m e.progress.task bare;
      roots = λ q v low is. subst (λ c. WordStands c q (word_at n us (root m q)) v)
          (sym (carries_nothing e.progress.task bare))
          (same q low ∙ subst (λ c. WordStands c q (word_at n s.words (root m q)) v)
          (carries_nothing d.progress.task was)
          (keeps.roots q v low (ap (λ k. root_of k m q) (sym still) ∙ is)));
    }

    pub keeps_itself : (event : Event) → IsStill h m event → e.replies ≡ d.replies ++ told_reply event
        → MutatorKeeps n w us (front_after s.front [] event) m e
    keeps_itself Nothing still told = then_with s.front refl (told ∙ append-nil d.replies ∙ keeps.replies)
    keeps_itself (Answered (Did i c r)) still told =
        subst (λ k. MutatorKeeps n w us (with_point s.front (Did k c r)) m e) (sym still.0)
        (then_with (with_point s.front (Did m c r))
        (state_push w s.front.history (Did m c r)
        ∙ ap (λ k. heap_after h (Did k c r)) (sym still.0) ∙ still.1)
        (told ∙ ap (λ rs. rs ++ r ∷ []) keeps.replies ∙ sym (own_reply m c r s.front.history)))
    keeps_itself (Answered (Snap cycle)) still told = absurd still
    keeps_itself (Snapped cycle) still told = absurd still
    keeps_itself (Finished cycle) still told = absurd still
