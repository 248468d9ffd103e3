-- A mutator among all seats: that the facets of its seat are its own, what it keeps of itself and of words, and the
-- scene after its step.
use Rattle.std.specs.Prelude.{ℕ, ◌≡◌, ◌<◌, List, [], length, slice_get, slice_set, Some}
use Rattle.mako_words.specs.declared.name.Name.{Name}
use Rattle.mako_words.specs.declared.value.Value.{Value}
use Rattle.mako_shape.specs.declared.numbers.Numbers.{Numbers}
use Rattle.mako_shape.specs.Places.{root, barrier, word_at}
use Rattle.mako_gate.specs.Standings.{Standing, mutator_at}
use Rattle.mako_step.specs.Acts.{finds, words_stepped}
use Rattle.mako_record.specs.declared.copier.CopyStage.{CopyStage}
use Rattle.mako_record.specs.declared.copier.CopyStage.TheVariants.{LoadingTop, LoadingHeader, StoringHeader}
use Rattle.mako_record.specs.declared.copier.CopyStage.TheVariants.{LoadingField, StoringField, StoringEntry}
use Rattle.mako_record.specs.declared.copier.CopyStage.TheVariants.{RaisingTop, Ended as CopyEnded}
use Rattle.mako_model.specs.declared.call.Call.{Call}
use Rattle.mako_model.specs.Fronts.{Seen, replies_to}
use Rattle.mako_model.specs.Heaps.{Heap, root_of, fields_of}
use Rattle.mako_model.specs.Legal.{Facts, state_of}
use Rattle.mako_model.specs.Sizes.{ObjectsAreSmall}
use Rattle.mako_call.specs.declared.object.Errand.{Errand}
use Rattle.mako_call.specs.declared.object.Put.{Put as PutArgs}
use Rattle.mako_call.specs.declared.call_stage.CallStage.{CallStage}
use Rattle.mako_call.specs.declared.call_stage.CallStage.TheVariants.{Arriving, Rooting, Entering, Moving, Getting}
use Rattle.mako_call.specs.declared.call_stage.CallStage.TheVariants.{Putting, Allocating, Asking, Leaving, Ended}
use Rattle.mako_call.specs.declared.moving.MoveStage.{MoveStage}
use Rattle.mako_call.specs.declared.moving.MoveStage.TheVariants.{TakingTurn, LoadingEntry as LoadingAgain}
use Rattle.mako_call.specs.declared.moving.MoveStage.TheVariants.{Copying as Copies, GivingTurn}
use Rattle.mako_call.specs.declared.putting.PutStage.{PutStage}
use Rattle.mako_call.specs.declared.putting.PutStage.TheVariants.{LoadingHeader as PutHeader, LoadingOld}
use Rattle.mako_call.specs.declared.putting.PutStage.TheVariants.{LookingAtBarrier, StoringBarrier}
use Rattle.mako_call.specs.declared.putting.PutStage.TheVariants.{StoringField as StoringPut}
use Rattle.mako_mutator.specs.declared.progress.Task.{Task}
use Rattle.mako_mutator.specs.declared.progress.Task.TheVariants.{Attempting, Awaiting, Finishing, Ended as TaskEnded}
use Rattle.mako_call.specs.Calls.{Calling}
use Rattle.mako_mutator.specs.Drivers as drivers
use Rattle.mako_mutator.specs.Drivers.{Driving}
use Rattle.mako_names.specs.Trying.{Trying}
use Rattle.mako_layout.specs.Facets.{Work}
use Rattle.mako_phases.specs.Facets.{Admission, mutating}
use Rattle.mako_phases.specs.Orders.{IsTracePhase}
use Rattle.mako_ring.specs.TraceFacets.{TraceFacet}
use Rattle.mako_state.specs.Carried.{carried_of, WordStands}
use Rattle.mako_state.specs.CoreStates.{front_after}
use Rattle.mako_state.specs.Says.{TaskSays}
use Rattle.mako_state.specs.Standings.{standing_of}
use Rattle.mako_state.specs.Works.{work_of}
use Rattle.mako_joint.specs.Joints.{JointScene, Joint}
use Rattle.mako_mutating.specs.MutatorFacets.{left_of, held_of, trying_of, trace_of, task_admission}

-- all that is read of a mutator
pub record View : Type 0 where
  pub standing : Standing
  pub work : Work
  pub trace : TraceFacet
  pub admission : Admission
  pub held : List Name
  pub trying : Trying
  pub left : List Call

abbrev pub view_of : Driving → View
view_of d = record {
  standing = standing_of d;
  work = work_of d;
  trace = trace_of d;
  admission = task_admission d.progress.task;
  held = held_of d;
  trying = trying_of d;
  left = left_of d;
}

-- the facets of the mutator's seat are these
pub record IsSeen (s : JointScene) (m : ℕ) (v : View) : Type 0 where
  pub gate : slice_get s.facets.gates m ≡ Some (mutator_at m v.standing)
  pub work : slice_get s.facets.works m ≡ Some v.work
  pub trace : slice_get s.facets.trace m ≡ Some v.trace
  pub phase : slice_get s.facets.phases m ≡ Some (mutating v.admission)
  pub held : slice_get s.facets.names.held m ≡ Some v.held
  pub trying : slice_get s.facets.names.trying m ≡ Some v.trying
  pub left : slice_get s.facets.names.left m ≡ Some v.left

-- the scene with these words and this front, in which they are those
abbrev pub with_view : JointScene → ℕ → List ℕ → Seen → View → JointScene
with_view s m words front v = record {
  words = words;
  front = front;
  facets = record s.facets {
    names = record s.facets.names {
      held = slice_set s.facets.names.held m v.held;
      trying = slice_set s.facets.names.trying m v.trying;
      left = slice_set s.facets.names.left m v.left;
    };
    trace = slice_set s.facets.trace m v.trace;
    gates = slice_set s.facets.gates m (mutator_at m v.standing);
    works = slice_set s.facets.works m v.work;
    phases = slice_set s.facets.phases m (mutating v.admission);
  };
}

-- ---- what a mutator keeps of itself

-- A put is at its barrier only if it has found that servers trace; and the slot that it has found empty stays so, since
-- nobody else fills the slots of the mutator.
abbrev pub PutKeeps : Numbers → List ℕ → (m slot : ℕ) → PutArgs → PutStage → Type 0
PutKeeps n words m slot put PutHeader = Unit {0}
PutKeeps n words m slot put LoadingOld = IsTracePhase put.phase
PutKeeps n words m slot put (LookingAtBarrier old) = IsTracePhase put.phase
PutKeeps n words m slot put (StoringBarrier old) =
    IsTracePhase put.phase × (word_at n words (barrier m slot) ≡ 0)
PutKeeps n words m slot put StoringPut = Unit {0}

-- the object has so many fields
pub record HasFields (h : Heap) (object : Name) (count : ℕ) : Type 0 where
  pub fields : List Value
  pub are : fields_of h object ≡ Some fields
  pub count_is : length fields ≡ count

-- the number of fields that a copy goes by is the object's
abbrev pub CopyCounts : Heap → Name → CopyStage → Type 0
CopyCounts h object LoadingTop = Unit {0}
CopyCounts h object (LoadingHeader offset) = Unit {0}
CopyCounts h object (StoringHeader offset fields) = HasFields h object fields
CopyCounts h object (LoadingField offset fields field) = HasFields h object fields
CopyCounts h object (StoringField offset fields field word) = HasFields h object fields
CopyCounts h object (StoringEntry offset fields) = HasFields h object fields
CopyCounts h object (RaisingTop offset fields) = HasFields h object fields
CopyCounts h object (CopyEnded address) = Unit {0}

-- a copy is one of the object's entry
abbrev pub MoveCounts : Heap → Errand → MoveStage → Type 0
MoveCounts h e (TakingTurn home) = Unit {0}
MoveCounts h e (LoadingAgain home) = Unit {0}
MoveCounts h e (Copies copier) = (copier.number ≡ e.object.entry) × CopyCounts h e.object copier.stage
MoveCounts h e (GivingTurn address) = Unit {0}

abbrev pub StageKeeps : Numbers → Heap → List ℕ → (m slot : ℕ) → CallStage → Type 0
StageKeeps n h words m slot Arriving = Unit {0}
StageKeeps n h words m slot (Rooting s) = Unit {0}
StageKeeps n h words m slot (Entering e s) = Unit {0}
StageKeeps n h words m slot (Moving e s) = MoveCounts h e s
StageKeeps n h words m slot (Getting at get s) = Unit {0}
StageKeeps n h words m slot (Putting at put s) = PutKeeps n words m slot put s
StageKeeps n h words m slot (Allocating s) = Unit {0}
StageKeeps n h words m slot (Asking s) = Unit {0}
StageKeeps n h words m slot (Leaving s) = Unit {0}
StageKeeps n h words m slot (Ended outcome) = Unit {0}

abbrev pub TaskKeeps : Numbers → Heap → List ℕ → (m : ℕ) → Task → Type 0
TaskKeeps n h words m (Attempting c) = StageKeeps n h words m c.slot c.stage
TaskKeeps n h words m (Awaiting c) = Unit {0}
TaskKeeps n h words m Finishing = Unit {0}
TaskKeeps n h words m TaskEnded = Unit {0}

-- a root word of the mutator is the packed root, but for a root that is decided and still to be stored
abbrev pub RootsStand : Numbers → Heap → List ℕ → ℕ → Driving → Type 0
RootsStand n h words m d = (q : ℕ) (v : Value) → q < n.roots → root_of h m q ≡ Some v
    → WordStands (carried_of d) q (word_at n words (root m q)) v

-- The seat is the mutator with its number; its replies are those of the history; what it has loaded of its roots still
-- stands there; and its root words are its roots.
pub record MutatorKeeps (n : Numbers) (w : Facts) (words : List ℕ) (front : Seen) (m : ℕ) (d : Driving) : Type 0 where
  pub known : drivers.IsKnown d
  pub shape : d.caller.shape ≡ n
  pub number : d.caller.mutator ≡ m
  pub in_range : m < n.mutators
  pub program : slice_get w.programs m ≡ Some d.calls
  pub replies : d.replies ≡ replies_to m front.history
  pub says : TaskSays (state_of w front.history) m d.progress.task
  pub counts : TaskKeeps n (state_of w front.history) words m d.progress.task
  pub roots : RootsStand n (state_of w front.history) words m d

-- ---- a step

-- the word that its act finds
abbrev pub found_by : JointScene → Driving → ℕ
found_by s d = finds (drivers.next_of d) s.words

-- the scene after its step
abbrev pub stepped : JointScene → ℕ → Driving → JointScene
stepped s m d =
    with_view s m (words_stepped (drivers.next_of d) s.words)
    (front_after s.front [] (drivers.event_of d (found_by s d))) (view_of (drivers.fed d (found_by s d)))

-- all groups hold after it, and what the mutator keeps of itself
abbrev pub StepKeeps : Numbers → Facts → JointScene → ℕ → Driving → Type 0
StepKeeps n w s m d =
    Joint n w (stepped s m d)
    × MutatorKeeps n w (stepped s m d).words (stepped s m d).front m (drivers.fed d (found_by s d))

-- A mutator that attempts a call at this stage: the facets of its seat are its own. (That objects are small is a fact
-- of the script.)
pub record IsAttempting (n : Numbers) (w : Facts) (s : JointScene) (m : ℕ) (d : Driving)
    (stage : CallStage) : Type 0 where
  pub seen : IsSeen s m (view_of d)
  pub keeps : MutatorKeeps n w s.words s.front m d
  pub calling : Calling
  pub attempts : d.progress.task ≡ Attempting calling
  pub at : calling.stage ≡ stage
  pub small : ObjectsAreSmall (state_of w s.front.history)
