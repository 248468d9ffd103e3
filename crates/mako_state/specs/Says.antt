-- What a mutator's view has loaded of its roots, and still stands there.
use Rattle.std.specs.Prelude.{◌≡◌, ℕ, ◌<◌, List, length, Some}
use Rattle.mako_words.specs.declared.name.Name.{Name}
use Rattle.mako_words.specs.declared.value.Value.{Value}
use Rattle.mako_words.specs.declared.value.Value.TheVariants.{Ref}
use Rattle.mako_model.specs.Heaps.{Heap, root_of, fields_of}
use Rattle.mako_model.specs.declared.call.Call.{Call}
use Rattle.mako_model.specs.declared.call.Call.TheVariants.{CopyRoot, Get, Put}
use Rattle.mako_call.specs.declared.object.Access.{Access}
use Rattle.mako_call.specs.declared.object.Access.TheVariants.{Get as Gets, Put as Puts}
use Rattle.mako_call.specs.declared.object.Get.{Get as GetArgs}
use Rattle.mako_call.specs.declared.object.Put.{Put as PutArgs}
use Rattle.mako_call.specs.declared.call_stage.CallStage.{CallStage}
use Rattle.mako_call.specs.declared.call_stage.CallStage.TheVariants.{Arriving, Rooting, Entering, Moving, Getting}
use Rattle.mako_call.specs.declared.call_stage.CallStage.TheVariants.{Putting, Allocating, Asking, Leaving, Ended}
use Rattle.mako_call.specs.declared.rooting.RootStage.{RootStage}
use Rattle.mako_call.specs.declared.rooting.RootStage.TheVariants.{StoringCopied, LoadingValue, LoadingPhase}
use Rattle.mako_call.specs.declared.getting.GetStage.{GetStage}
use Rattle.mako_call.specs.declared.getting.GetStage.TheVariants.{LoadingHeader as GetHeader, LoadingField as GetField}
use Rattle.mako_call.specs.declared.getting.GetStage.TheVariants.{StoringRoot as StoringGot}
use Rattle.mako_call.specs.declared.putting.PutStage.{PutStage}
use Rattle.mako_call.specs.declared.putting.PutStage.TheVariants.{LoadingHeader as PutHeader, LoadingOld}
use Rattle.mako_call.specs.declared.putting.PutStage.TheVariants.{LookingAtBarrier, StoringBarrier, StoringField}
use Rattle.mako_mutator.specs.declared.progress.Task.{Task}
use Rattle.mako_mutator.specs.declared.progress.Task.TheVariants.{Attempting, Awaiting, Finishing, Ended as TaskEnded}

-- the object of a get or put is the one that the root names, and a put has the value of its other root
abbrev pub AccessSays : Heap → ℕ → Call → Name → Access → Type 0
AccessSays h m (Get to from field) object (Gets get) = root_of h m from ≡ Some (Ref object)
AccessSays h m (Put to field from) object (Puts put) =
    (root_of h m to ≡ Some (Ref object)) × (root_of h m from ≡ Some put.value)
AccessSays h m call object access = Unit {0}

-- the object has more fields than that
abbrev pub HasMore : Heap → Name → ℕ → Type 0
HasMore h object field = (fields : List Value) × (fields_of h object ≡ Some fields) × (field < length fields)

abbrev pub RootSays : Heap → ℕ → Call → RootStage → Type 0
RootSays h m (CopyRoot to from) (StoringCopied root value) = root_of h m from ≡ Some value
RootSays h m (Put to field from) (LoadingValue object i q) = root_of h m to ≡ Some (Ref object)
RootSays h m (Put to field from) (LoadingPhase object i value) =
    (root_of h m to ≡ Some (Ref object)) × (root_of h m from ≡ Some value)
RootSays h m call s = Unit {0}

abbrev pub GetSays : Heap → ℕ → Call → Name → GetArgs → GetStage → Type 0
GetSays h m call object get GetHeader = AccessSays h m call object (Gets get)
GetSays h m call object get GetField = AccessSays h m call object (Gets get) × HasMore h object get.field
GetSays h m call object get (StoringGot value) = Unit {0}

abbrev pub PutSays : Heap → ℕ → Call → Name → PutArgs → PutStage → Type 0
PutSays h m call object put PutHeader = AccessSays h m call object (Puts put)
PutSays h m call object put LoadingOld = AccessSays h m call object (Puts put) × HasMore h object put.field
PutSays h m call object put (LookingAtBarrier old) = AccessSays h m call object (Puts put) × HasMore h object put.field
PutSays h m call object put (StoringBarrier old) = AccessSays h m call object (Puts put) × HasMore h object put.field
PutSays h m call object put StoringField = AccessSays h m call object (Puts put) × HasMore h object put.field

abbrev pub StageSays : Heap → ℕ → Call → CallStage → Type 0
StageSays h m call Arriving = Unit {0}
StageSays h m call (Rooting s) = RootSays h m call s
StageSays h m call (Entering e s) = AccessSays h m call e.object e.access
StageSays h m call (Moving e s) = AccessSays h m call e.object e.access
StageSays h m call (Getting at get s) = GetSays h m call at.object get s
StageSays h m call (Putting at put s) = PutSays h m call at.object put s
StageSays h m call (Allocating s) = Unit {0}
StageSays h m call (Asking s) = Unit {0}
StageSays h m call (Leaving s) = Unit {0}
StageSays h m call (Ended outcome) = Unit {0}

abbrev pub TaskSays : Heap → ℕ → Task → Type 0
TaskSays h m (Attempting c) = StageSays h m c.call c.stage
TaskSays h m (Awaiting c) = Unit {0}
TaskSays h m Finishing = Unit {0}
TaskSays h m TaskEnded = Unit {0}
