-- Which stages are those of a call.
use Rattle.std.specs.Prelude.{◌≡◌, ℕ, ◌≤◌, Option, Some, None}
use Rattle.mako_shape.specs.declared.numbers.Numbers.{Numbers}
use Rattle.mako_model.specs.declared.attempt.Attempt.{Attempt}
use Rattle.mako_model.specs.declared.attempt.Attempt.TheVariants.{Answer, Full, Pause as Paused}
use Rattle.mako_model.specs.declared.attempt.Pause.{Pause}
use Rattle.mako_model.specs.declared.attempt.Pause.TheVariants.{Stopped, Shut, Busy, Moving as BeingMoved, Barrier}
use Rattle.mako_model.specs.declared.attempt.Pause.TheVariants.{Cycle as NotYet}
use Rattle.mako_model.specs.declared.call.Call.{Call}
use Rattle.mako_model.specs.declared.call.Call.TheVariants.{New, Num, CopyRoot, DropRoot, Get, Put, Show, Collect}
use Rattle.mako_call.specs.declared.object.Access.{Access}
use Rattle.mako_call.specs.declared.object.Access.TheVariants.{Get as Gets, Put as Puts}
use Rattle.mako_call.specs.declared.call_stage.CallStage.{CallStage}
use Rattle.mako_call.specs.declared.call_stage.CallStage.TheVariants.{Arriving, Rooting, Entering, Moving, Getting}
use Rattle.mako_call.specs.declared.call_stage.CallStage.TheVariants.{Putting, Allocating, Asking, Leaving, Ended}
use Rattle.mako_call.specs.declared.rooting.RootStage.{RootStage}
use Rattle.mako_call.specs.declared.rooting.RootStage.TheVariants.{StoringNumber, StoringNull, LoadingCopied}
use Rattle.mako_call.specs.declared.rooting.RootStage.TheVariants.{StoringCopied, LoadingShown, LoadingSource}
use Rattle.mako_call.specs.declared.rooting.RootStage.TheVariants.{LoadingTarget, LoadingValue, LoadingPhase}
use Rattle.mako_call.specs.declared.allocating.AllocStage.{AllocStage}
use Rattle.mako_call.specs.declared.allocating.AllocStage.TheVariants.{LoadingPhase as NewPhase, Searching, StoringRoot}
use Rattle.mako_call.specs.declared.allocating.AllocStage.TheVariants.{GivingTurn}
use Rattle.mako_call.specs.declared.leaving.LeaveStage.{LeaveStage}
use Rattle.mako_call.specs.declared.leaving.LeaveStage.TheVariants.{Refused, TurnedAway, FromTablet, FromOwn}

-- a call that arrives at the own gate
abbrev pub Arrives : Call → Type 0
Arrives (New root fields) = Unit {0}
Arrives (Num root number) = Unit {0}
Arrives (CopyRoot to from) = Unit {0}
Arrives (DropRoot root) = Unit {0}
Arrives (Get to from field) = Unit {0}
Arrives (Put to field from) = Unit {0}
Arrives (Show root) = Unit {0}
Arrives Collect = ⊥

-- at the roots, the stage has the call's roots, number and field
abbrev pub RootStageOf : Call → RootStage → Type 0
RootStageOf (Num root number) (StoringNumber r x) = (r ≡ root) × (x ≡ number)
RootStageOf (DropRoot root) (StoringNull r) = r ≡ root
RootStageOf (CopyRoot to from) (LoadingCopied r q) = (r ≡ to) × (q ≡ from)
RootStageOf (CopyRoot to from) (StoringCopied r value) = r ≡ to
RootStageOf (Show root) (LoadingShown r) = r ≡ root
RootStageOf (Get to from field) (LoadingSource r q i) = (r ≡ to) × (q ≡ from) × (i ≡ field)
RootStageOf (Put to field from) (LoadingTarget r i q) = (r ≡ to) × (i ≡ field) × (q ≡ from)
RootStageOf (Put to field from) (LoadingValue object i q) = (i ≡ field) × (q ≡ from)
RootStageOf (Put to field from) (LoadingPhase object i value) = i ≡ field
RootStageOf call stage = ⊥

-- at an object, it does what the call is to do there
abbrev pub AccessOf : Call → Access → Type 0
AccessOf (Get to from field) (Gets get) = (get.to ≡ to) × (get.field ≡ field)
AccessOf (Put to field from) (Puts put) = put.field ≡ field
AccessOf call access = ⊥

abbrev pub AllocStageOf : Call → AllocStage → Type 0
AllocStageOf (New root fields) (NewPhase r f) = (r ≡ root) × (f ≡ fields)
AllocStageOf (New root fields) (Searching r search) = (r ≡ root) × (search.job.fields ≡ fields)
AllocStageOf (New root fields) (StoringRoot r name tablet) = r ≡ root
AllocStageOf (New root fields) (GivingTurn name tablet) = Unit {0}
AllocStageOf call stage = ⊥

abbrev pub IsNew : Call → Type 0
IsNew (New root fields) = Unit {0}
IsNew call = ⊥

-- a new alone finds no room
abbrev pub OutcomeOf : Call → Attempt → Type 0
OutcomeOf call (Answer reply) = Arrives call
OutcomeOf call Full = IsNew call
OutcomeOf call (Paused pause) = Arrives call

abbrev pub LeaveStageOf : Call → LeaveStage → Type 0
LeaveStageOf call (Refused word) = Arrives call
LeaveStageOf call (TurnedAway tablet word) = Arrives call
LeaveStageOf call (FromTablet tablet outcome) = OutcomeOf call outcome
LeaveStageOf call (FromOwn outcome) = OutcomeOf call outcome

abbrev pub IsCollect : Call → Type 0
IsCollect Collect = Unit {0}
IsCollect call = ⊥

-- the cycle that a pause waits for
abbrev pub pause_asked : Pause → Option ℕ
pause_asked (Stopped word) = None
pause_asked (Shut tablet word) = None
pause_asked (Busy tablet word) = None
pause_asked (BeingMoved tablet word) = None
pause_asked (Barrier slot word) = None
pause_asked (NotYet wanted word) = Some wanted

abbrev pub outcome_asked : Attempt → Option ℕ
outcome_asked (Answer reply) = None
outcome_asked Full = None
outcome_asked (Paused pause) = pause_asked pause

-- the cycle that a collect has asked for and waits for; every other call forgets what was asked
abbrev pub asked_of : Call → Attempt → Option ℕ
asked_of (New root fields) outcome = None
asked_of (Num root number) outcome = None
asked_of (CopyRoot to from) outcome = None
asked_of (DropRoot root) outcome = None
asked_of (Get to from field) outcome = None
asked_of (Put to field from) outcome = None
asked_of (Show root) outcome = None
asked_of Collect outcome = outcome_asked outcome

-- a cycle that was asked for is one of the geometry
abbrev pub AskedFits : Numbers → Option ℕ → Type 0
AskedFits n None = Unit {0}
AskedFits n (Some cycle) = (1 ≤ cycle) × (cycle ≤ n.cycles)

-- the stage is one of the call
abbrev pub StageOf : Numbers → Call → CallStage → Type 0
StageOf n call Arriving = Arrives call
StageOf n call (Rooting s) = RootStageOf call s
StageOf n call (Entering e s) = AccessOf call e.access
StageOf n call (Moving e s) = AccessOf call e.access
StageOf n call (Getting at get s) = AccessOf call (Gets get)
StageOf n call (Putting at put s) = AccessOf call (Puts put)
StageOf n call (Allocating s) = AllocStageOf call s
StageOf n call (Asking s) = IsCollect call
StageOf n call (Leaving s) = LeaveStageOf call s
StageOf n call (Ended outcome) = AskedFits n (asked_of call outcome)
