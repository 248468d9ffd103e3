-- What each group reads of a mutator, by its stage. Where it stands at the gates and what it holds of a record are told
-- elsewhere (`standing_of`, `work_of`).
use Rattle.std.specs.Prelude.{ℕ, ◌+◌, ◌*◌, Bool, true, false, List, [], ◌∷◌, drop, length, Option, Some, None}
use Rattle.mako_words.specs.declared.name.Name.{Name}
use Rattle.mako_words.specs.declared.phase_word.PhaseWord.{PhaseWord}
use Rattle.mako_words.specs.declared.phase_word.PhaseWord.TheVariants.{Idle, Trace, Evac, Stop}
use Rattle.mako_shape.specs.declared.numbers.Numbers.{Numbers}
use Rattle.mako_model.specs.declared.attempt.Attempt.{Attempt}
use Rattle.mako_model.specs.declared.attempt.Attempt.TheVariants.{Answer, Full, Pause as Paused}
use Rattle.mako_model.specs.declared.attempt.Pause.{Pause}
use Rattle.mako_model.specs.declared.call.Call.{Call}
use Rattle.mako_model.specs.declared.call.Call.TheVariants as call
use Rattle.mako_alloc.specs.declared.progress.NewStage.{NewStage}
use Rattle.mako_alloc.specs.declared.progress.NewStage.TheVariants.{Arriving as NewArriving}
use Rattle.mako_alloc.specs.declared.progress.NewStage.TheVariants.{TurnedAway as NewTurnedAway}
use Rattle.mako_alloc.specs.declared.progress.NewStage.TheVariants.{TakingTurn as NewTakingTurn, LoadingLeaving}
use Rattle.mako_alloc.specs.declared.progress.NewStage.TheVariants.{LoadingTop, LoadingEntry as NewEntry}
use Rattle.mako_alloc.specs.declared.progress.NewStage.TheVariants.{LoadingHome as NewHome, Making}
use Rattle.mako_alloc.specs.declared.progress.NewStage.TheVariants.{GivingTurn as PassingTurn, Leaving as NewLeaving}
use Rattle.mako_alloc.specs.declared.progress.NewStage.TheVariants.{Ended as NewEnded}
use Rattle.mako_call.specs.declared.object.Access.{Access}
use Rattle.mako_call.specs.declared.object.Access.TheVariants.{Get as Gets, Put as Puts}
use Rattle.mako_call.specs.declared.object.Put.{Put as PutArgs}
use Rattle.mako_call.specs.declared.call_stage.CallStage.{CallStage}
use Rattle.mako_call.specs.declared.call_stage.CallStage.TheVariants.{Arriving, Rooting, Entering, Moving, Getting}
use Rattle.mako_call.specs.declared.call_stage.CallStage.TheVariants.{Putting, Allocating, Asking, Leaving, Ended}
use Rattle.mako_call.specs.declared.rooting.RootStage.{RootStage}
use Rattle.mako_call.specs.declared.rooting.RootStage.TheVariants.{StoringNumber, StoringNull, LoadingCopied}
use Rattle.mako_call.specs.declared.rooting.RootStage.TheVariants.{StoringCopied, LoadingShown, LoadingSource}
use Rattle.mako_call.specs.declared.rooting.RootStage.TheVariants.{LoadingTarget, LoadingValue, LoadingPhase}
use Rattle.mako_call.specs.declared.getting.GetStage.{GetStage}
use Rattle.mako_call.specs.declared.getting.GetStage.TheVariants.{LoadingHeader as GetHeader, LoadingField as GetField}
use Rattle.mako_call.specs.declared.getting.GetStage.TheVariants.{StoringRoot as StoringGot}
use Rattle.mako_call.specs.declared.putting.PutStage.{PutStage}
use Rattle.mako_call.specs.declared.putting.PutStage.TheVariants.{LoadingHeader as PutHeader, LoadingOld}
use Rattle.mako_call.specs.declared.putting.PutStage.TheVariants.{LookingAtBarrier, StoringBarrier, StoringField}
use Rattle.mako_call.specs.declared.allocating.AllocStage.{AllocStage}
use Rattle.mako_call.specs.declared.allocating.AllocStage.TheVariants.{LoadingPhase as NewPhase, Searching, StoringRoot}
use Rattle.mako_call.specs.declared.allocating.AllocStage.TheVariants.{GivingTurn as GivingNewTurn}
use Rattle.mako_call.specs.declared.asking.AskStage.{AskStage}
use Rattle.mako_call.specs.declared.asking.AskStage.TheVariants.{LoadingPhase as AskPhase, RaisingDemand}
use Rattle.mako_call.specs.declared.asking.AskStage.TheVariants.{Awaiting as AskAwaiting}
use Rattle.mako_call.specs.declared.leaving.LeaveStage.{LeaveStage}
use Rattle.mako_call.specs.declared.leaving.LeaveStage.TheVariants.{Refused, TurnedAway, FromTablet, FromOwn}
use Rattle.mako_mutator.specs.declared.progress.Task.{Task}
use Rattle.mako_mutator.specs.declared.progress.Task.TheVariants.{Attempting, Awaiting, Finishing, Ended as TaskEnded}
use Rattle.mako_mutator.specs.Drivers.{Driving}
use Rattle.mako_names.specs.Trying as trying
use Rattle.mako_names.specs.Trying.{Trying}
use Rattle.mako_phases.specs.Facets.{Admission, outside, asking, inside, PhaseFacet, mutating}
use Rattle.mako_phases.specs.Orders.{names_in}
use Rattle.mako_ring.specs.TraceFacets.{TraceFacet, apart, looking, storing}

-- ---- calls

-- the calls that are not answered yet
abbrev pub left_of : Driving → List Call
left_of d = drop (length d.replies) d.calls

-- ---- names that it has still to use

abbrev pub root_held : RootStage → List Name
root_held (StoringNumber to number) = []
root_held (StoringNull to) = []
root_held (LoadingCopied to from) = []
root_held (StoringCopied to value) = []
root_held (LoadingShown from) = []
root_held (LoadingSource to from field) = []
root_held (LoadingTarget to field from) = []
root_held (LoadingValue object field from) = object ∷ []
root_held (LoadingPhase object field value) = object ∷ names_in value

-- its object, and of a put a value that is a name
abbrev pub access_held : Name → Access → List Name
access_held object (Gets get) = object ∷ []
access_held object (Puts put) = object ∷ names_in put.value

abbrev pub get_held : Name → GetStage → List Name
get_held object GetHeader = object ∷ []
get_held object GetField = object ∷ []
get_held object (StoringGot value) = []

-- the name of an object that is made, and whose root is still to be stored
abbrev pub new_held : AllocStage → List Name
new_held (NewPhase root fields) = []
new_held (Searching root search) = []
new_held (StoringRoot root name tablet) = name ∷ []
new_held (GivingNewTurn name tablet) = []

abbrev pub stage_held : CallStage → List Name
stage_held Arriving = []
stage_held (Rooting s) = root_held s
stage_held (Entering e s) = access_held e.object e.access
stage_held (Moving e s) = access_held e.object e.access
stage_held (Getting at get s) = get_held at.object s
stage_held (Putting at put s) = access_held at.object (Puts put)
stage_held (Allocating s) = new_held s
stage_held (Asking s) = []
stage_held (Leaving s) = []
stage_held (Ended outcome) = []

abbrev pub task_held : Task → List Name
task_held (Attempting m) = stage_held m.stage
task_held (Awaiting m) = []
task_held Finishing = []
task_held TaskEnded = []

abbrev pub held_of : Driving → List Name
held_of d = task_held d.progress.task

-- ---- what it knows of its attempt

-- the last attempt at an object has gone over so many tablets, and so many entries of the next
abbrev pub last_at : Bool → Call → (tablets entries : ℕ) → Trying
last_at true (call.New root fields) tablets entries = trying.Last fields tablets entries
last_at true c tablets entries = trying.Nothing
last_at false c tablets entries = trying.Nothing

-- with nothing met yet that it has to wait for; an entry that it has found free it makes its own
abbrev pub seeking_trying : Bool → Call → (passed : ℕ) → NewStage → Trying
seeking_trying last c passed NewArriving = last_at last c passed 0
seeking_trying last c passed NewTurnedAway = last_at last c 0 0
seeking_trying last c passed NewTakingTurn = last_at last c passed 0
seeking_trying last c passed LoadingLeaving = last_at last c passed 0
seeking_trying last c passed LoadingTop = last_at last c passed 0
seeking_trying last c passed (NewEntry kept place) = last_at last c passed place
seeking_trying last c passed (NewHome kept name) = trying.Nothing
seeking_trying last c passed (Making made part) = trying.Nothing
seeking_trying last c passed PassingTurn = last_at last c (passed + 1) 0
seeking_trying last c passed NewLeaving = last_at last c (passed + 1) 0
seeking_trying last c passed (NewEnded found) = trying.Nothing

-- what it went over counts no more once it has made a note
abbrev pub noted_trying : Bool → Call → NewStage → Trying
noted_trying last c (NewHome kept name) = trying.Nothing
noted_trying last c (Making made part) = trying.Nothing
noted_trying last c (NewEnded found) = trying.Nothing
noted_trying last c s = last_at last c 0 0

abbrev pub searching_trying : Bool → Call → (passed : ℕ) → Option Pause → NewStage → Trying
searching_trying last c passed None s = seeking_trying last c passed s
searching_trying last c passed (Some note) s = noted_trying last c s

abbrev pub new_trying : Bool → Call → AllocStage → Trying
new_trying last c (NewPhase root fields) = last_at last c 0 0
new_trying last c (Searching root search) =
    searching_trying last c search.progress.passed search.progress.note search.progress.stage
new_trying last c (StoringRoot root name tablet) = trying.Nothing
new_trying last c (GivingNewTurn name tablet) = trying.Nothing

-- an attempt without room has gone over all tablets, and after a pause it is made again
abbrev pub outcome_trying : Numbers → Bool → Call → Attempt → Trying
outcome_trying n last c (Answer reply) = trying.Nothing
outcome_trying n last c Full = last_at last c (n.servers * n.tablets) 0
outcome_trying n last c (Paused pause) = last_at last c 0 0

abbrev pub leave_trying : Numbers → Bool → Call → LeaveStage → Trying
leave_trying n last c (Refused word) = last_at last c 0 0
leave_trying n last c (TurnedAway tablet word) = last_at last c 0 0
leave_trying n last c (FromTablet tablet outcome) = outcome_trying n last c outcome
leave_trying n last c (FromOwn outcome) = outcome_trying n last c outcome

-- the cycle that it has asked for, or is about to
abbrev pub ask_trying : AskStage → Trying
ask_trying AskPhase = trying.Nothing
ask_trying (RaisingDemand cycle) = trying.Asked cycle
ask_trying (AskAwaiting cycle) = trying.Asked cycle

abbrev pub stage_trying : Numbers → Bool → Call → CallStage → Trying
stage_trying n last c Arriving = last_at last c 0 0
stage_trying n last c (Rooting s) = trying.Nothing
stage_trying n last c (Entering e s) = trying.Nothing
stage_trying n last c (Moving e s) = trying.Nothing
stage_trying n last c (Getting at get s) = trying.Nothing
stage_trying n last c (Putting at put s) = trying.Nothing
stage_trying n last c (Allocating s) = new_trying last c s
stage_trying n last c (Asking s) = ask_trying s
stage_trying n last c (Leaving s) = leave_trying n last c s
stage_trying n last c (Ended outcome) = outcome_trying n last c outcome

abbrev pub task_trying : Task → Trying
task_trying (Attempting m) = stage_trying m.caller.shape m.last m.call m.stage
task_trying (Awaiting m) = stage_trying m.caller.shape m.last m.call m.stage
task_trying Finishing = trying.Nothing
task_trying TaskEnded = trying.Nothing

abbrev pub trying_of : Driving → Trying
trying_of d = task_trying d.progress.task

-- ---- tracing

-- a put that has looked at its field while servers trace
abbrev pub storing_in : PhaseWord → Name → (field : ℕ) → TraceFacet
storing_in (Idle cycle) object field = apart
storing_in (Trace cycle) object field = storing object field
storing_in (Evac cycle) object field = apart
storing_in (Stop cycle) object field = apart

abbrev pub put_trace : Name → PutArgs → PutStage → TraceFacet
put_trace object put PutHeader = apart
put_trace object put LoadingOld = apart
put_trace object put (LookingAtBarrier old) = looking object put.field old
put_trace object put (StoringBarrier old) = looking object put.field old
put_trace object put StoringField = storing_in put.phase object put.field

abbrev pub stage_trace : CallStage → TraceFacet
stage_trace Arriving = apart
stage_trace (Rooting s) = apart
stage_trace (Entering e s) = apart
stage_trace (Moving e s) = apart
stage_trace (Getting at get s) = apart
stage_trace (Putting at put s) = put_trace at.object put s
stage_trace (Allocating s) = apart
stage_trace (Asking s) = apart
stage_trace (Leaving s) = apart
stage_trace (Ended outcome) = apart

abbrev pub task_trace : Task → TraceFacet
task_trace (Attempting m) = stage_trace m.stage
task_trace (Awaiting m) = apart
task_trace Finishing = apart
task_trace TaskEnded = apart

abbrev pub trace_of : Driving → TraceFacet
trace_of d = task_trace d.progress.task

-- ---- phases

-- the phase that a put has loaded and still uses; in Trace it is done with it at the barrier
abbrev pub access_kept : Access → Option PhaseWord
access_kept (Gets get) = None
access_kept (Puts put) = Some put.phase

abbrev pub kept_at_store : PhaseWord → Option PhaseWord
kept_at_store (Idle cycle) = Some (Idle cycle)
kept_at_store (Trace cycle) = None
kept_at_store (Evac cycle) = Some (Evac cycle)
kept_at_store (Stop cycle) = Some (Stop cycle)

abbrev pub put_kept : PutArgs → PutStage → Option PhaseWord
put_kept put PutHeader = Some put.phase
put_kept put LoadingOld = Some put.phase
put_kept put (LookingAtBarrier old) = Some put.phase
put_kept put (StoringBarrier old) = Some put.phase
put_kept put StoringField = kept_at_store put.phase

abbrev pub leave_admission : LeaveStage → Admission
leave_admission (Refused word) = outside
leave_admission (TurnedAway tablet word) = inside None
leave_admission (FromTablet tablet outcome) = inside None
leave_admission (FromOwn outcome) = inside None

abbrev pub ask_admission : AskStage → Admission
ask_admission AskPhase = outside
ask_admission (RaisingDemand cycle) = asking cycle
ask_admission (AskAwaiting cycle) = outside

-- a new keeps the number of the cycle alone, and no phase
abbrev pub stage_admission : CallStage → Admission
stage_admission Arriving = outside
stage_admission (Rooting s) = inside None
stage_admission (Entering e s) = inside (access_kept e.access)
stage_admission (Moving e s) = inside (access_kept e.access)
stage_admission (Getting at get s) = inside None
stage_admission (Putting at put s) = inside (put_kept put s)
stage_admission (Allocating s) = inside None
stage_admission (Asking s) = ask_admission s
stage_admission (Leaving s) = leave_admission s
stage_admission (Ended outcome) = outside

abbrev pub task_admission : Task → Admission
task_admission (Attempting m) = stage_admission m.stage
task_admission (Awaiting m) = stage_admission m.stage
task_admission Finishing = outside
task_admission TaskEnded = outside

abbrev pub phase_facet_of : Driving → PhaseFacet
phase_facet_of d = mutating (task_admission d.progress.task)
