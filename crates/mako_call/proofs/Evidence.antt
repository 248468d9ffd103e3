-- What the trail shows at each stage of an attempt.
use Rattle.std.specs.List.{Contains}
use Rattle.std.proofs.Common.{◌≡◌, ℕ, ◌≤◌, List, [], ◌∷◌, ◌++◌, append_assoc, ap, ◌∙◌, refl, arith}
use Rattle.std.proofs.lemmas.List.Elements.{Contains-append_left, Contains-append_right}
use Rattle.mako_words.specs.declared.name.Name.{Name}
use Rattle.mako_words.specs.declared.phase_word.PhaseWord.{PhaseWord}
use Rattle.mako_step.specs.Trails.{Observation, Goes}
use Rattle.mako_model.specs.declared.call.Call.{Call}
use Rattle.mako_model.specs.declared.reply.Reply.{Reply}
use Rattle.mako_model.specs.declared.reply.Reply.TheVariants.{Made, Full as NoRoom, Value as Told, Done, NoRef, NoField}
use Rattle.mako_model.specs.declared.reply.Reply.TheVariants.{Cycle, Spent}
use Rattle.mako_model.specs.declared.attempt.Attempt.{Attempt}
use Rattle.mako_model.specs.declared.attempt.Attempt.TheVariants.{Answer, Full, Pause as Paused}
use Rattle.mako_model.specs.declared.attempt.Pause.{Pause}
use Rattle.mako_model.specs.declared.attempt.Pause.TheVariants.{Stopped, Shut, Busy, Moving as BeingMoved, Barrier}
use Rattle.mako_model.specs.declared.attempt.Pause.TheVariants.{Cycle as NotYet}
use Rattle.mako_alloc.specs.Allocating as allocating
use Rattle.mako_alloc.specs.Allocating.{Allocation}
use Rattle.mako_alloc.specs.declared.job.Job.{Job}
use Rattle.mako_call.specs.declared.caller.Caller.{Caller}
use Rattle.mako_call.specs.declared.object.Put.{Put as PutArgs}
use Rattle.mako_call.specs.declared.object.Access.{Access}
use Rattle.mako_call.specs.declared.object.Access.TheVariants.{Get as Gets, Put as Puts}
use Rattle.mako_call.specs.declared.object.Located.{Located}
use Rattle.mako_call.specs.declared.call_stage.CallStage.{CallStage}
use Rattle.mako_call.specs.declared.call_stage.CallStage.TheVariants.{Arriving, Rooting, Entering, Moving, Getting}
use Rattle.mako_call.specs.declared.call_stage.CallStage.TheVariants.{Putting, Allocating, Asking, Leaving, Ended}
use Rattle.mako_call.specs.declared.putting.PutStage.{PutStage}
use Rattle.mako_call.specs.declared.putting.PutStage.TheVariants.{LoadingHeader, LoadingOld, LookingAtBarrier}
use Rattle.mako_call.specs.declared.putting.PutStage.TheVariants.{StoringBarrier, StoringField}
use Rattle.mako_call.specs.declared.allocating.AllocStage.{AllocStage}
use Rattle.mako_call.specs.declared.allocating.AllocStage.TheVariants.{LoadingPhase as NewPhase, Searching, StoringRoot}
use Rattle.mako_call.specs.declared.allocating.AllocStage.TheVariants.{GivingTurn}
use Rattle.mako_call.specs.declared.leaving.LeaveStage.{LeaveStage}
use Rattle.mako_call.specs.declared.leaving.LeaveStage.TheVariants.{Refused, TurnedAway, FromTablet, FromOwn}
use Rattle.mako_call.specs.Causes.{IsStopped, Searched, IsTurnedAway, IsTrace, IsPhaseSeen, IsNameSeen, PauseIsCaused}
use Rattle.mako_call.specs.Causes.{AnswerIsCaused, OutcomeIsCaused}

abbrev pub AccessShows : Caller → List Observation → Access → Type 0
AccessShows k trail (Gets get) = Unit {0}
AccessShows k trail (Puts put) = IsPhaseSeen k trail put.phase

abbrev pub PutShows : Caller → List Observation → Located → PutArgs → PutStage → Type 0
PutShows k trail at put LoadingHeader = IsPhaseSeen k trail put.phase
PutShows k trail at put LoadingOld = IsPhaseSeen k trail put.phase × IsTrace put.phase
PutShows k trail at put (LookingAtBarrier old) = IsPhaseSeen k trail put.phase × IsTrace put.phase
    × IsNameSeen trail at.address put.field old
PutShows k trail at put (StoringBarrier old) = Unit {0}
PutShows k trail at put StoringField = Unit {0}

-- the search has gone so far in the last part of the trail
pub record IsSearching (k : Caller) (fields : ℕ) (trail : List Observation) (search : Allocation) : Type 0 where
  pub cycle : ℕ
  pub in_range : cycle ≤ k.shape.cycles
  pub earlier : List Observation
  pub part : List Observation
  pub splits : trail ≡ earlier ++ part
  pub goes : Goes allocating.next_of allocating.Fits allocating.fed
      (allocating.opening (record { shape = k.shape; mutator = k.mutator; fields = fields; cycle = cycle })) part search

abbrev pub AllocShows : Caller → List Observation → AllocStage → Type 0
AllocShows k trail (NewPhase root fields) = Unit {0}
AllocShows k trail (Searching root search) = IsSearching k search.job.fields trail search
AllocShows k trail (StoringRoot root name tablet) = Unit {0}
AllocShows k trail (GivingTurn name tablet) = Unit {0}

abbrev pub LeaveShows : Caller → Call → List Observation → LeaveStage → Type 0
LeaveShows k call trail (Refused w) = IsStopped k trail w
LeaveShows k call trail (TurnedAway t w) = IsTurnedAway k call trail t w
LeaveShows k call trail (FromTablet t outcome) = OutcomeIsCaused k call trail outcome
LeaveShows k call trail (FromOwn outcome) = OutcomeIsCaused k call trail outcome

abbrev pub StageShows : Caller → Call → List Observation → CallStage → Type 0
StageShows k call trail Arriving = trail ≡ []
StageShows k call trail (Rooting s) = Unit {0}
StageShows k call trail (Entering e s) = AccessShows k trail e.access
StageShows k call trail (Moving e s) = AccessShows k trail e.access
StageShows k call trail (Getting at get s) = Unit {0}
StageShows k call trail (Putting at put s) = PutShows k trail at put s
StageShows k call trail (Allocating s) = AllocShows k trail s
StageShows k call trail (Asking s) = Unit {0}
StageShows k call trail (Leaving s) = LeaveShows k call trail s
StageShows k call trail (Ended outcome) = OutcomeIsCaused k call trail outcome

-- what a trail shows, a longer one shows
module _ (trail : List Observation) (o : Observation) where
  pub still : (x : Observation) → Contains trail x → Contains (trail ++ o ∷ []) x
  still x h = Contains-append_left trail (o ∷ []) x h

  pub newest : Contains (trail ++ o ∷ []) o
  newest = Contains-append_right trail (o ∷ []) o (0, omega arith, refl)

  pub still_searched : (k : Caller) (call : Call) (Shows : Job → List Observation → Type 0)
      → Searched k call trail Shows → Searched k call (trail ++ o ∷ []) Shows
  still_searched k call Shows h = record {
    root = h.root;
    fields = h.fields;
    cycle = h.cycle;
    call_is = h.call_is;
    earlier = h.earlier;
    search = h.search;
    later = h.later ++ o ∷ [];
    splits = ap (λ t. t ++ o ∷ []) h.splits ∙ append_assoc h.earlier (h.search ++ h.later) (o ∷ [])
        ∙ ap (λ t. h.earlier ++ t) (append_assoc h.search h.later (o ∷ []));
    shows = h.shows;
  }

  pub still_phase : (k : Caller) (p : PhaseWord) → IsPhaseSeen k trail p → IsPhaseSeen k (trail ++ o ∷ []) p
  still_phase k p h = record { word = h.word; seen = still _ h.seen; is = h.is }

  pub still_name : (address field : ℕ) (name : Name) → IsNameSeen trail address field name
      → IsNameSeen (trail ++ o ∷ []) address field name
  still_name address field name h = record { word = h.word; seen = still _ h.seen; is = h.is }

  pub still_stopped : (k : Caller) (w : ℕ) → IsStopped k trail w → IsStopped k (trail ++ o ∷ []) w
  still_stopped k w h = record { later = h.later ++ o ∷ []; first = ap (λ t. t ++ o ∷ []) h.first; shut = h.shut }

  pub still_turned_away : (k : Caller) (call : Call) (t w : ℕ) → IsTurnedAway k call trail t w
      → IsTurnedAway k call (trail ++ o ∷ []) t w
  still_turned_away k call t w h = record {
    seen = still _ h.seen;
    shut = h.shut;
    first = λ is. still_searched k call _ (h.first is);
  }

  pub still_paused : (k : Caller) (call : Call) (pause : Pause) → PauseIsCaused k call trail pause
      → PauseIsCaused k call (trail ++ o ∷ []) pause
  still_paused k call (Stopped w) h = still_stopped k w h
  still_paused k call (Shut t w) h = still_turned_away k call t w h
  still_paused k call (Busy t w) h = record {
    seen = still _ h.seen;
    held = h.held;
    first = λ is. still_searched k call _ (h.first is);
  }
  still_paused k call (BeingMoved t w) h = still_searched k call _ h
  still_paused k call (Barrier slot w) h = record {
    phase_is = h.phase_is;
    phase_seen = still_phase k h.phase_is h.phase_seen;
    traces = h.traces;
    address = h.address;
    field = h.field;
    puts = h.puts;
    name = h.name;
    name_seen = still_name h.address h.field h.name h.name_seen;
    seen = still _ h.seen;
    filled = h.filled;
  }
  still_paused k call (NotYet wanted w) h = record { collects = h.collects; seen = still _ h.seen; early = h.early }

  still_answered : (k : Caller) (call : Call) (reply : Reply) → AnswerIsCaused k call trail reply
      → AnswerIsCaused k call (trail ++ o ∷ []) reply
  still_answered k call (Made name) h = tt
  still_answered k call NoRoom h = still_searched k call _ h
  still_answered k call (Told value) h = tt
  still_answered k call Done h = tt
  still_answered k call NoRef h = tt
  still_answered k call NoField h = tt
  still_answered k call (Cycle cycle) h = tt
  still_answered k call Spent h = tt

  pub still_caused : (k : Caller) (call : Call) (outcome : Attempt) → OutcomeIsCaused k call trail outcome
      → OutcomeIsCaused k call (trail ++ o ∷ []) outcome
  still_caused k call (Answer reply) h = still_answered k call reply h
  still_caused k call Full h = still_searched k call _ h
  still_caused k call (Paused pause) h = still_paused k call pause h

  pub still_access : (k : Caller) (access : Access) → AccessShows k trail access
      → AccessShows k (trail ++ o ∷ []) access
  still_access k (Gets get) h = tt
  still_access k (Puts put) h = still_phase k put.phase h
