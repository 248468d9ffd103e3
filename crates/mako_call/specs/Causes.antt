-- What each outcome of an attempt rests on: acts that it made, with the words that they found.
use Rattle.std.specs.Prelude.{◌≡◌, ◌≢◌, ℕ, Bool, true, ◌+◌, ◌<◌, List, ◌∷◌, ◌++◌, Option}
use Rattle.std.specs.List.{Contains}
use Rattle.mako_words.specs.Gates.{is_shut}
use Rattle.mako_words.specs.Phases.{phase_at}
use Rattle.mako_words.specs.Values.{value_at}
use Rattle.mako_words.specs.declared.name.Name.{Name}
use Rattle.mako_words.specs.declared.value.Value.TheVariants.{Ref}
use Rattle.mako_words.specs.declared.phase_word.PhaseWord.{PhaseWord}
use Rattle.mako_words.specs.declared.phase_word.PhaseWord.TheVariants.{Idle, Trace, Evac, Stop}
use Rattle.mako_shape.specs.Places.{phase, mutator_gate, barrier, tablet_gate, turn}
use Rattle.mako_step.specs.Trails.{Observation, Goes}
use Rattle.mako_step.specs.declared.act.Op.TheVariants.{Load, Add, Exchange}
use Rattle.mako_model.specs.declared.call.Call.{Call}
use Rattle.mako_model.specs.declared.call.Call.TheVariants.{New, Put}
use Rattle.mako_model.specs.declared.reply.Reply.{Reply}
use Rattle.mako_model.specs.declared.reply.Reply.TheVariants.{Made, Full as NoRoom, Value as Told, Done, NoRef, NoField}
use Rattle.mako_model.specs.declared.reply.Reply.TheVariants.{Cycle, Spent}
use Rattle.mako_model.specs.declared.attempt.Attempt.{Attempt}
use Rattle.mako_model.specs.declared.attempt.Attempt.TheVariants.{Answer, Full, Pause as Paused}
use Rattle.mako_model.specs.declared.attempt.Pause.{Pause}
use Rattle.mako_model.specs.declared.attempt.Pause.TheVariants.{Stopped, Shut, Busy, Moving, Barrier, Cycle as NotYet}
use Rattle.mako_alloc.specs.declared.job.Job.{Job}
use Rattle.mako_alloc.specs.Seen.{sees}
use Rattle.mako_alloc.specs.Notes.{IsFirstNote}
use Rattle.mako_alloc.specs.Causes.{IsFull}
use Rattle.mako_call.specs.declared.caller.Caller.{Caller}
use Rattle.mako_call.specs.declared.call_stage.CallStage.TheVariants.{Ended}
use Rattle.mako_call.specs.Agreeing.{IsNew, IsCollect}
use Rattle.mako_call.specs.Asking.{finished_cycles}
use Rattle.mako_call.specs.Deciding.{field_load}
use Rattle.mako_call.specs.Calls.{Calling, next_of, fed, Fits, opening, IsKnown}

-- the arrival at the own gate
abbrev pub own_arrival : Caller → ℕ → Observation
own_arrival k w = sees k.shape (mutator_gate k.mutator) (Add 1) w

-- the first act was the arrival at the own gate, and found the shut bit
pub record IsStopped (k : Caller) (trail : List Observation) (w : ℕ) : Type 0 where
  pub later : List Observation
  pub first : trail ≡ own_arrival k w ∷ later
  pub shut : is_shut w ≡ true

-- a new went over the tablets in a part of the trail, of which this holds
pub record Searched (k : Caller) (call : Call) (trail : List Observation) (Shows : Job → List Observation
    → Type 0) : Type 0 where
  pub root : ℕ
  pub fields : ℕ
  pub cycle : ℕ
  pub call_is : call ≡ New root fields
  pub earlier : List Observation
  pub search : List Observation
  pub later : List Observation
  pub splits : trail ≡ earlier ++ (search ++ later)
  pub shows : Shows (record { shape = k.shape; mutator = k.mutator; fields = fields; cycle = cycle }) search

-- in a new, the reason is the first that it met
abbrev pub IsFirstIn : Caller → Call → List Observation → Pause → Type 0
IsFirstIn k call trail pause = Searched k call trail (λ job search. IsFirstNote job search pause)

-- an arrival at the tablet's gate found the shut bit
pub record IsTurnedAway (k : Caller) (call : Call) (trail : List Observation) (t w : ℕ) : Type 0 where
  pub seen : Contains trail (sees k.shape (tablet_gate t) (Add 1) w)
  pub shut : is_shut w ≡ true
  pub first : IsNew call → IsFirstIn k call trail (Shut t w)

-- an exchange on the tablet's turn word found another's number
pub record IsHeldOff (k : Caller) (call : Call) (trail : List Observation) (t w : ℕ) : Type 0 where
  pub seen : Contains trail (sees k.shape (turn t) (Exchange 0 (k.mutator + 1)) w)
  pub held : w ≢ 0
  pub first : IsNew call → IsFirstIn k call trail (Busy t w)

abbrev pub IsTrace : PhaseWord → Type 0
IsTrace (Idle cycle) = ⊥
IsTrace (Trace cycle) = Unit {0}
IsTrace (Evac cycle) = ⊥
IsTrace (Stop cycle) = ⊥

abbrev pub IsPut : Call → ℕ → Type 0
IsPut (Put to field from) i = i ≡ field
IsPut call i = ⊥

-- the phase was loaded
pub record IsPhaseSeen (k : Caller) (trail : List Observation) (p : PhaseWord) : Type 0 where
  pub word : ℕ
  pub seen : Contains trail (sees k.shape phase Load word)
  pub is : phase_at word ≡ p

-- a field was loaded that held this name
pub record IsNameSeen (trail : List Observation) (address field : ℕ) (name : Name) : Type 0 where
  pub word : ℕ
  pub seen : Contains trail (record { act = field_load address field; found = word })
  pub is : value_at word ≡ Ref name

-- a put, while the servers traced, over a field that held a name, looked at its own barrier slot and found a word
pub record IsBarred (k : Caller) (call : Call) (trail : List Observation) (slot w : ℕ) : Type 0 where
  pub phase_is : PhaseWord
  pub phase_seen : IsPhaseSeen k trail phase_is
  pub traces : IsTrace phase_is
  pub address : ℕ
  pub field : ℕ
  pub puts : IsPut call field
  pub name : Name
  pub name_seen : IsNameSeen trail address field name
  pub seen : Contains trail (sees k.shape (barrier k.mutator slot) Load w)
  pub filled : w ≢ 0

-- a collect loaded the phase, and fewer cycles had finished than the wanted one
pub record IsEarly (k : Caller) (call : Call) (trail : List Observation) (wanted w : ℕ) : Type 0 where
  pub collects : IsCollect call
  pub seen : Contains trail (sees k.shape phase Load w)
  pub early : finished_cycles (phase_at w) < wanted

abbrev pub PauseIsCaused : Caller → Call → List Observation → Pause → Type 0
PauseIsCaused k call trail (Stopped w) = IsStopped k trail w
PauseIsCaused k call trail (Shut t w) = IsTurnedAway k call trail t w
PauseIsCaused k call trail (Busy t w) = IsHeldOff k call trail t w
PauseIsCaused k call trail (Moving t w) = IsFirstIn k call trail (Moving t w)
PauseIsCaused k call trail (Barrier slot w) = IsBarred k call trail slot w
PauseIsCaused k call trail (NotYet wanted w) = IsEarly k call trail wanted w

-- in every tablet there was no room or no free entry, and each could be tried
abbrev pub IsFullEverywhere : Caller → Call → List Observation → Type 0
IsFullEverywhere k call trail = Searched k call trail IsFull

-- of the answers, full rests on what the whole trail shows; on what the others rest is seen at the deciding step
abbrev pub AnswerIsCaused : Caller → Call → List Observation → Reply → Type 0
AnswerIsCaused k call trail (Made name) = Unit {0}
AnswerIsCaused k call trail NoRoom = IsFullEverywhere k call trail
AnswerIsCaused k call trail (Told value) = Unit {0}
AnswerIsCaused k call trail Done = Unit {0}
AnswerIsCaused k call trail NoRef = Unit {0}
AnswerIsCaused k call trail NoField = Unit {0}
AnswerIsCaused k call trail (Cycle cycle) = Unit {0}
AnswerIsCaused k call trail Spent = Unit {0}

abbrev pub OutcomeIsCaused : Caller → Call → List Observation → Attempt → Type 0
OutcomeIsCaused k call trail (Answer reply) = AnswerIsCaused k call trail reply
OutcomeIsCaused k call trail Full = IsFullEverywhere k call trail
OutcomeIsCaused k call trail (Paused pause) = PauseIsCaused k call trail pause

-- each outcome of an attempt has its cause in the attempt's trail
abbrev pub OutcomesAreCaused : Type 0
OutcomesAreCaused = (k : Caller) (call : Call) (last : Bool) (asked : Option ℕ) (slot : ℕ) (trail : List Observation)
    (l : Calling) (outcome : Attempt) →
    IsKnown (opening k call last asked slot) → Goes next_of Fits fed (opening k call last asked slot) trail l
    → l.stage ≡ Ended outcome → OutcomeIsCaused k call trail outcome

-- an attempt whose arrival at its own gate found the shut bit comes to nothing else than the pause that says so
abbrev pub ShutGatesStop : Type 0
ShutGatesStop = (k : Caller) (call : Call) (last : Bool) (asked : Option ℕ) (slot : ℕ) (trail : List Observation)
    (l : Calling) (outcome : Attempt) (w : ℕ) →
    Goes next_of Fits fed (opening k call last asked slot) trail l → IsStopped k trail w → l.stage ≡ Ended outcome
    → outcome ≡ Paused (Stopped w)
