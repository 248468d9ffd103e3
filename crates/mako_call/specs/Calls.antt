-- An attempt of a call, as a machine.
use Rattle.std.specs.Prelude.{◌≡◌, ◌≤◌, ℕ, Bool, true, false, ◌+◌, ◌*◌, ◌<◌, Option, Some, None}
use Rattle.mako_words.specs.Gates.{IsPackedGate, is_shut}
use Rattle.mako_shape.specs.declared.numbers.Numbers.{Numbers}
use Rattle.mako_shape.specs.Places.{index, mutator_gate}
use Rattle.mako_step.specs.Acts.{does}
use Rattle.mako_step.specs.declared.act.Op.TheVariants.{Add}
use Rattle.mako_step.specs.declared.step.Step.{Step}
use Rattle.mako_step.specs.declared.step.Step.TheVariants.{Ended as NoStep}
use Rattle.mako_model.specs.declared.call.Call.{Call}
use Rattle.mako_model.specs.declared.call.Call.TheVariants.{New, Num, CopyRoot, DropRoot, Get, Put, Show, Collect}
use Rattle.mako_model.specs.declared.reply.Reply.{Reply}
use Rattle.mako_model.specs.declared.reply.Reply.TheVariants.{Made, Value as Told}
use Rattle.mako_model.specs.declared.point.Point.TheVariants.{Did}
use Rattle.mako_model.specs.declared.event.Event.{Event}
use Rattle.mako_model.specs.declared.event.Event.TheVariants.{Nothing, Answered}
use Rattle.mako_model.specs.declared.attempt.Attempt.{Attempt}
use Rattle.mako_model.specs.declared.attempt.Attempt.TheVariants.{Answer, Full, Pause as Paused}
use Rattle.mako_model.specs.declared.attempt.Pause.{Pause}
use Rattle.mako_call.specs.declared.caller.Caller.{Caller}
use Rattle.mako_call.specs.declared.call_machine.Keep.{Keep}
use Rattle.mako_call.specs.declared.call_stage.CallStage.{CallStage}
use Rattle.mako_call.specs.declared.call_stage.CallStage.TheVariants.{Arriving, Rooting, Entering, Moving, Getting}
use Rattle.mako_call.specs.declared.call_stage.CallStage.TheVariants.{Putting, Allocating, Asking, Leaving, Ended}
use Rattle.mako_call.specs.declared.rooting.RootStage.TheVariants.{StoringNumber, StoringNull, LoadingCopied}
use Rattle.mako_call.specs.declared.rooting.RootStage.TheVariants.{LoadingShown, LoadingSource, LoadingTarget}
use Rattle.mako_call.specs.declared.getting.GetStage.{GetStage}
use Rattle.mako_call.specs.declared.getting.GetStage.TheVariants.{LoadingHeader, LoadingField}
use Rattle.mako_call.specs.declared.getting.GetStage.TheVariants.{StoringRoot as StoringGot}
use Rattle.mako_call.specs.declared.allocating.AllocStage.{AllocStage}
use Rattle.mako_call.specs.declared.allocating.AllocStage.TheVariants.{LoadingPhase as NewPhase, Searching, StoringRoot}
use Rattle.mako_call.specs.declared.allocating.AllocStage.TheVariants.{GivingTurn}
use Rattle.mako_call.specs.declared.asking.AskStage.TheVariants.{LoadingPhase as AskPhase, Awaiting}
use Rattle.mako_call.specs.declared.leaving.LeaveStage.{LeaveStage}
use Rattle.mako_call.specs.declared.leaving.LeaveStage.TheVariants.{Refused, TurnedAway, FromTablet, FromOwn}
use Rattle.mako_call.specs.Callers.{IsCaller, CallFits}
use Rattle.mako_call.specs.Objects.{ErrandIsKnown, LocatedIsKnown}
use Rattle.mako_call.specs.Rooting.{root_next, root_fed, RootFits, root_rank, RootIsKnown}
use Rattle.mako_call.specs.Entering.{enter_next, enter_fed, EnterFits, enter_rank, EnterIsKnown}
use Rattle.mako_call.specs.Moving.{move_next, move_fed, MoveFits, move_rank, MoveIsKnown}
use Rattle.mako_call.specs.Getting.{get_next, get_fed, GetFits, get_rank, GetIsKnown}
use Rattle.mako_call.specs.Putting.{put_next, put_fed, slot_fed, PutFits, put_rank, PutIsKnown}
use Rattle.mako_call.specs.Allocating.{new_next, new_fed, NewFits, new_rank, NewIsKnown}
use Rattle.mako_call.specs.Asking.{ask_next, ask_fed, ask_waits, AskFits, ask_rank, AskIsKnown}
use Rattle.mako_call.specs.Leaving.{leave_next, leave_fed, leave_rank, LeaveIsKnown}
use Rattle.mako_call.specs.Agreeing.{asked_of, StageOf}

-- who makes which call, whether it is the last attempt, the barrier slot for the next name, and the stage
pub record Calling : Type 0 where
  pub caller : Caller
  pub call : Call
  pub last : Bool
  pub slot : ℕ
  pub stage : CallStage

-- a collect goes on where it has asked for a cycle; every other call arrives at the own gate
abbrev pub first_stage : Call → Option ℕ → CallStage
first_stage (New root fields) asked = Arriving
first_stage (Num root number) asked = Arriving
first_stage (CopyRoot to from) asked = Arriving
first_stage (DropRoot root) asked = Arriving
first_stage (Get to from field) asked = Arriving
first_stage (Put to field from) asked = Arriving
first_stage (Show root) asked = Arriving
first_stage Collect None = Asking AskPhase
first_stage Collect (Some cycle) = Asking (Awaiting cycle)

abbrev pub opening : Caller → Call → Bool → Option ℕ → ℕ → Calling
opening k call last asked slot = record {
  caller = k;
  call = call;
  last = last;
  slot = slot;
  stage = first_stage call asked;
}

abbrev pub stage_next : Caller → ℕ → CallStage → Step
stage_next k slot Arriving = does (index k.shape (mutator_gate k.mutator)) (Add 1)
stage_next k slot (Rooting s) = root_next k s
stage_next k slot (Entering e s) = enter_next k e s
stage_next k slot (Moving e s) = move_next k e s
stage_next k slot (Getting at get s) = get_next k at get s
stage_next k slot (Putting at put s) = put_next k slot at put s
stage_next k slot (Allocating s) = new_next k s
stage_next k slot (Asking s) = ask_next k.shape s
stage_next k slot (Leaving s) = leave_next k s
stage_next k slot (Ended outcome) = NoStep

abbrev pub next_of : Calling → Step
next_of v = stage_next v.caller v.slot v.stage

-- what a call does once it is admitted at the own gate, at which a collect does not arrive
abbrev pub admitted : Call → CallStage
admitted (New root fields) = Allocating (NewPhase root fields)
admitted (Num root number) = Rooting (StoringNumber root number)
admitted (CopyRoot to from) = Rooting (LoadingCopied to from)
admitted (DropRoot root) = Rooting (StoringNull root)
admitted (Get to from field) = Rooting (LoadingSource to from field)
admitted (Put to field from) = Rooting (LoadingTarget to field from)
admitted (Show root) = Rooting (LoadingShown root)
admitted Collect = Asking AskPhase

-- an arrival at a shut gate is taken back
abbrev pub arrived : Call → ℕ → Bool → CallStage
arrived call w true = Leaving (Refused w)
arrived call w false = admitted call

abbrev pub stage_fed : Caller → Call → Bool → ℕ → CallStage → ℕ → CallStage
stage_fed k call last slot Arriving w = arrived call w (is_shut w)
stage_fed k call last slot (Rooting s) w = root_fed s w
stage_fed k call last slot (Entering e s) w = enter_fed k.shape e s w
stage_fed k call last slot (Moving e s) w = move_fed k.shape e s w
stage_fed k call last slot (Getting at get s) w = get_fed k.shape at get s w
stage_fed k call last slot (Putting at put s) w = put_fed k.shape slot at put s w
stage_fed k call last slot (Allocating s) w = new_fed k s w
stage_fed k call last slot (Asking s) w = ask_fed k.shape s w
stage_fed k call last slot (Leaving s) w = leave_fed last s
stage_fed k call last slot (Ended outcome) w = Ended outcome

-- the barrier slot rises where a put stores a name there
abbrev pub slot_after : Numbers → ℕ → CallStage → ℕ
slot_after n slot Arriving = slot
slot_after n slot (Rooting s) = slot
slot_after n slot (Entering e s) = slot
slot_after n slot (Moving e s) = slot
slot_after n slot (Getting at get s) = slot
slot_after n slot (Putting at put s) = slot_fed n.ring slot s
slot_after n slot (Allocating s) = slot
slot_after n slot (Asking s) = slot
slot_after n slot (Leaving s) = slot
slot_after n slot (Ended outcome) = slot

abbrev pub fed : Calling → ℕ → Calling
fed v w = record v {
  slot = slot_after v.caller.shape v.slot v.stage;
  stage = stage_fed v.caller v.call v.last v.slot v.stage w;
}

-- the reply of an outcome that is an answer
abbrev pub reply_of : Attempt → Option Reply
reply_of (Answer reply) = Some reply
reply_of Full = None
reply_of (Paused pause) = None

abbrev pub get_decided : GetStage → Option Reply
get_decided LoadingHeader = None
get_decided LoadingField = None
get_decided (StoringGot value) = Some (Told value)

abbrev pub new_decided : AllocStage → Option Reply
new_decided (NewPhase root fields) = None
new_decided (Searching root search) = None
new_decided (StoringRoot root name tablet) = Some (Made name)
new_decided (GivingTurn name tablet) = Some (Made name)

abbrev pub leave_decided : LeaveStage → Option Reply
leave_decided (Refused word) = None
leave_decided (TurnedAway tablet word) = None
leave_decided (FromTablet tablet outcome) = reply_of outcome
leave_decided (FromOwn outcome) = reply_of outcome

-- the reply, once the call is decided
abbrev pub decided : CallStage → Option Reply
decided Arriving = None
decided (Rooting s) = None
decided (Entering e s) = None
decided (Moving e s) = None
decided (Getting at get s) = get_decided s
decided (Putting at put s) = None
decided (Allocating s) = new_decided s
decided (Asking s) = None
decided (Leaving s) = leave_decided s
decided (Ended outcome) = reply_of outcome

-- what an attempt that has ended came to
abbrev pub outcome_in : CallStage → Option Attempt
outcome_in Arriving = None
outcome_in (Rooting s) = None
outcome_in (Entering e s) = None
outcome_in (Moving e s) = None
outcome_in (Getting at get s) = None
outcome_in (Putting at put s) = None
outcome_in (Allocating s) = None
outcome_in (Asking s) = None
outcome_in (Leaving s) = None
outcome_in (Ended outcome) = Some outcome

-- what is kept for the next attempt
abbrev pub kept : Calling → Attempt → Keep
kept v outcome = record { asked = asked_of v.call outcome; barrier_at = v.slot }

-- whether a reply comes to stand
abbrev pub newly : Option Reply → Option Reply → Bool
newly None None = false
newly None (Some reply) = true
newly (Some earlier) later = false

-- whether a step from the one stage to the other decides the call
abbrev pub tells : CallStage → CallStage → Bool
tells before after = newly (decided before) (decided after)

-- the deciding step is the one with which a reply comes to stand: its point enters the history
abbrev pub event_by : ℕ → Call → Option Reply → Option Reply → Event
event_by m call None None = Nothing
event_by m call None (Some reply) = Answered (Did m call reply)
event_by m call (Some earlier) later = Nothing

abbrev pub event_of : Calling → ℕ → Event
event_of v w = event_by v.caller.mutator v.call (decided v.stage) (decided (fed v w).stage)

abbrev pub StageFits : Numbers → CallStage → ℕ → Type 0
StageFits n Arriving w = IsPackedGate w
StageFits n (Rooting s) w = RootFits n s w
StageFits n (Entering e s) w = EnterFits n s w
StageFits n (Moving e s) w = MoveFits n s w
StageFits n (Getting at get s) w = GetFits n at s w
StageFits n (Putting at put s) w = PutFits n at s w
StageFits n (Allocating s) w = NewFits n s w
StageFits n (Asking s) w = AskFits n s w
StageFits n (Leaving s) w = Unit {0}
StageFits n (Ended outcome) w = Unit {0}

abbrev pub Fits : Calling → ℕ → Type 0
Fits v w = StageFits v.caller.shape v.stage w

-- whether it waits for a cycle that has not finished by this word
abbrev pub stage_waits : CallStage → ℕ → Bool
stage_waits Arriving w = false
stage_waits (Rooting s) w = false
stage_waits (Entering e s) w = false
stage_waits (Moving e s) w = false
stage_waits (Getting at get s) w = false
stage_waits (Putting at put s) w = false
stage_waits (Allocating s) w = false
stage_waits (Asking s) w = ask_waits s w
stage_waits (Leaving s) w = false
stage_waits (Ended outcome) w = false

-- this word leads to a pause, of which nothing is told, and the attempt after it is the same
pub record ComesAgain (v : Calling) (w : ℕ) : Type 0 where
  pub pause : Pause
  pub outcome : outcome_in (fed v w).stage ≡ Some (Paused pause)
  pub event : event_of v w ≡ Nothing
  pub same : opening v.caller v.call v.last (asked_of v.call (Paused pause)) (fed v w).slot ≡ v

-- the most steps that are left
abbrev pub stage_rank : Numbers → CallStage → ℕ
stage_rank n Arriving = n.servers * n.tablets * (n.entries + 6) + 50
stage_rank n (Rooting s) = root_rank s
stage_rank n (Entering e s) = enter_rank s
stage_rank n (Moving e s) = move_rank s
stage_rank n (Getting at get s) = get_rank s
stage_rank n (Putting at put s) = put_rank s
stage_rank n (Allocating s) = new_rank n s
stage_rank n (Asking s) = ask_rank s
stage_rank n (Leaving s) = leave_rank s
stage_rank n (Ended outcome) = 0

abbrev pub rank : Calling → ℕ
rank v = stage_rank v.caller.shape v.stage

abbrev pub StageIsKnown : Caller → CallStage → Type 0
StageIsKnown k Arriving = Unit {0}
StageIsKnown k (Rooting s) = RootIsKnown k.shape s
StageIsKnown k (Entering e s) = ErrandIsKnown k.shape e × EnterIsKnown k.shape s
StageIsKnown k (Moving e s) = ErrandIsKnown k.shape e × MoveIsKnown k.shape s
StageIsKnown k (Getting at get s) = LocatedIsKnown k.shape at × GetIsKnown k.shape at get s
StageIsKnown k (Putting at put s) = LocatedIsKnown k.shape at × PutIsKnown k.shape at put s
StageIsKnown k (Allocating s) = NewIsKnown k s
StageIsKnown k (Asking s) = AskIsKnown k.shape s
StageIsKnown k (Leaving s) = LeaveIsKnown k.shape s
StageIsKnown k (Ended outcome) = Unit {0}

-- the numbers are in their ranges, and the stage is one of the call
pub record IsKnown (v : Calling) : Type 0 where
  pub caller : IsCaller v.caller
  pub call : CallFits v.caller.shape v.call
  pub slot : v.slot < v.caller.shape.ring
  pub stage : StageIsKnown v.caller v.stage
  pub agrees : StageOf v.caller.shape v.call v.stage

-- the steps of an attempt are at most so many
abbrev pub RanksAreSmall : Type 0
RanksAreSmall = (k : Caller) (call : Call) (last : Bool) (asked : Option ℕ) (slot : ℕ) →
    rank (opening k call last asked slot) ≤ k.shape.servers * k.shape.tablets * (k.shape.entries + 6) + 64
