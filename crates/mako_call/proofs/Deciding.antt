-- A call that is decided stays so, and its attempt comes to that answer.
use Rattle.std.proofs.Common.{◌≡◌, ℕ, Bool, true, false, Some, ap}
use Rattle.std.proofs.lemmas.Option.{none-some, same_Some}
use Rattle.mako_model.specs.declared.call.Call.{Call}
use Rattle.mako_model.specs.declared.reply.Reply.{Reply}
use Rattle.mako_model.specs.declared.attempt.Attempt.{Attempt}
use Rattle.mako_model.specs.declared.attempt.Attempt.TheVariants.{Answer, Full, Pause as Paused}
use Rattle.mako_call.specs.declared.caller.Caller.{Caller}
use Rattle.mako_call.specs.declared.call_stage.CallStage.{CallStage}
use Rattle.mako_call.specs.declared.call_stage.CallStage.TheVariants.{Arriving, Rooting, Entering, Moving, Getting}
use Rattle.mako_call.specs.declared.call_stage.CallStage.TheVariants.{Putting, Allocating, Asking, Leaving, Ended}
use Rattle.mako_call.specs.declared.getting.GetStage.TheVariants.{LoadingHeader, LoadingField}
use Rattle.mako_call.specs.declared.getting.GetStage.TheVariants.{StoringRoot as StoringGot}
use Rattle.mako_call.specs.declared.allocating.AllocStage.TheVariants.{LoadingPhase, Searching, StoringRoot, GivingTurn}
use Rattle.mako_call.specs.declared.leaving.LeaveStage.TheVariants.{Refused, TurnedAway, FromTablet, FromOwn}
use Rattle.mako_call.specs.Leaving.{outcome_of}
use Rattle.mako_call.specs.Calls.{Calling, stage_fed, fed, reply_of, decided, outcome_in}

outcome_stays : (last : Bool) (outcome : Attempt) (r : Reply) → reply_of outcome ≡ Some r
    → reply_of (outcome_of last outcome) ≡ Some r
outcome_stays true (Answer reply) r is = is
outcome_stays false (Answer reply) r is = is
outcome_stays last Full r is = absurd (none-some r is)
outcome_stays last (Paused pause) r is = absurd (none-some r is)

stage_stays : (k : Caller) (call : Call) (last : Bool) (slot : ℕ) (s : CallStage) (w : ℕ) (r : Reply)
    → decided s ≡ Some r → decided (stage_fed k call last slot s w) ≡ Some r
stage_stays k call last slot Arriving w r is = absurd (none-some r is)
stage_stays k call last slot (Rooting s) w r is = absurd (none-some r is)
stage_stays k call last slot (Entering e s) w r is = absurd (none-some r is)
stage_stays k call last slot (Moving e s) w r is = absurd (none-some r is)
stage_stays k call last slot (Getting at get LoadingHeader) w r is = absurd (none-some r is)
stage_stays k call last slot (Getting at get LoadingField) w r is = absurd (none-some r is)
stage_stays k call last slot (Getting at get (StoringGot value)) w r is = is
stage_stays k call last slot (Putting at put s) w r is = absurd (none-some r is)
stage_stays k call last slot (Allocating (LoadingPhase root fields)) w r is = absurd (none-some r is)
stage_stays k call last slot (Allocating (Searching root search)) w r is = absurd (none-some r is)
stage_stays k call last slot (Allocating (StoringRoot root name tablet)) w r is = is
stage_stays k call last slot (Allocating (GivingTurn name tablet)) w r is = is
stage_stays k call last slot (Asking s) w r is = absurd (none-some r is)
stage_stays k call last slot (Leaving (Refused word)) w r is = absurd (none-some r is)
stage_stays k call last slot (Leaving (TurnedAway tablet word)) w r is = absurd (none-some r is)
stage_stays k call last slot (Leaving (FromTablet tablet outcome)) w r is = is
stage_stays k call last slot (Leaving (FromOwn outcome)) w r is = outcome_stays last outcome r is
stage_stays k call last slot (Ended outcome) w r is = is

-- once a call is decided, no step changes its reply
pub decided_stays : (v : Calling) (w : ℕ) (r : Reply) → decided v.stage ≡ Some r → decided (fed v w).stage ≡ Some r
decided_stays v w r is = stage_stays v.caller v.call v.last v.slot v.stage w r is

-- the outcome of an attempt that has ended tells whether the call is decided
pub ended_decided : (s : CallStage) (outcome : Attempt) → outcome_in s ≡ Some outcome → decided s ≡ reply_of outcome
ended_decided Arriving o is = absurd (none-some o is)
ended_decided (Rooting s) o is = absurd (none-some o is)
ended_decided (Entering e s) o is = absurd (none-some o is)
ended_decided (Moving e s) o is = absurd (none-some o is)
ended_decided (Getting at get s) o is = absurd (none-some o is)
ended_decided (Putting at put s) o is = absurd (none-some o is)
ended_decided (Allocating s) o is = absurd (none-some o is)
ended_decided (Asking s) o is = absurd (none-some o is)
ended_decided (Leaving s) o is = absurd (none-some o is)
ended_decided (Ended outcome) o is = ap reply_of (same_Some outcome o is)
