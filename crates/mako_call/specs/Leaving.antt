-- The stages of an attempt that leaves the gates at which it arrived.
use Rattle.std.specs.Prelude.{ℕ, Bool, true, false, ◌*◌, ◌<◌}
use Rattle.mako_shape.specs.declared.numbers.Numbers.{Numbers}
use Rattle.mako_shape.specs.Places.{index, mutator_gate, tablet_gate}
use Rattle.mako_step.specs.Acts.{does}
use Rattle.mako_step.specs.declared.act.Op.TheVariants.{Sub}
use Rattle.mako_step.specs.declared.step.Step.{Step}
use Rattle.mako_model.specs.declared.reply.Reply.{Reply}
use Rattle.mako_model.specs.declared.reply.Reply.TheVariants.{Full as NoRoom}
use Rattle.mako_model.specs.declared.attempt.Attempt.{Attempt}
use Rattle.mako_model.specs.declared.attempt.Attempt.TheVariants.{Answer, Full, Pause as Paused}
use Rattle.mako_model.specs.declared.attempt.Pause.TheVariants.{Stopped, Shut}
use Rattle.mako_call.specs.declared.caller.Caller.{Caller}
use Rattle.mako_call.specs.declared.call_stage.CallStage.{CallStage}
use Rattle.mako_call.specs.declared.call_stage.CallStage.TheVariants.{Leaving, Ended}
use Rattle.mako_call.specs.declared.leaving.LeaveStage.{LeaveStage}
use Rattle.mako_call.specs.declared.leaving.LeaveStage.TheVariants.{Refused, TurnedAway, FromTablet, FromOwn}

-- sub 1 from the tablet's gate, and then from the own gate; an arrival that found a shut gate is taken back in the same
-- way
abbrev pub leave_next : Caller → LeaveStage → Step
leave_next k (Refused word) = does (index k.shape (mutator_gate k.mutator)) (Sub 1)
leave_next k (TurnedAway tablet word) = does (index k.shape (tablet_gate tablet)) (Sub 1)
leave_next k (FromTablet tablet outcome) = does (index k.shape (tablet_gate tablet)) (Sub 1)
leave_next k (FromOwn outcome) = does (index k.shape (mutator_gate k.mutator)) (Sub 1)

-- it leaves the own gate
abbrev pub leaving : Attempt → CallStage
leaving outcome = Leaving (FromOwn outcome)

-- it leaves the tablet, and then the own gate
abbrev pub leaving_tablet : ℕ → Attempt → CallStage
leaving_tablet tablet outcome = Leaving (FromTablet tablet outcome)

abbrev pub answered : Reply → CallStage
answered reply = leaving (Answer reply)

abbrev pub answered_at : ℕ → Reply → CallStage
answered_at tablet reply = leaving_tablet tablet (Answer reply)

-- what an attempt comes to: without room the last attempt is answered, and another is not
abbrev pub outcome_of : Bool → Attempt → Attempt
outcome_of true Full = Answer NoRoom
outcome_of false Full = Full
outcome_of last (Answer reply) = Answer reply
outcome_of last (Paused pause) = Paused pause

abbrev pub leave_fed : Bool → LeaveStage → CallStage
leave_fed last (Refused word) = Ended (Paused (Stopped word))
leave_fed last (TurnedAway tablet word) = leaving (Paused (Shut tablet word))
leave_fed last (FromTablet tablet outcome) = leaving outcome
leave_fed last (FromOwn outcome) = Ended (outcome_of last outcome)

abbrev pub leave_rank : LeaveStage → ℕ
leave_rank (Refused word) = 1
leave_rank (TurnedAway tablet word) = 2
leave_rank (FromTablet tablet outcome) = 2
leave_rank (FromOwn outcome) = 1

abbrev pub LeaveIsKnown : Numbers → LeaveStage → Type 0
LeaveIsKnown n (Refused word) = Unit {0}
LeaveIsKnown n (TurnedAway tablet word) = tablet < n.servers * n.tablets
LeaveIsKnown n (FromTablet tablet outcome) = tablet < n.servers * n.tablets
LeaveIsKnown n (FromOwn outcome) = Unit {0}
