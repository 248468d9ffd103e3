-- The stages of an attempt that enters the tablet of its object.
use Rattle.std.specs.Prelude.{ℕ, ◌+◌, ◌*◌, ◌<◌, if◌then◌else◌}
use Rattle.mako_words.specs.Entries.{entry_at}
use Rattle.mako_words.specs.Gates.{IsPackedGate, is_shut}
use Rattle.mako_shape.specs.declared.numbers.Numbers.{Numbers}
use Rattle.mako_shape.specs.Places.{index, tablet_gate, entry, home}
use Rattle.mako_shape.specs.Belongings.{IsAddress}
use Rattle.mako_step.specs.Acts.{does}
use Rattle.mako_step.specs.declared.act.Op.TheVariants.{Load, Add}
use Rattle.mako_step.specs.declared.step.Step.{Step}
use Rattle.mako_record.specs.Regions.{is_in_region}
use Rattle.mako_call.specs.declared.caller.Caller.{Caller}
use Rattle.mako_call.specs.declared.object.Errand.{Errand}
use Rattle.mako_call.specs.declared.call_stage.CallStage.{CallStage}
use Rattle.mako_call.specs.declared.call_stage.CallStage.TheVariants.{Entering, Moving, Leaving}
use Rattle.mako_call.specs.declared.entering.EnterStage.{EnterStage}
use Rattle.mako_call.specs.declared.entering.EnterStage.TheVariants.{Arriving, LoadingEntry, LoadingHome}
use Rattle.mako_call.specs.declared.moving.MoveStage.TheVariants.{TakingTurn}
use Rattle.mako_call.specs.declared.leaving.LeaveStage.TheVariants.{TurnedAway}
use Rattle.mako_call.specs.Objects.{tablet_of, at_object}

-- add 1 to the tablet's gate; load entry; load home
abbrev pub enter_next : Caller → Errand → EnterStage → Step
enter_next k e Arriving = does (index k.shape (tablet_gate (tablet_of k.shape e.object))) (Add 1)
enter_next k e LoadingEntry = does (index k.shape (entry e.object.entry)) Load
enter_next k e (LoadingHome found) = does (index k.shape (home (tablet_of k.shape e.object))) Load

-- an arrival at a shut gate is taken back; a record that does not lie in the home is moved first
abbrev pub enter_fed : Numbers → Errand → EnterStage → ℕ → CallStage
enter_fed n e Arriving w = if is_shut w then Leaving (TurnedAway (tablet_of n e.object) w) else Entering e LoadingEntry
enter_fed n e LoadingEntry w = Entering e (LoadingHome (entry_at w))
enter_fed n e (LoadingHome found) w =
    if is_in_region n w found.address then at_object e found.address else Moving e (TakingTurn w)

-- the gate's word is that of a gate, the record lies in the regions, and the home is a region
abbrev pub EnterFits : Numbers → EnterStage → ℕ → Type 0
EnterFits n Arriving w = IsPackedGate w
EnterFits n LoadingEntry w = IsAddress n (entry_at w).address
EnterFits n (LoadingHome found) w = w < n.servers * (n.tablets + n.spare)

-- the most steps that are left; from the taking of the turn on there are 43
abbrev pub enter_rank : EnterStage → ℕ
enter_rank Arriving = 46
enter_rank LoadingEntry = 45
enter_rank (LoadingHome found) = 44

abbrev pub EnterIsKnown : Numbers → EnterStage → Type 0
EnterIsKnown n Arriving = Unit {0}
EnterIsKnown n LoadingEntry = Unit {0}
EnterIsKnown n (LoadingHome found) = IsAddress n found.address
