-- Where a mutator's view stands at the gates, by its stage.
use Rattle.std.specs.Prelude.{ℕ}
use Rattle.mako_shape.specs.declared.numbers.Numbers.{Numbers}
use Rattle.mako_gate.specs.Standings.{Standing, away, refused, inside, turned_away, at_tablet, with_turn}
use Rattle.mako_alloc.specs.Standings as allocating
use Rattle.mako_call.specs.declared.call_stage.CallStage.{CallStage}
use Rattle.mako_call.specs.declared.call_stage.CallStage.TheVariants.{Arriving, Rooting, Entering, Moving, Getting}
use Rattle.mako_call.specs.declared.call_stage.CallStage.TheVariants.{Putting, Allocating, Asking, Leaving, Ended}
use Rattle.mako_call.specs.declared.entering.EnterStage.{EnterStage}
use Rattle.mako_call.specs.declared.entering.EnterStage.TheVariants.{Arriving as EnterArriving, LoadingEntry}
use Rattle.mako_call.specs.declared.entering.EnterStage.TheVariants.{LoadingHome}
use Rattle.mako_call.specs.declared.moving.MoveStage.{MoveStage}
use Rattle.mako_call.specs.declared.moving.MoveStage.TheVariants.{TakingTurn, LoadingEntry as LoadingAgain}
use Rattle.mako_call.specs.declared.moving.MoveStage.TheVariants.{Copying as Copies, GivingTurn}
use Rattle.mako_call.specs.declared.allocating.AllocStage.{AllocStage}
use Rattle.mako_call.specs.declared.allocating.AllocStage.TheVariants.{LoadingPhase as NewPhase, Searching, StoringRoot}
use Rattle.mako_call.specs.declared.allocating.AllocStage.TheVariants.{GivingTurn as GivingNewTurn}
use Rattle.mako_call.specs.declared.leaving.LeaveStage.{LeaveStage}
use Rattle.mako_call.specs.declared.leaving.LeaveStage.TheVariants.{Refused, TurnedAway, FromTablet, FromOwn}
use Rattle.mako_mutator.specs.declared.progress.Task.{Task}
use Rattle.mako_mutator.specs.declared.progress.Task.TheVariants.{Attempting, Awaiting, Finishing, Ended as TaskEnded}
use Rattle.mako_call.specs.Objects.{tablet_of}
use Rattle.mako_mutator.specs.Drivers.{Driving}

-- on its way to an object of this tablet
abbrev pub enter_standing : ℕ → EnterStage → Standing
enter_standing t EnterArriving = inside
enter_standing t LoadingEntry = at_tablet t
enter_standing t (LoadingHome found) = at_tablet t

abbrev pub move_standing : ℕ → MoveStage → Standing
move_standing t (TakingTurn home) = at_tablet t
move_standing t (LoadingAgain home) = with_turn t
move_standing t (Copies copier) = with_turn t
move_standing t (GivingTurn address) = with_turn t

abbrev pub new_standing : AllocStage → Standing
new_standing (NewPhase root fields) = inside
new_standing (Searching root search) = allocating.standing_of search
new_standing (StoringRoot root name tablet) = with_turn tablet
new_standing (GivingNewTurn name tablet) = with_turn tablet

abbrev pub leave_standing : LeaveStage → Standing
leave_standing (Refused word) = refused
leave_standing (TurnedAway tablet word) = turned_away tablet
leave_standing (FromTablet tablet outcome) = at_tablet tablet
leave_standing (FromOwn outcome) = inside

abbrev pub stage_standing : Numbers → CallStage → Standing
stage_standing n Arriving = away
stage_standing n (Rooting s) = inside
stage_standing n (Entering e s) = enter_standing (tablet_of n e.object) s
stage_standing n (Moving e s) = move_standing (tablet_of n e.object) s
stage_standing n (Getting at get s) = at_tablet (tablet_of n at.object)
stage_standing n (Putting at put s) = at_tablet (tablet_of n at.object)
stage_standing n (Allocating s) = new_standing s
stage_standing n (Asking s) = away
stage_standing n (Leaving s) = leave_standing s
stage_standing n (Ended outcome) = away

abbrev pub task_standing : Task → Standing
task_standing (Attempting m) = stage_standing m.caller.shape m.stage
task_standing (Awaiting m) = stage_standing m.caller.shape m.stage
task_standing Finishing = away
task_standing TaskEnded = away

abbrev pub standing_of : Driving → Standing
standing_of d = task_standing d.progress.task
