-- The roots that are decided and still to be stored, and what root words are meanwhile.
use Rattle.std.specs.Prelude.{◌≡◌, ℕ, Option, Some, None}
use Rattle.mako_words.specs.declared.value.Value.{Value}
use Rattle.mako_words.specs.declared.value.Value.TheVariants.{Ref}
use Rattle.mako_words.specs.Values.{value_word}
use Rattle.mako_call.specs.declared.object.Get.{Get as GetArgs}
use Rattle.mako_call.specs.declared.call_stage.CallStage.{CallStage}
use Rattle.mako_call.specs.declared.call_stage.CallStage.TheVariants.{Arriving, Rooting, Entering, Moving, Getting}
use Rattle.mako_call.specs.declared.call_stage.CallStage.TheVariants.{Putting, Allocating, Asking, Leaving, Ended}
use Rattle.mako_call.specs.declared.getting.GetStage.{GetStage}
use Rattle.mako_call.specs.declared.getting.GetStage.TheVariants.{LoadingHeader as GetHeader, LoadingField as GetField}
use Rattle.mako_call.specs.declared.getting.GetStage.TheVariants.{StoringRoot as StoringGot}
use Rattle.mako_call.specs.declared.allocating.AllocStage.{AllocStage}
use Rattle.mako_call.specs.declared.allocating.AllocStage.TheVariants.{LoadingPhase as NewPhase, Searching, StoringRoot}
use Rattle.mako_call.specs.declared.allocating.AllocStage.TheVariants.{GivingTurn as GivingNewTurn}
use Rattle.mako_mutator.specs.declared.progress.Task.{Task}
use Rattle.mako_mutator.specs.declared.progress.Task.TheVariants.{Attempting, Awaiting, Finishing, Ended as TaskEnded}
use Rattle.mako_mutator.specs.Drivers.{Driving}

-- a root with the value that it is to get
pub record Carried : Type 0 where
  pub root : ℕ
  pub value : Value

abbrev pub get_carried : GetArgs → GetStage → Option Carried
get_carried get GetHeader = None
get_carried get GetField = None
get_carried get (StoringGot value) = Some (record { root = get.to; value = value })

abbrev pub new_carried : AllocStage → Option Carried
new_carried (NewPhase root fields) = None
new_carried (Searching root search) = None
new_carried (StoringRoot root name tablet) = Some (record { root = root; value = Ref name })
new_carried (GivingNewTurn name tablet) = None

abbrev pub stage_carried : CallStage → Option Carried
stage_carried Arriving = None
stage_carried (Rooting s) = None
stage_carried (Entering e s) = None
stage_carried (Moving e s) = None
stage_carried (Getting at get s) = get_carried get s
stage_carried (Putting at put s) = None
stage_carried (Allocating s) = new_carried s
stage_carried (Asking s) = None
stage_carried (Leaving s) = None
stage_carried (Ended outcome) = None

abbrev pub task_carried : Task → Option Carried
task_carried (Attempting m) = stage_carried m.stage
task_carried (Awaiting m) = None
task_carried Finishing = None
task_carried TaskEnded = None

abbrev pub carried_of : Driving → Option Carried
carried_of d = task_carried d.progress.task

-- a root word is the packed root, but for a root that is still to be stored
abbrev pub WordStands : Option Carried → ℕ → ℕ → Value → Type 0
WordStands None q word v = word ≡ value_word v
WordStands (Some c) q word v = (c.root ≡ q → c.value ≡ v) × ((c.root ≡ q → ⊥) → word ≡ value_word v)
