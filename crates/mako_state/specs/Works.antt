-- What a mutator's view holds of a record, by its stage.
use Rattle.std.specs.Prelude.{ℕ, ◌+◌, ◌*◌}
use Rattle.mako_words.specs.declared.entry_word.EntryWord.{EntryWord}
use Rattle.mako_shape.specs.declared.numbers.Numbers.{Numbers}
use Rattle.mako_shape.specs.Belongings.{region_of_address, word_of_address}
use Rattle.mako_layout.specs.Facets.{Work, idle, reads, uses, holds_home, moves, asks, tops, finds, fills, carries}
use Rattle.mako_layout.specs.Facets.{raises, makes, counts}
use Rattle.mako_record.specs.declared.copier.CopyStage.{CopyStage}
use Rattle.mako_record.specs.declared.copier.CopyStage.TheVariants.{LoadingTop as CopyTop, LoadingHeader as CopyHeader}
use Rattle.mako_record.specs.declared.copier.CopyStage.TheVariants.{StoringHeader, LoadingField as CopyField}
use Rattle.mako_record.specs.declared.copier.CopyStage.TheVariants.{StoringField as CopyStore, StoringEntry, RaisingTop}
use Rattle.mako_record.specs.declared.copier.CopyStage.TheVariants.{Ended as CopyEnded}
use Rattle.mako_alloc.specs.Allocating.{Allocation, tablet_at}
use Rattle.mako_alloc.specs.declared.job.Job.{Job}
use Rattle.mako_alloc.specs.declared.progress.NewRecord.{NewRecord}
use Rattle.mako_alloc.specs.declared.progress.NewStage.{NewStage}
use Rattle.mako_alloc.specs.declared.progress.NewStage.TheVariants.{Arriving as NewArriving}
use Rattle.mako_alloc.specs.declared.progress.NewStage.TheVariants.{TurnedAway as NewTurnedAway}
use Rattle.mako_alloc.specs.declared.progress.NewStage.TheVariants.{TakingTurn as NewTakingTurn, LoadingLeaving}
use Rattle.mako_alloc.specs.declared.progress.NewStage.TheVariants.{LoadingTop, LoadingEntry as NewEntry}
use Rattle.mako_alloc.specs.declared.progress.NewStage.TheVariants.{LoadingHome as NewHome, Making}
use Rattle.mako_alloc.specs.declared.progress.NewStage.TheVariants.{GivingTurn as PassingTurn, Leaving as NewLeaving}
use Rattle.mako_alloc.specs.declared.progress.NewStage.TheVariants.{Ended as NewEnded}
use Rattle.mako_alloc.specs.declared.progress.Part.{Part}
use Rattle.mako_alloc.specs.declared.progress.Part.TheVariants.{Header, Field, Top, Entry}
use Rattle.mako_call.specs.declared.object.Located.{Located}
use Rattle.mako_call.specs.declared.call_stage.CallStage.{CallStage}
use Rattle.mako_call.specs.declared.call_stage.CallStage.TheVariants.{Arriving, Rooting, Entering, Moving, Getting}
use Rattle.mako_call.specs.declared.call_stage.CallStage.TheVariants.{Putting, Allocating, Asking, Leaving, Ended}
use Rattle.mako_call.specs.declared.entering.EnterStage.{EnterStage}
use Rattle.mako_call.specs.declared.entering.EnterStage.TheVariants.{Arriving as EnterArriving, LoadingEntry}
use Rattle.mako_call.specs.declared.entering.EnterStage.TheVariants.{LoadingHome}
use Rattle.mako_call.specs.declared.moving.MoveStage.{MoveStage}
use Rattle.mako_call.specs.declared.moving.MoveStage.TheVariants.{TakingTurn, LoadingEntry as LoadingAgain}
use Rattle.mako_call.specs.declared.moving.MoveStage.TheVariants.{Copying as Copies, GivingTurn}
use Rattle.mako_call.specs.declared.getting.GetStage.{GetStage}
use Rattle.mako_call.specs.declared.getting.GetStage.TheVariants.{LoadingHeader as GetHeader, LoadingField as GetField}
use Rattle.mako_call.specs.declared.getting.GetStage.TheVariants.{StoringRoot as StoringGot}
use Rattle.mako_call.specs.declared.allocating.AllocStage.{AllocStage}
use Rattle.mako_call.specs.declared.allocating.AllocStage.TheVariants.{LoadingPhase as NewPhase, Searching, StoringRoot}
use Rattle.mako_call.specs.declared.allocating.AllocStage.TheVariants.{GivingTurn as GivingNewTurn}
use Rattle.mako_mutator.specs.declared.progress.Task.{Task}
use Rattle.mako_mutator.specs.declared.progress.Task.TheVariants.{Attempting, Awaiting, Finishing, Ended as TaskEnded}
use Rattle.mako_mutator.specs.Drivers.{Driving}

-- the place of an entry's record that the view loaded, and the place where it reads and stores
abbrev pub reads_at : Numbers → ℕ → ℕ → Work
reads_at n x address = reads x (region_of_address n address) (word_of_address n address)

abbrev pub uses_at : Numbers → ℕ → ℕ → Work
uses_at n x address = uses x (region_of_address n address) (word_of_address n address)

abbrev pub enter_work : Numbers → ℕ → EnterStage → Work
enter_work n x EnterArriving = idle
enter_work n x LoadingEntry = idle
enter_work n x (LoadingHome found) = reads_at n x found.address

-- of the entry's record, which is copied into the home region, so many words are stored
abbrev pub copy_work : ℕ → EntryWord → ℕ → CopyStage → Work
copy_work x found home CopyTop = moves x found home
copy_work x found home (CopyHeader offset) = fills x found home offset 0
copy_work x found home (StoringHeader offset fields) = carries x found home offset 0 fields
copy_work x found home (CopyField offset fields field) = fills x found home offset (field + 1)
copy_work x found home (CopyStore offset fields field word) = carries x found home offset (field + 1) word
copy_work x found home (StoringEntry offset fields) = fills x found home offset (fields + 1)
copy_work x found home (RaisingTop offset fields) = raises x home offset (fields + 1)
copy_work x found home (CopyEnded address) = idle

abbrev pub move_work : Numbers → ℕ → MoveStage → Work
move_work n x (TakingTurn home) = holds_home x home
move_work n x (LoadingAgain home) = holds_home x home
move_work n x (Copies copier) = copy_work x copier.entry copier.home copier.stage
move_work n x (GivingTurn address) = uses_at n x address

abbrev pub get_work : Numbers → Located → GetStage → Work
get_work n at GetHeader = uses_at n at.object.entry at.address
get_work n at GetField = uses_at n at.object.entry at.address
get_work n at (StoringGot value) = idle

-- of the new record, of so many words, so many are stored
abbrev pub part_work : ℕ → NewRecord → Part → Work
part_work z made Header = makes made.name made.home made.top z 0
part_work z made (Field i) = makes made.name made.home made.top z (i + 1)
part_work z made Top = makes made.name made.home made.top z z
part_work z made Entry = counts made.name made.home made.top z

abbrev pub new_stage_work : Job → ℕ → NewStage → Work
new_stage_work job t NewArriving = idle
new_stage_work job t NewTurnedAway = idle
new_stage_work job t NewTakingTurn = idle
new_stage_work job t LoadingLeaving = idle
new_stage_work job t LoadingTop = asks (t * job.shape.entries)
new_stage_work job t (NewEntry kept place) = tops (t * job.shape.entries + place) kept (job.fields + 1)
new_stage_work job t (NewHome kept name) = finds name kept (job.fields + 1)
new_stage_work job t (Making made part) = part_work (job.fields + 1) made part
new_stage_work job t PassingTurn = idle
new_stage_work job t NewLeaving = idle
new_stage_work job t (NewEnded found) = idle

abbrev pub search_work : Allocation → Work
search_work search = new_stage_work search.job (tablet_at search.job search.progress.passed) search.progress.stage

abbrev pub new_work : AllocStage → Work
new_work (NewPhase root fields) = idle
new_work (Searching root search) = search_work search
new_work (StoringRoot root name tablet) = idle
new_work (GivingNewTurn name tablet) = idle

abbrev pub stage_work : Numbers → CallStage → Work
stage_work n Arriving = idle
stage_work n (Rooting s) = idle
stage_work n (Entering e s) = enter_work n e.object.entry s
stage_work n (Moving e s) = move_work n e.object.entry s
stage_work n (Getting at get s) = get_work n at s
stage_work n (Putting at put s) = uses_at n at.object.entry at.address
stage_work n (Allocating s) = new_work s
stage_work n (Asking s) = idle
stage_work n (Leaving s) = idle
stage_work n (Ended outcome) = idle

abbrev pub task_work : Task → Work
task_work (Attempting m) = stage_work m.caller.shape m.stage
task_work (Awaiting m) = stage_work m.caller.shape m.stage
task_work Finishing = idle
task_work TaskEnded = idle

abbrev pub work_of : Driving → Work
work_of d = task_work d.progress.task
