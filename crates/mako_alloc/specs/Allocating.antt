-- The machine of `new`.
use Rattle.std.specs.Prelude.{ℕ, ◌+◌, ◌*◌, ◌-◌, ◌%◌, ◌<◌, ◌≤◌, ◌==◌, ◌&&◌, not, true, nat_lt, nat_le, Option, Some}
use Rattle.std.specs.Prelude.{None, if◌then◌else◌}
use Rattle.mako_words.specs.Entries.{entry_word, entry_at}
use Rattle.mako_words.specs.Gates.{IsPackedGate, is_shut}
use Rattle.mako_words.specs.declared.name.Name.{Name}
use Rattle.mako_shape.specs.declared.numbers.Numbers.{Numbers}
use Rattle.mako_shape.specs.Limits.{IsShape, all_entries}
use Rattle.mako_shape.specs.Places.{index, tablet_gate, turn, leaving, top, entry, home, region_word}
use Rattle.mako_step.specs.Acts.{does}
use Rattle.mako_step.specs.declared.act.Op.TheVariants.{Load, Store, Add, Sub, Exchange}
use Rattle.mako_step.specs.declared.step.Step.{Step}
use Rattle.mako_step.specs.declared.step.Step.TheVariants.{Ended as NoStep}
use Rattle.mako_model.specs.declared.attempt.Pause.{Pause as Reason}
use Rattle.mako_model.specs.declared.attempt.Pause.TheVariants.{Shut, Busy, Moving}
use Rattle.mako_alloc.specs.declared.found.Found.{Found}
use Rattle.mako_alloc.specs.declared.found.Found.TheVariants.{Made, Full, Pause}
use Rattle.mako_alloc.specs.declared.job.Job.{Job}
use Rattle.mako_alloc.specs.declared.progress.NewRecord.{NewRecord}
use Rattle.mako_alloc.specs.declared.progress.NewStage.{NewStage}
use Rattle.mako_alloc.specs.declared.progress.NewStage.TheVariants.{Arriving, TurnedAway, TakingTurn, LoadingLeaving}
use Rattle.mako_alloc.specs.declared.progress.NewStage.TheVariants.{LoadingTop, LoadingEntry, LoadingHome, Making}
use Rattle.mako_alloc.specs.declared.progress.NewStage.TheVariants.{GivingTurn, Leaving, Ended}
use Rattle.mako_alloc.specs.declared.progress.Part.{Part}
use Rattle.mako_alloc.specs.declared.progress.Part.TheVariants.{Header, Field, Top, Entry}
use Rattle.mako_alloc.specs.declared.progress.Progress.{Progress}

-- what it is to make, and how far it has come
pub record Allocation : Type 0 where
  pub job : Job
  pub progress : Progress

-- the tablets of all servers
abbrev pub all_tablets : Numbers → ℕ
all_tablets n = n.servers * n.tablets

-- the tablet that it is at after so many others
abbrev pub tablet_at : Job → ℕ → ℕ
tablet_at job passed = (job.mutator + passed) % all_tablets job.shape

-- the index of a word of the record, by its place behind the header
abbrev pub record_word : Numbers → NewRecord → ℕ → ℕ
record_word n made place = index n (region_word made.home (made.top + place))

-- the entry's word once the object is published
abbrev pub published : Job → NewRecord → ℕ
published job made = entry_word (record {
  taken = true;
  generation = made.name.generation;
  epoch = job.cycle;
  address = record_word job.shape made 0;
})

abbrev pub part_next : Job → ℕ → NewRecord → Part → Step
part_next job t made Header = does (record_word job.shape made 0) (Store job.fields)
part_next job t made (Field i) = does (record_word job.shape made (i + 1)) (Store 0)
part_next job t made Top = does (index job.shape (top t)) (Store (made.top + job.fields + 1))
part_next job t made Entry = does (index job.shape (entry made.name.entry)) (Store (published job made))

abbrev pub stage_next : Job → ℕ → NewStage → Step
stage_next job t Arriving = does (index job.shape (tablet_gate t)) (Add 1)
stage_next job t TurnedAway = does (index job.shape (tablet_gate t)) (Sub 1)
stage_next job t TakingTurn = does (index job.shape (turn t)) (Exchange 0 (job.mutator + 1))
stage_next job t LoadingLeaving = does (index job.shape (leaving t)) Load
stage_next job t LoadingTop = does (index job.shape (top t)) Load
stage_next job t (LoadingEntry kept place) = does (index job.shape (entry (t * job.shape.entries + place))) Load
stage_next job t (LoadingHome kept name) = does (index job.shape (home t)) Load
stage_next job t (Making made part) = part_next job t made part
stage_next job t GivingTurn = does (index job.shape (turn t)) (Store 0)
stage_next job t Leaving = does (index job.shape (tablet_gate t)) (Sub 1)
stage_next job t (Ended found) = NoStep

abbrev pub next_by : Job → Progress → Step
next_by job progress = stage_next job (tablet_at job progress.passed) progress.stage

abbrev pub next_of : Allocation → Step
next_of a = next_by a.job a.progress

-- the generation of the entry with this word, if the entry is free and has a generation left
unfoldable pub free_generation : ℕ → ℕ → Option ℕ
free_generation generations w =
    if not (entry_at w).taken && nat_lt (entry_at w).generation generations then Some (entry_at w).generation else None

-- at the beginning: it arrives at the first tablet
abbrev pub opening : Job → Allocation
opening job = record { job = job; progress = record { passed = 0; note = None; stage = Arriving } }

-- the same, at this stage
abbrev pub at : Progress → NewStage → Progress
at progress stage = record { passed = progress.passed; note = progress.note; stage = stage }

-- the first of two notes
abbrev pub first : Option Reason → Reason → Option Reason
first None reason = Some reason
first (Some earlier) reason = Some earlier

-- the same at this stage, with a note of this reason if it is the first
abbrev pub noted : Progress → Reason → NewStage → Progress
noted progress reason stage = record { passed = progress.passed; note = first progress.note reason; stage = stage }

-- what it comes to after the last tablet
abbrev pub outcome : Option Reason → Found
outcome None = Full
outcome (Some reason) = Pause reason

-- on to the next tablet, or to the end
abbrev pub passed_on : Job → Progress → Progress
passed_on job progress =
    if nat_lt (progress.passed + 1) (all_tablets job.shape)
    then record { passed = progress.passed + 1; note = progress.note; stage = Arriving }
    else at progress (Ended (outcome progress.note))

-- the entry at this place, or past the last one the way out
abbrev pub seeking : Job → ℕ → ℕ → NewStage
seeking job kept place = if nat_lt place job.shape.entries then LoadingEntry kept place else GivingTurn

abbrev pub top_fed : Job → ℕ → NewStage
top_fed job kept = if nat_le (kept + job.fields + 1) job.shape.words then seeking job kept 0 else GivingTurn

abbrev pub entry_fed : Job → ℕ → ℕ → ℕ → Option ℕ → NewStage
entry_fed job t kept place (Some generation) =
    LoadingHome kept (record { entry = t * job.shape.entries + place; generation = generation })
entry_fed job t kept place None = seeking job kept (place + 1)

-- the field with this number, or past the last one the top
abbrev pub field_or_top : Job → ℕ → Part
field_or_top job i = if nat_lt i job.fields then Field i else Top

abbrev pub part_fed : Job → ℕ → NewRecord → Part → NewStage
part_fed job t made Header = Making made (field_or_top job 0)
part_fed job t made (Field i) = Making made (field_or_top job (i + 1))
part_fed job t made Top = Making made Entry
part_fed job t made Entry = Ended (Made made.name t)

abbrev pub stage_fed : Job → ℕ → Progress → NewStage → ℕ → Progress
stage_fed job t p Arriving w = if is_shut w then noted p (Shut t w) TurnedAway else at p TakingTurn
stage_fed job t p TurnedAway w = passed_on job p
stage_fed job t p TakingTurn w = if w == 0 then at p LoadingLeaving else noted p (Busy t w) Leaving
stage_fed job t p LoadingLeaving w = if w == 0 then at p LoadingTop else noted p (Moving t w) GivingTurn
stage_fed job t p LoadingTop w = at p (top_fed job w)
stage_fed job t p (LoadingEntry kept place) w =
    at p (entry_fed job t kept place (free_generation job.shape.generations w))
stage_fed job t p (LoadingHome kept name) w =
    at p (Making (record { name = name; home = w; top = kept }) Header)
stage_fed job t p (Making made part) w = at p (part_fed job t made part)
stage_fed job t p GivingTurn w = at p Leaving
stage_fed job t p Leaving w = passed_on job p
stage_fed job t p (Ended found) w = p

abbrev pub progress_fed : Job → Progress → ℕ → Progress
progress_fed job progress w = stage_fed job (tablet_at job progress.passed) progress progress.stage w

abbrev pub fed : Allocation → ℕ → Allocation
fed a w = record { job = a.job; progress = progress_fed a.job a.progress w }

-- a gate's word is that of a gate, a top is at most the words of a region, and a home is a region
abbrev pub FitsBy : Numbers → NewStage → ℕ → Type 0
FitsBy n Arriving w = IsPackedGate w
FitsBy n LoadingTop w = w ≤ n.words
FitsBy n (LoadingHome kept name) w = w < n.servers * (n.tablets + n.spare)
FitsBy n _ w = Unit {0}

abbrev pub Fits : Allocation → ℕ → Type 0
Fits a w = FitsBy a.job.shape a.progress.stage w

-- the most steps that a tablet takes in which nothing is made
abbrev pub steps_passed : Numbers → ℕ
steps_passed n = n.entries + 6

abbrev pub part_rank : Job → Part → ℕ
part_rank job Header = job.fields + 3
part_rank job (Field i) = job.fields - i + 2
part_rank job Top = 2
part_rank job Entry = 1

-- the most steps at this tablet, and beyond those of `steps_passed` at the tablets after it
abbrev pub stage_rank : Job → NewStage → ℕ
stage_rank job Arriving = job.shape.entries + job.fields + 8
stage_rank job TurnedAway = job.fields + 3
stage_rank job TakingTurn = job.shape.entries + job.fields + 7
stage_rank job LoadingLeaving = job.shape.entries + job.fields + 6
stage_rank job LoadingTop = job.shape.entries + job.fields + 5
stage_rank job (LoadingEntry kept place) = job.shape.entries - place + job.fields + 4
stage_rank job (LoadingHome kept name) = job.fields + 4
stage_rank job (Making made part) = part_rank job part
stage_rank job GivingTurn = job.fields + 4
stage_rank job Leaving = job.fields + 3
stage_rank job (Ended found) = 0

abbrev pub rank_by : Job → Progress → ℕ
rank_by job progress =
    (all_tablets job.shape - (progress.passed + 1)) * steps_passed job.shape
    + stage_rank job progress.stage

abbrev pub rank : Allocation → ℕ
rank a = rank_by a.job a.progress

-- the numbers of the job are in their ranges
pub record IsJob (job : Job) : Type 0 where
  pub shape : IsShape job.shape
  pub mutator : job.mutator < job.shape.mutators
  pub fields : job.fields ≤ 14
  pub cycle : job.cycle ≤ job.shape.cycles

-- a record fits over this top
abbrev pub HasRoom : Job → ℕ → Type 0
HasRoom job kept = kept + job.fields + 1 ≤ job.shape.words

-- the name is one of an entry that there is, and of a generation that there is
abbrev pub IsNamed : Job → Name → Type 0
IsNamed job name = (name.entry < all_entries job.shape) × (name.generation < job.shape.generations)

-- the record has a name, and lies in a region
pub record IsRecord (job : Job) (made : NewRecord) : Type 0 where
  pub name : IsNamed job made.name
  pub home : made.home < job.shape.servers * (job.shape.tablets + job.shape.spare)
  pub room : HasRoom job made.top

abbrev pub IsPartKnown : Job → Part → Type 0
IsPartKnown job (Field i) = i < job.fields
IsPartKnown job _ = Unit {0}

-- what it comes to has numbers in their ranges
abbrev pub IsFoundKnown : Job → Found → Type 0
IsFoundKnown job (Made name tablet) = IsNamed job name × (tablet < all_tablets job.shape)
IsFoundKnown job Full = Unit {0}
IsFoundKnown job (Pause reason) = Unit {0}

-- what a stage keeps is in its range
abbrev pub IsStageKnown : Job → NewStage → Type 0
IsStageKnown job (LoadingEntry kept place) = HasRoom job kept × (place < job.shape.entries)
IsStageKnown job (LoadingHome kept name) = HasRoom job kept × IsNamed job name
IsStageKnown job (Making made part) = IsRecord job made × IsPartKnown job part
IsStageKnown job (Ended found) = IsFoundKnown job found
IsStageKnown job _ = Unit {0}

-- what is known of the progress of a job
pub record IsKnown (job : Job) (progress : Progress) : Type 0 where
  pub numbers : IsJob job
  pub passed : progress.passed < all_tablets job.shape
  pub stage : IsStageKnown job progress.stage
