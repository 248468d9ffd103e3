-- What a mutator that makes an object, asks for a cycle or waits for one keeps of itself, and its steps.
use Rattle.std.specs.Prelude.{ℕ, ◌≡◌, ◌<◌, List, Option, Some, None}
use Rattle.mako_words.specs.Phases.{cycle_of}
use Rattle.mako_shape.specs.declared.numbers.Numbers.{Numbers}
use Rattle.mako_model.specs.declared.attempt.Pause.{Pause}
use Rattle.mako_model.specs.Legal.{Facts}
use Rattle.mako_alloc.specs.Allocating.{Allocation}
use Rattle.mako_alloc.specs.declared.progress.NewStage.{NewStage}
use Rattle.mako_alloc.specs.declared.progress.NewStage.TheVariants.{TurnedAway as NewTurnedAway}
use Rattle.mako_call.specs.declared.allocating.AllocStage.{AllocStage}
use Rattle.mako_call.specs.declared.allocating.AllocStage.TheVariants.{Searching}
use Rattle.mako_call.specs.declared.call_stage.CallStage.{CallStage}
use Rattle.mako_call.specs.declared.call_stage.CallStage.TheVariants.{Allocating}
use Rattle.mako_mutator.specs.declared.progress.Task.{Task}
use Rattle.mako_mutator.specs.declared.progress.Task.TheVariants.{Attempting}
use Rattle.mako_mutator.specs.Drivers as drivers
use Rattle.mako_mutator.specs.Drivers.{Driving}
use Rattle.mako_names.specs.Tables.{phase_of}
use Rattle.mako_joint.specs.Joints.{JointScene}
use Rattle.mako_mutating.specs.Mutators.{IsSeen, MutatorKeeps, StepKeeps, found_by, stepped, view_of}

-- ---- what a search keeps, beside what each mutator keeps

-- a search that was turned away has made a note
abbrev pub IsNoted : NewStage → Option Pause → Type 0
IsNoted NewTurnedAway None = ⊥
IsNoted NewTurnedAway (Some reason) = Unit {0}
IsNoted s reason = Unit {0}

-- the object that it searches a place for is to be of the present cycle
pub record SearchKeeps (n : Numbers) (words : List ℕ) (search : Allocation) : Type 0 where
  pub cycle : search.job.cycle ≡ cycle_of (phase_of n words)
  pub noted : IsNoted search.progress.stage search.progress.note

abbrev pub NewSearches : Numbers → List ℕ → AllocStage → Type 0
NewSearches n words (Searching root search) = SearchKeeps n words search
NewSearches n words s = Unit {0}

abbrev pub StageSearches : Numbers → List ℕ → CallStage → Type 0
StageSearches n words (Allocating s) = NewSearches n words s
StageSearches n words s = Unit {0}

abbrev pub TaskSearches : Numbers → List ℕ → Task → Type 0
TaskSearches n words (Attempting c) = StageSearches n words c.stage
TaskSearches n words task = Unit {0}

-- ---- a step

-- The mutator's seat is that of its machine, with its facets, and a search keeps what it keeps: so much is read for the
-- groups.
pub record IsAt (n : Numbers) (s : JointScene) (m : ℕ) (d : Driving) : Type 0 where
  pub low : m < n.mutators
  pub shape : d.caller.shape ≡ n
  pub number : d.caller.mutator ≡ m
  pub known : drivers.IsKnown d
  pub here : IsSeen s m (view_of d)
  pub keeps : TaskSearches n s.words d.progress.task

-- The facets of the mutator's seat are those of its machine, which keeps what each mutator does and what a search does,
-- and can go on with the word that its act finds.
pub record IsMaking (n : Numbers) (w : Facts) (s : JointScene) (m : ℕ) (d : Driving) : Type 0 where
  pub seen : IsSeen s m (view_of d)
  pub keeps : MutatorKeeps n w s.words s.front m d
  pub searches : TaskSearches n s.words d.progress.task
  pub fits : drivers.Fits d (found_by s d)

-- its step keeps all groups, what each mutator keeps, and what a search does
pub record MakingKeeps (n : Numbers) (w : Facts) (s : JointScene) (m : ℕ) (d : Driving) : Type 0 where
  pub step : StepKeeps n w s m d
  pub searches : TaskSearches n (stepped s m d).words (drivers.fed d (found_by s d)).progress.task
