-- Each step of the collector keeps all groups: the laws, by its stages.
use Rattle.std.specs.Prelude.{ℕ, ◌≡◌, List, Some}
use Rattle.mako_words.specs.declared.name.Name.{Name}
use Rattle.mako_shape.specs.declared.numbers.Numbers.{Numbers}
use Rattle.mako_model.specs.Legal.{Facts, state_of}
use Rattle.mako_names.specs.Steps.{NoneIsFreed}
use Rattle.mako_shades.specs.Serving.{AreSole}
use Rattle.mako_layout.specs.Facets.{Gift, Choice}
use Rattle.mako_joint.specs.Joints.{JointScene, Joint}
use Rattle.mako_pause.specs.Collecting.{Holdings, Collecting, running, spare_for, chosen_tablet, next_of, Fits, at}
use Rattle.mako_pause.specs.Keeping.{IsKeptKnown}
use Rattle.mako_pause.specs.declared.stage.IdleStage.{IdleStage}
use Rattle.mako_pause.specs.declared.stage.PauseStage.{PauseStage}
use Rattle.mako_pause.specs.declared.stage.PauseStage.TheVariants.{StoringTrace}
use Rattle.mako_pause.specs.declared.stage.ChoiceStage.{ChoiceStage}
use Rattle.mako_pause.specs.declared.stage.ChoiceStage.TheVariants.{LoadingHome, StoringLeaving, StoringEvac}
use Rattle.mako_pause.specs.declared.stage.CollectStage.{CollectStage}
use Rattle.mako_pause.specs.declared.stage.CollectStage.TheVariants.{Idle, Pausing, Forwarding, Barriers, Emptying}
use Rattle.mako_pause.specs.declared.stage.CollectStage.TheVariants.{Polling, Choosing, Noticing, Ended}
use Rattle.mako_collecting.specs.Choosing.{choice_at, MayGive}
use Rattle.mako_collecting.specs.Facets.{IsCollector}
use Rattle.mako_collecting.specs.Keeping.{CollectorKeeps}
use Rattle.mako_step.specs.Acts.{finds}
use Rattle.mako_collecting.specs.Steps.{with_collector, words_next, collector_next, stepped, snapped, polled, chosen}
use Rattle.mako_collecting.specs.Ties.{TracesAreTied, ServersAreTied, RootsStand, UsesAreRooted}

-- the collector stands in the scene, and knows what its stage does
pub record Stands (n : Numbers) (w : Facts) (s : JointScene) (places : ℕ → ℕ) (c : Collecting) : Type 0 where
  pub joint : Joint n w s
  pub seat : IsCollector n s c
  pub known : IsKeptKnown c.kept
  pub keeps : CollectorKeeps n s.words places c

-- ---- where no cycle runs

abbrev pub IdleStepsKeep : Type 0
IdleStepsKeep = (n : Numbers) (w : Facts) (s : JointScene) (places : ℕ → ℕ) (k : Holdings) (stage : IdleStage)
    → Stands n w s places (at k (Idle stage)) → Joint n w (stepped n s (at k (Idle stage)))

-- ---- pauses

-- every stage of a pause but the store of Trace
abbrev pub StoresNoPhase : PauseStage → Type 0
StoresNoPhase StoringTrace = ⊥
StoresNoPhase stage = Unit {0}

abbrev pub PauseStepsKeep : Type 0
PauseStepsKeep = (n : Numbers) (w : Facts) (s : JointScene) (places : ℕ → ℕ) (k : Holdings) (stage : PauseStage)
    → Stands n w s places (at k (Pausing stage)) → StoresNoPhase stage → Joint n w (stepped n s (at k (Pausing stage)))

-- The store of Trace, with the snapshot: the facets of tracing are of the same machines as those of the order of the
-- phases, roots and names in use stand, and servers begin anew with what they free.
abbrev pub SnapshotsKeep : Type 0
SnapshotsKeep = (n : Numbers) (w : Facts) (s : JointScene) (places : ℕ → ℕ) (k : Holdings)
    → Stands n w s places (at k (Pausing StoringTrace))
    → TracesAreTied s.facets.phases s.facets.trace → AreSole s.facets.trace
    → RootsStand n s.words (state_of w s.front.history)
    → UsesAreRooted s.facets.names.held (state_of w s.front.history)
    → (through : List ℕ) (sent : List (List Name)) → NoneIsFreed n through sent
    → Joint n w (stepped n (snapped s (running k) through sent) (at k (Pausing StoringTrace)))

-- ---- while servers trace

-- a name is forwarded, a barrier ring is looked at, or a work ring
abbrev pub IsInRound : CollectStage → Type 0
IsInRound (Forwarding stage) = Unit {0}
IsInRound (Barriers stage) = Unit {0}
IsInRound (Emptying r) = Unit {0}
IsInRound stage = ⊥

abbrev pub RoundStepsKeep : Type 0
RoundStepsKeep = (n : Numbers) (w : Facts) (s : JointScene) (places : ℕ → ℕ) (k : Holdings) (stage : CollectStage)
    → IsInRound stage → Stands n w s places (at k stage) → Joint n w (stepped n s (at k stage))

-- a step of the poll, also where completion is told
abbrev pub PollStepsKeep : Type 0
PollStepsKeep = (n : Numbers) (w : Facts) (s : JointScene) (places : ℕ → ℕ) (k : Holdings)
    → Stands n w s places (at k Polling) → ServersAreTied s.facets.phases s.facets.servers
    → Joint n w (polled n s (at k Polling))

-- ---- the choice

-- what a stage of the choice asks: a region for the tablet, where one is to be given
abbrev pub ChoiceMayGo : Numbers → JointScene → Holdings → ChoiceStage → List Gift → List ℕ → Type 0
ChoiceMayGo n s k (LoadingHome i) given spare = (region : ℕ) × (spare_for k (chosen_tablet k i) ≡ Some region)
ChoiceMayGo n s k (StoringLeaving i gift) given spare = MayGive n s (chosen_tablet k i) gift given spare
ChoiceMayGo n s k StoringEvac given spare = TracesAreTied s.facets.phases s.facets.trace
ChoiceMayGo n s k stage given spare = Unit {0}

-- up to the store of Evac, and the opening of the gates
abbrev pub ChoiceStepsKeep : Type 0
ChoiceStepsKeep = (n : Numbers) (w : Facts) (s : JointScene) (places : ℕ → ℕ) (k : Holdings) (stage : ChoiceStage)
    → Stands n w s places (at k (Choosing stage)) → (given : List Gift) (spare : List ℕ)
    → s.facets.choice ≡ choice_at k stage given spare → ChoiceMayGo n s k stage given spare
    → Joint n w (chosen n s k stage given spare)

-- ---- what the collector is after a step

-- its facets in the scene after a step are those of the machine after it
abbrev pub SeatsStay : Type 0
SeatsStay = (n : Numbers) (s : JointScene) (c next : Collecting) (words : List ℕ) (choice : Choice) → IsCollector n s c
    → next.kept.shape ≡ n → IsCollector n (with_collector n s words choice next) next

-- up to the opening of the gates after the store of Evac
abbrev pub IsUpToEvac : CollectStage → Type 0
IsUpToEvac (Noticing stage) = ⊥
IsUpToEvac Ended = ⊥
IsUpToEvac stage = Unit {0}

-- Where the word found is one that it can go on with, what it keeps of itself stands after the step too; and the
-- barrier
-- rings stand, whose mutators put no name meanwhile.
abbrev pub StepsKeepTheirOwn : Type 0
StepsKeepTheirOwn = (n : Numbers) (w : Facts) (s : JointScene) (places : ℕ → ℕ) (k : Holdings) (stage : CollectStage)
    → IsUpToEvac stage → Stands n w s places (at k stage) → Fits (at k stage) (finds (next_of (at k stage)) s.words)
    → CollectorKeeps n (words_next (at k stage) s.words) places (collector_next (at k stage) s.words)

-- and what is known of all that it keeps: names, windows, positions, the chosen tablets and the rest
abbrev pub StepsKeepKnown : Type 0
StepsKeepKnown = (n : Numbers) (w : Facts) (s : JointScene) (places : ℕ → ℕ) (k : Holdings) (stage : CollectStage)
    → IsUpToEvac stage → Stands n w s places (at k stage) → Fits (at k stage) (finds (next_of (at k stage)) s.words)
    → IsKeptKnown (collector_next (at k stage) s.words).kept

-- So it stands again after a step that keeps all groups: of the scene, or of one with the same seat where the step
-- tells
-- a point beside.
abbrev pub StandsGoOn : Type 0
StandsGoOn = (n : Numbers) (w : Facts) (s beside : JointScene) (places : ℕ → ℕ) (k : Holdings) (stage : CollectStage)
    → IsUpToEvac stage → Stands n w s places (at k stage) → Fits (at k stage) (finds (next_of (at k stage)) s.words)
    → IsCollector n beside (at k stage) → (choice : Choice)
    → Joint n w
    (with_collector n beside (words_next (at k stage) s.words) choice (collector_next (at k stage) s.words))
    → Stands n w
    (with_collector n beside (words_next (at k stage) s.words) choice (collector_next (at k stage) s.words)) places
    (collector_next (at k stage) s.words)
