-- The scene after each step of the collector is that which the law of its stage names; states with what steps ask.
use Rattle.std.specs.Prelude.{ℕ, ◌≡◌, List, slice_get, Some}
use Rattle.mako_shape.specs.declared.numbers.Numbers.{Numbers}
use Rattle.mako_step.specs.Machines.{IsAct}
use Rattle.mako_model.specs.Legal.{Facts}
use Rattle.mako_layout.specs.Facets.{Gift}
use Rattle.mako_joint.specs.Joints.{JointScene}
use Rattle.mako_pause.specs.Collecting.{Collecting, Holdings, at, next_of}
use Rattle.mako_pause.specs.declared.stage.PauseStage.{PauseStage}
use Rattle.mako_pause.specs.declared.stage.PauseStage.TheVariants.{Shutting, Draining, LoadingRoot, StoringTrace}
use Rattle.mako_pause.specs.declared.stage.PauseStage.TheVariants.{Opening}
use Rattle.mako_pause.specs.declared.stage.ChoiceStage.{ChoiceStage}
use Rattle.mako_pause.specs.declared.stage.ChoiceStage.TheVariants.{Opening as Reopening}
use Rattle.mako_pause.specs.declared.stage.NoticeStage.{NoticeStage}
use Rattle.mako_pause.specs.declared.stage.NoticeStage.TheVariants.{Looking as NoticeLook, Clearing as NoticeClear}
use Rattle.mako_pause.specs.declared.stage.NoticeStage.TheVariants.{StoringIdle}
use Rattle.mako_pause.specs.declared.stage.CollectStage.{CollectStage}
use Rattle.mako_pause.specs.declared.stage.CollectStage.TheVariants.{Idle, Pausing, Forwarding, Barriers, Emptying}
use Rattle.mako_pause.specs.declared.stage.CollectStage.TheVariants.{Polling, Choosing, Noticing, Ended}
use Rattle.mako_seat.specs.declared.seat.Seat.{Seat}
use Rattle.mako_seat.specs.declared.seat.Seat.TheVariants.{Collector}
use Rattle.mako_state.specs.CoreStates.{CoreState, step_of}
use Rattle.mako_clearing.specs.Hearing.{notice_server, words_next, with_hearing, with_finish}
use Rattle.mako_collecting.specs.Roles.{ChoiceOf}
use Rattle.mako_collecting.specs.Steps.{stepped, polled, chosen}
use Rattle.mako_whole.specs.AllCollecting.{FactsStand}
use Rattle.mako_whole.specs.AllRuns.{scene_in, SeatsSit, CollectorCame}
use Rattle.mako_sitting_collector.specs.CollectorFinishes.{FinishesOn}
use Rattle.mako_sitting_collector.specs.CollectorHears.{HearsOn}
use Rattle.mako_sitting_collector.specs.CollectorSnaps.{snapshot_taken}

-- ---- the scene after its step

abbrev pub PauseSceneIs : Numbers → JointScene → Holdings → PauseStage → JointScene → Type 0
PauseSceneIs n s k (Shutting pause m) after = after ≡ stepped n s (at k (Pausing (Shutting pause m)))
PauseSceneIs n s k (Draining pause m) after = after ≡ stepped n s (at k (Pausing (Draining pause m)))
PauseSceneIs n s k (LoadingRoot m q) after = after ≡ stepped n s (at k (Pausing (LoadingRoot m q)))
PauseSceneIs n s k StoringTrace after = after ≡ snapshot_taken n s k
PauseSceneIs n s k (Opening m) after = after ≡ stepped n s (at k (Pausing (Opening m)))

-- the choice of the stage goes on
pub record IsChosenScene (n : Numbers) (s : JointScene) (k : Holdings) (stage : ChoiceStage) (after : JointScene) :
    Type 0 where
  pub given : List Gift
  pub spare : List ℕ
  pub choice : ChoiceOf n s.words s.facets.choice k (Choosing stage) given spare
  pub is : after ≡ chosen n s k stage given spare

abbrev pub ChoiceSceneIs : Numbers → JointScene → Holdings → ChoiceStage → JointScene → Type 0
ChoiceSceneIs n s k (Reopening m) after = after ≡ stepped n s (at k (Choosing (Reopening m)))
ChoiceSceneIs n s k stage after = IsChosenScene n s k stage after

-- what is left of the server's names is that of the law
pub record IsHeardScene (n : Numbers) (w : Facts) (s : JointScene) (seats : List Seat) (i : ℕ) (k : Holdings)
    (stage : NoticeStage) (after : JointScene) : Type 0 where
  pub on : HearsOn n w s seats i k stage
  pub is : after ≡ with_hearing n s (words_next k stage s.words) on.after on.to (notice_server n stage) on.left

pub record IsFinishedScene (n : Numbers) (w : Facts) (s : JointScene) (seats : List Seat) (i : ℕ) (k : Holdings)
    (after : JointScene) : Type 0 where
  pub on : FinishesOn n w s seats i k
  pub is : after ≡ with_finish n s (words_next k StoringIdle s.words) k on.spare s.facets.names.collector

abbrev pub NoticeSceneIs : Numbers → Facts → JointScene → List Seat → ℕ → Holdings → NoticeStage → JointScene → Type 0
NoticeSceneIs n w s seats i k (NoticeLook r) after = IsHeardScene n w s seats i k (NoticeLook r) after
NoticeSceneIs n w s seats i k (NoticeClear r told) after = IsHeardScene n w s seats i k (NoticeClear r told) after
NoticeSceneIs n w s seats i k StoringIdle after = IsFinishedScene n w s seats i k after

abbrev pub SceneIs : Numbers → Facts → JointScene → List Seat → ℕ → Holdings → CollectStage → JointScene → Type 0
SceneIs n w s seats i k (Idle stage) after = after ≡ stepped n s (at k (Idle stage))
SceneIs n w s seats i k (Pausing stage) after = PauseSceneIs n s k stage after
SceneIs n w s seats i k (Forwarding stage) after = after ≡ stepped n s (at k (Forwarding stage))
SceneIs n w s seats i k (Barriers stage) after = after ≡ stepped n s (at k (Barriers stage))
SceneIs n w s seats i k (Emptying r) after = after ≡ stepped n s (at k (Emptying r))
SceneIs n w s seats i k Polling after = after ≡ polled n s (at k Polling)
SceneIs n w s seats i k (Choosing stage) after = ChoiceSceneIs n s k stage after
SceneIs n w s seats i k (Noticing stage) after = NoticeSceneIs n w s seats i k stage after
SceneIs n w s seats i k Ended after = ⊥

-- all seats sit in that scene
pub record CameTo (n : Numbers) (w : Facts) (s : JointScene) (seats : List Seat) (i : ℕ) (k : Holdings)
    (stage : CollectStage) : Type 0 where
  pub came : CollectorCame n w s seats i (at k stage)
  pub scene : SceneIs n w s seats i k stage came.after

abbrev pub CollectorsCome : Type 0
CollectorsCome = (n : Numbers) (w : Facts) (st : CoreState) (i : ℕ) (k : Holdings) (stage : CollectStage)
    → (sits : SeatsSit n w st) → FactsStand n w st sits.facets → slice_get st.seats i ≡ Some (Collector (at k stage))
    → IsAct (next_of (at k stage)) → CameTo n w (scene_in st sits.facets) st.seats i k stage

-- ---- states with the facts

-- all seats sit, and what some steps of the collector ask stands of the same facets
pub record AllStand (n : Numbers) (w : Facts) (st : CoreState) : Type 0 where
  pub sits : SeatsSit n w st
  pub facts : FactsStand n w st sits.facets

-- where it stands in the scene after the step too, so it is of the state after it
abbrev pub CameStand : Type 0
CameStand = (n : Numbers) (w : Facts) (st : CoreState) (i : ℕ) (c : Collecting) (sits : SeatsSit n w st)
    → slice_get st.seats i ≡ Some (Collector c) → IsAct (next_of c)
    → (came : CollectorCame n w (scene_in st sits.facets) st.seats i c)
    → FactsStand n w (step_of st i) came.after.facets → AllStand n w (step_of st i)
