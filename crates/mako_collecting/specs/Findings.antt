-- What the collector has found of tops and live words, and live counts past its steps.
use Rattle.std.specs.Prelude.{ℕ, ◌≡◌, ◌+◌, ◌*◌, true, List, slice_get, Some}
use Rattle.mako_words.specs.declared.name.Name.{Name}
use Rattle.mako_model.specs.declared.point.Point.{Point}
use Rattle.mako_phases.specs.Facets.{PhaseFacet, ServerStage, serving}
use Rattle.mako_shape.specs.declared.numbers.Numbers.{Numbers}
use Rattle.mako_model.specs.Legal.{Facts}
use Rattle.mako_joint.specs.Joints.{JointScene}
use Rattle.mako_phases.specs.Choosing.{AreFound}
use Rattle.mako_phases.specs.Lives.{LiveFacet, counting, live_count, AreOnce, AreCounted, ArePast}
use Rattle.mako_phases.specs.LiveSteps.{AgreeOnLives}
use Rattle.mako_pause.specs.Collecting.{Holdings, running, at}
use Rattle.mako_pause.specs.declared.stage.PauseStage.TheVariants.{StoringTrace}
use Rattle.mako_pause.specs.declared.stage.ChoiceStage.{ChoiceStage}
use Rattle.mako_pause.specs.declared.stage.ChoiceStage.TheVariants.{LoadingLive, LoadingTop, LoadingHome}
use Rattle.mako_pause.specs.declared.stage.ChoiceStage.TheVariants.{StoringLeaving, StoringHome, StoringTop}
use Rattle.mako_pause.specs.declared.stage.ChoiceStage.TheVariants.{StoringEvac, Opening as Reopening}
use Rattle.mako_pause.specs.declared.stage.CollectStage.{CollectStage}
use Rattle.mako_pause.specs.declared.stage.CollectStage.TheVariants.{Pausing, Polling, Choosing}
use Rattle.mako_collecting.specs.Laws.{Stands, IsUpToEvac}
use Rattle.mako_collecting.specs.Steps.{words_next, collector_next}

-- While it loads, what it has loaded is that of the words; from then on no tablet stands twice among the chosen.
abbrev pub ChoiceFound : Numbers → List ℕ → Holdings → ChoiceStage → Type 0
ChoiceFound n words k (LoadingLive r place) = AreFound n words (running k) r place k.used k.chosen
ChoiceFound n words k (LoadingTop r place number) =
    AreFound n words (running k) r place k.used k.chosen
    × (number ≡ live_count n words (r * n.tablets + place) (running k))
ChoiceFound n words k (LoadingHome i) = AreOnce k.chosen
ChoiceFound n words k (StoringLeaving i gift) = AreOnce k.chosen
ChoiceFound n words k (StoringHome i gift) = AreOnce k.chosen
ChoiceFound n words k (StoringTop i) = AreOnce k.chosen
ChoiceFound n words k StoringEvac = AreOnce k.chosen
ChoiceFound n words k (Reopening m) = Unit {0}

abbrev pub StageFound : Numbers → List ℕ → Holdings → CollectStage → Type 0
StageFound n words k (Choosing stage) = ChoiceFound n words k stage
StageFound n words k stage = Unit {0}

-- it chooses, or polls, and may come to the choice
abbrev pub FindsTablets : CollectStage → Type 0
FindsTablets Polling = Unit {0}
FindsTablets (Choosing stage) = Unit {0}
FindsTablets stage = ⊥

-- its steps keep that
abbrev pub FindingsAreKept : Type 0
FindingsAreKept = (n : Numbers) (w : Facts) (s : JointScene) (places : ℕ → ℕ) (k : Holdings) (stage : CollectStage)
    → FindsTablets stage → Stands n w s places (at k stage) → StageFound n s.words k stage
    → StageFound n (words_next (at k stage) s.words) (collector_next (at k stage) s.words).kept
    (collector_next (at k stage) s.words).stage

-- ---- live counts

-- no step of the collector stores a live word
abbrev pub LivesStay : Type 0
LivesStay = (n : Numbers) (w : Facts) (s : JointScene) (places : ℕ → ℕ) (k : Holdings) (stage : CollectStage)
    → IsUpToEvac stage → Stands n w s places (at k stage) → AgreeOnLives n s.words (words_next (at k stage) s.words)

-- with the store of Trace past counts become those of the cycle, of which nothing is marked yet
abbrev pub SnapshotsBeginCounts : Type 0
SnapshotsBeginCounts = (n : Numbers) (w : Facts) (s : JointScene) (places : ℕ → ℕ) (k : Holdings)
    → Stands n w s places (at k (Pausing StoringTrace)) → (facets : List LiveFacet)
    → ArePast n s.words facets k.cycle
    → AreCounted n w (words_next (at k (Pausing StoringTrace)) s.words) facets s.front.history (running k)

-- a server has something to work on
pub record IsLaden (phases : List PhaseFacet) (server : ℕ) : Type 0 where
  pub seat : ℕ
  pub stage : ServerStage
  pub ended : ℕ
  pub here : slice_get phases seat ≡ Some (serving server stage ended true)

-- a server that has marked a name and not counted it yet has that name to work on: both facets are of one machine
abbrev pub OwedAreTied : List PhaseFacet → List LiveFacet → Type 0
OwedAreTied phases lives = (seat server begun : ℕ) (counts : List ℕ) (owed : Name × ℕ)
    → slice_get lives seat ≡ Some (counting server begun counts (Some owed)) → IsLaden phases server

-- Evac is not stored yet
abbrev pub IsBeforeEvac : ChoiceStage → Type 0
IsBeforeEvac (Reopening m) = ⊥
IsBeforeEvac stage = Unit {0}

-- while it chooses nothing is owed: counts are past
abbrev pub ChoosingEndsCounts : Type 0
ChoosingEndsCounts = (n : Numbers) (w : Facts) (s : JointScene) (places : ℕ → ℕ) (k : Holdings) (stage : ChoiceStage)
    → Stands n w s places (at k (Choosing stage)) → IsBeforeEvac stage → (lives : List LiveFacet) (before : List Point)
    → OwedAreTied s.facets.phases lives → AreCounted n w s.words lives before (running k)
    → ArePast n s.words lives (running k)
