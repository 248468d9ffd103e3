-- Any number of servers that trace and one collector that polls, on one list of words.
use Rattle.std.specs.Prelude.{ℕ, ◌≡◌, ◌≢◌, ◌<◌, List, [], ◌∷◌, length, slice_get, Some}
use Rattle.mako_words.specs.declared.name.Name.{Name}
use Rattle.mako_shape.specs.declared.numbers.Numbers.{Numbers}
use Rattle.mako_shape.specs.Places.{Place, Within, total, word_at}
use Rattle.mako_step.specs.Acts.{words_stepped, finds}
use Rattle.mako_step.specs.Machines.{IsAct}
use Rattle.mako_ring.specs.Facets.{Poll, elsewhere, forwarding, polling, reading, CollectorFacet, Scene, IsPolled}
use Rattle.mako_ring.specs.Polling.{PollingStands}
use Rattle.mako_ring.specs.Shades.{IsQuiet}
use Rattle.mako_ring.specs.TraceFacets.{TraceFacet, serving, collecting, is_filled}
use Rattle.mako_ring.specs.TracerFacets.{work_of, serving_of}
use Rattle.mako_ring.specs.TracerFacts.{TracerStands}
use Rattle.mako_ring.specs.Tracing.{TracerView, next_of, fed, Fits, new_tracer, begun}
use Rattle.mako_ring.specs.declared.tracing.TraceStage.TheVariants.{Ended as AtEnd}
use Rattle.mako_ring.specs.declared.window.Window.{Window}
use Rattle.mako_poll.specs.Polls.{stage_next, stage_fed, IsKnown}
use Rattle.mako_poll.specs.Steps.{CollectorStep, end_by}
use Rattle.mako_poll.specs.declared.poller.Polled.TheVariants.{Told, NotYet}
use Rattle.mako_poll.specs.declared.poller.PollStage.{PollStage}
use Rattle.mako_poll.specs.declared.poller.PollStage.TheVariants.{Asking, Reading, Ended}

-- where the collector is
pub data CollectorStage : Type 0 where
  -- anywhere else
  away : CollectorStage
  -- it found the slot at the head of that work ring empty, and is to store a pending name
  putting : (receiver : ℕ) → CollectorStage
  -- it polls, and the poll is there
  polls : PollStage → CollectorStage

-- the collector: its pending names, its window of each work ring, and where it is
pub record CollectorView : Type 0 where
  pub pending : List Name
  pub window : ℕ → Window
  pub stage : CollectorStage

-- the words, the machine of each server, and the collector
pub record World : Type 0 where
  pub words : List ℕ
  pub server : ℕ → TracerView
  pub collector : CollectorView

-- ---- what rings, flags and polls read of it
abbrev pub poll_of : Numbers → CollectorStage → Poll
poll_of n away = elsewhere
poll_of n (putting r) = forwarding r
poll_of n (polls (Asking k)) = polling k
poll_of n (polls (Reading k)) = reading k
poll_of n (polls (Ended Told)) = reading n.servers
poll_of n (polls (Ended (NotYet k w))) = elsewhere

abbrev pub collecting_of : Numbers → CollectorView → CollectorFacet
collecting_of n c = record { pending = is_filled c.pending; window = c.window; poll = poll_of n c.stage }

abbrev pub scene_of : Numbers → World → Scene
scene_of n v = record {
  word = word_at n v.words;
  server = λ j. serving_of (v.server j);
  collector = collecting_of n v.collector;
}

-- ---- steps
-- server i's machine becomes another, and nothing else but words changes
pub record Serves (n : Numbers) (v after : World) (i : ℕ) (t : TracerView) : Type 0 where
  pub in_range : i < n.servers
  pub here : after.server i ≡ t
  pub others : (j : ℕ) → j < n.servers → j ≢ i → after.server j ≡ v.server j
  pub collector : after.collector ≡ v.collector

-- the collector becomes another, and nothing else but words changes
pub record Collects (n : Numbers) (v after : World) (c : CollectorView) : Type 0 where
  pub here : after.collector ≡ c
  pub servers : (j : ℕ) → j < n.servers → after.server j ≡ v.server j

-- the words of rings and flags stay
abbrev pub SamePolled : Numbers → List ℕ → List ℕ → Type 0
SamePolled n words after = (p : Place) → IsPolled p → Within n p → word_at n after p ≡ word_at n words p

-- a stage that a step outside a poll may lead to: of a poll it is the first alone
abbrev pub IsOutside : CollectorStage → Type 0
IsOutside away = Unit {0}
IsOutside (putting r) = Unit {0}
IsOutside (polls (Asking k)) = k ≡ 0
IsOutside (polls (Reading k)) = ⊥
IsOutside (polls (Ended polled)) = ⊥

-- one step
pub data WorldStep (n : Numbers) (v after : World) : Type 0 where
  -- the machine of a server makes its next act, which finds a word that it can go on with
  Traces : (i : ℕ) → IsAct (next_of (v.server i)) → Fits (v.server i) (finds (next_of (v.server i)) v.words)
      → after.words ≡ words_stepped (next_of (v.server i)) v.words
      → Serves n v after i (fed (v.server i) (finds (next_of (v.server i)) v.words)) → WorldStep n v after
  -- the machine of a server, which is at its end, begins a turn
  Begins : (i cycle : ℕ) → (v.server i).stage ≡ AtEnd → after.words ≡ v.words
      → Serves n v after i (begun (v.server i) cycle) → WorldStep n v after
  -- the collector's poll makes its next act
  Polls : (stage : PollStage) → v.collector.stage ≡ polls stage → IsAct (stage_next n stage)
      → after.words ≡ words_stepped (stage_next n stage) v.words
      → Collects n v after
      (record v.collector { stage = polls (stage_fed n stage (finds (stage_next n stage) v.words)) })
      → WorldStep n v after
  -- the collector does something else, of the kinds that rings and flags know
  Collected : (c : CollectorView) → IsOutside c.stage → length after.words ≡ length v.words
      → CollectorStep n (word_at n v.words) (word_at n after.words) (collecting_of n v.collector) (collecting_of n c)
      → Collects n v after c → WorldStep n v after
  -- another seat makes a step, which leaves rings and flags alone
  Apart : length after.words ≡ length v.words → SamePolled n v.words after.words → after.server ≡ v.server
      → after.collector ≡ v.collector → WorldStep n v after

-- a list of steps, each given by the world after it
abbrev pub WorldSteps : Numbers → World → List World → Type 0
WorldSteps n v [] = Unit {0}
WorldSteps n v (u ∷ us) = WorldStep n v u × WorldSteps n u us

-- ---- what holds
abbrev pub CollectorStands : Numbers → CollectorStage → Type 0
CollectorStands n (polls stage) = IsKnown n stage
CollectorStands n stage = Unit {0}

-- the polling invariant with its further facts, of the scene, of each machine and of the collector
pub record WorldStands (n : Numbers) (v : World) : Type 0 where
  pub size : length v.words ≡ total n
  pub some : 0 < n.servers
  pub polling : PollingStands n (scene_of n v)
  pub servers : (j : ℕ) → j < n.servers → TracerStands n j (v.server j)
  pub collector : CollectorStands n v.collector.stage

-- the opening state: the words of rings and flags are 0, no server has begun, and the collector is elsewhere with empty
-- windows
pub record IsOpeningWorld (n : Numbers) (v : World) : Type 0 where
  pub size : length v.words ≡ total n
  pub words : (p : Place) → IsPolled p → Within n p → word_at n v.words p ≡ 0
  pub servers : (j : ℕ) → j < n.servers → v.server j ≡ new_tracer n j
  pub windows : (r : ℕ) → r < n.servers → ((v.collector.window r).head ≡ 0) × ((v.collector.window r).tail ≡ 0)
  pub collector : v.collector.stage ≡ away

-- ---- laws
abbrev pub OpeningStands : Type 0
OpeningStands = (n : Numbers) (v : World) → 0 < n.ring → 0 < n.servers → IsOpeningWorld n v → WorldStands n v

-- every list of steps keeps it
abbrev pub WorldsStand : Type 0
WorldsStand = (n : Numbers) (v : World) (steps : List World) → WorldStands n v → WorldSteps n v steps
    → WorldStands n (end_by v steps)

-- the facets of the seats: those of servers and of the collector are what the machines hold
abbrev pub IsFacetOf : Numbers → World → TraceFacet → Type 0
IsFacetOf n v (serving w) = (j : ℕ) × ((j < n.servers) × (w ≡ work_of (v.server j)))
IsFacetOf n v (collecting names) = names ≡ v.collector.pending
IsFacetOf n v facet = Unit {0}

abbrev pub AreFacetsOf : Numbers → World → List TraceFacet → Type 0
AreFacetsOf n v facets = (seat : ℕ) (facet : TraceFacet) → slice_get facets seat ≡ Some facet → IsFacetOf n v facet

-- told implies quiet: wherever a poll has ended with `Told`, after any list of steps, the heap is quiet
abbrev pub ToldImpliesQuiet : Type 0
ToldImpliesQuiet = (n : Numbers) (v : World) (steps : List World) (facets : List TraceFacet) → WorldStands n v
    → WorldSteps n v steps
    → (end_by v steps).collector.stage ≡ polls (Ended Told) → AreFacetsOf n (end_by v steps) facets
    → IsQuiet n (end_by v steps).words facets

-- the premises can be met: with one server, a poll that begins in the opening state is told
abbrev pub OpeningIsTold : Type 0
OpeningIsTold = (n : Numbers) (v : World) → n.servers ≡ 1 → IsOpeningWorld n v → v.collector.pending ≡ []
    → (steps : List World) × (WorldSteps n v steps × ((end_by v steps).collector.stage ≡ polls (Ended Told)))
