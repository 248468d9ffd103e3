-- What the collector's trail shows at each of its stages.
use Rattle.std.specs.Prelude.{◌≡◌, ◌≢◌, ℕ, Bool, true, false, ◌<◌, List, [], ◌∷◌, ◌++◌, length, slice_index}
use Rattle.mako_words.specs.Notices.{notice_at}
use Rattle.mako_words.specs.Phases.{phase_word}
use Rattle.mako_words.specs.declared.name.Name.{Name}
use Rattle.mako_words.specs.declared.phase_word.PhaseWord.TheVariants.{Trace}
use Rattle.mako_shape.specs.Limits.{IsShape}
use Rattle.mako_shape.specs.declared.numbers.Numbers.{Numbers}
use Rattle.mako_step.specs.declared.act.Op.TheVariants.{Load}
use Rattle.mako_step.specs.Trails.{Observation, Goes}
use Rattle.mako_poll.specs.Polls as polls
use Rattle.mako_poll.specs.declared.poller.PollStage.TheVariants.{Asking}
use Rattle.mako_script.specs.Scripts.{ScriptView}
use Rattle.mako_pause.specs.Collecting.{Holdings, Collecting, running, next_of, Fits, fed}
use Rattle.mako_pause.specs.Opening.{opening}
use Rattle.mako_cycles.specs.Phasing.{phase_left, phase_of}
use Rattle.mako_cycles.specs.Gating.{IsShut, IsDrained, IsOpen, EachBelow}
use Rattle.mako_cycles.specs.Telling.{ToldOpen, ToldTwice}
use Rattle.mako_cycles.specs.Hearing.{Hears, joined, at_notice}
use Rattle.mako_pause.specs.declared.stage.Pause.{Pause}
use Rattle.mako_pause.specs.declared.stage.Pause.TheVariants.{Snapshot, Choice}
use Rattle.mako_pause.specs.declared.stage.PauseStage.{PauseStage}
use Rattle.mako_pause.specs.declared.stage.PauseStage.TheVariants.{Shutting, Draining, LoadingRoot, StoringTrace}
use Rattle.mako_pause.specs.declared.stage.PauseStage.TheVariants.{Opening}
use Rattle.mako_pause.specs.declared.stage.ChoiceStage.{ChoiceStage}
use Rattle.mako_pause.specs.declared.stage.ChoiceStage.TheVariants.{Opening as Reopening}
use Rattle.mako_pause.specs.declared.stage.NoticeStage.{NoticeStage}
use Rattle.mako_pause.specs.declared.stage.NoticeStage.TheVariants.{Looking as NoticeLook, Clearing as NoticeClear}
use Rattle.mako_pause.specs.declared.stage.NoticeStage.TheVariants.{StoringIdle}
use Rattle.mako_pause.specs.declared.stage.CollectStage.{CollectStage}
use Rattle.mako_pause.specs.declared.stage.CollectStage.TheVariants.{Idle, Pausing, Forwarding, Barriers, Emptying}
use Rattle.mako_pause.specs.declared.stage.CollectStage.TheVariants.{Polling, Choosing, Noticing, Ended}

-- outside the second part of a cycle no gate is held, and before the notices no name is freed
abbrev pub Rests : Holdings → Type 0
Rests k = (k.gates_shut ≡ false) × (k.freed ≡ [])

-- the pause for the choice begins once completion was told
abbrev pub PauseBegan : Holdings → Pause → List Observation → Type 0
PauseBegan k Snapshot trail = Unit {0}
PauseBegan k Choice trail = ToldOpen k.shape (running k) trail

abbrev pub PauseShown : Holdings → PauseStage → List Observation → Type 0
PauseShown k (Shutting pause m) trail = PauseBegan k pause trail × EachBelow IsShut k.shape m trail
PauseShown k (Draining pause m) trail =
    PauseBegan k pause trail × (m < k.shape.mutators) × EachBelow IsShut k.shape k.shape.mutators trail
    × EachBelow IsDrained k.shape m trail
PauseShown k (LoadingRoot m q) trail = EachBelow IsDrained k.shape k.shape.mutators trail
PauseShown k StoringTrace trail = EachBelow IsDrained k.shape k.shape.mutators trail
PauseShown k (Opening m) trail = EachBelow IsOpen k.shape m trail

-- while completion is awaited the gates are open; or completion was told once, and they are drained
abbrev pub Round : Numbers → ℕ → Bool → List Observation → Type 0
Round n cycle false trail = EachBelow IsOpen n n.mutators trail
Round n cycle true trail = ToldOpen n cycle trail × EachBelow IsDrained n n.mutators trail

-- a round goes on, and before its poll began it had come to the phase Trace as well
pub record PollShown (k : Holdings) (trail : List Observation) : Type 0 where
  pub shape : k.poll.shape ≡ k.shape
  pub here : Round k.shape (running k) k.gates_shut trail
  pub front : List Observation
  pub poll : List Observation
  pub before : Round k.shape (running k) k.gates_shut front
  pub traces : phase_left k.shape front ≡ phase_word (Trace (running k))
  pub goes : Goes polls.next_of polls.Fits polls.fed (record { shape = k.shape; stage = Asking 0 }) poll k.poll
  pub made : trail ≡ front ++ poll

-- completion was told again, and until Evac is stored the gates stay drained
abbrev pub ChoiceShown : Holdings → ChoiceStage → List Observation → Type 0
ChoiceShown k (Reopening m) trail =
    (k.gates_shut ≡ false) × ToldTwice k.shape (running k) trail × EachBelow IsOpen k.shape m trail
ChoiceShown k stage trail = ToldTwice k.shape (running k) trail × EachBelow IsDrained k.shape k.shape.mutators trail

-- the notices of so many servers were taken, and the freed names are those that they told
pub record Heard (k : Holdings) (server : ℕ) (trail : List Observation) : Type 0 where
  pub front : List Observation
  pub taken : List Observation
  pub lists : List (List Name)
  pub names : List Name
  pub hears : Hears k.shape lists names taken
  pub count : length lists ≡ server
  pub freed : k.freed ≡ joined lists ++ names
  pub made : trail ≡ front ++ taken

-- the notices of all servers were taken, and the freed names are those that they told
pub record AllHeard (k : Holdings) (trail : List Observation) : Type 0 where
  pub front : List Observation
  pub taken : List Observation
  pub lists : List (List Name)
  pub hears : Hears k.shape lists [] taken
  pub count : length lists ≡ k.shape.servers
  pub freed : k.freed ≡ joined lists
  pub made : trail ≡ front ++ taken

-- and the last look found this notice
pub record Found (k : Holdings) (server word : ℕ) (trail : List Observation) : Type 0 where
  pub before : List Observation
  pub heard : Heard k server before
  pub some : word ≢ 0
  pub made : trail ≡ before ++ at_notice k.shape server (slice_index k.notice_at server) Load word ∷ []

abbrev pub NoticeShown : Holdings → NoticeStage → List Observation → Type 0
NoticeShown k (NoticeLook s) trail = (s < k.shape.servers) × Heard k s trail
NoticeShown k (NoticeClear s told) trail =
    (s < k.shape.servers) × ((word : ℕ) × ((notice_at word ≡ told) × Found k s word trail))
NoticeShown k StoringIdle trail = AllHeard k trail

abbrev pub StageShown : Holdings → CollectStage → List Observation → Type 0
StageShown k (Idle stage) trail = Rests k
StageShown k (Pausing stage) trail = Rests k × PauseShown k stage trail
StageShown k (Forwarding stage) trail = (k.freed ≡ []) × Round k.shape (running k) k.gates_shut trail
StageShown k (Barriers stage) trail = (k.freed ≡ []) × Round k.shape (running k) k.gates_shut trail
StageShown k (Emptying s) trail = (k.freed ≡ []) × Round k.shape (running k) k.gates_shut trail
StageShown k Polling trail = (k.freed ≡ []) × PollShown k trail
StageShown k (Choosing stage) trail = (k.freed ≡ []) × ChoiceShown k stage trail
StageShown k (Noticing stage) trail =
    (k.gates_shut ≡ false) × ToldTwice k.shape (running k) trail × EachBelow IsOpen k.shape k.shape.mutators trail
    × NoticeShown k stage trail
StageShown k Ended trail = Unit {0}

-- the phase that the trail stored last is that of the stage, and the trail shows all that has to be made before it
pub record Moment (n : Numbers) (c : Collecting) (trail : List Observation) : Type 0 where
  pub shape : c.kept.shape ≡ n
  pub phase : phase_left c.kept.shape trail ≡ phase_word (phase_of c.kept c.stage)
  pub shown : StageShown c.kept c.stage trail

-- so it is at every moment of a collector
abbrev pub CollectorsGo : Type 0
CollectorsGo = (s : ScriptView) (trail : List Observation) (l : Collecting) → IsShape s.numbers →
    Goes next_of Fits fed (opening s) trail l → Moment s.numbers l trail
