-- What stands of notices among all seats, and that each step of each seat keeps it.
use Rattle.std.specs.Prelude.{ℕ, ◌≡◌, List, slice_get, slice_set, Some}
use Rattle.mako_shape.specs.declared.numbers.Numbers.{Numbers}
use Rattle.mako_step.specs.Machines.{IsAct}
use Rattle.mako_model.specs.Legal.{Facts}
use Rattle.mako_script.specs.Scripts.{ScriptView, IsProper}
use Rattle.mako_layout.specs.Facets.{Gift}
use Rattle.mako_joint.specs.Joints.{JointScene}
use Rattle.mako_mutator.specs.Drivers as drivers
use Rattle.mako_mutator.specs.Drivers.{Driving}
use Rattle.mako_mutating.specs.Mutators as mutating
use Rattle.mako_server.specs.Serving as serving
use Rattle.mako_server.specs.Serving.{Serving}
use Rattle.mako_tracing.specs.Laws.{server_next}
use Rattle.mako_pause.specs.Collecting.{Holdings, Collecting, at}
use Rattle.mako_pause.specs.declared.stage.NoticeStage.{NoticeStage}
use Rattle.mako_pause.specs.declared.stage.NoticeStage.TheVariants.{StoringIdle}
use Rattle.mako_pause.specs.declared.stage.ChoiceStage.{ChoiceStage}
use Rattle.mako_pause.specs.declared.stage.CollectStage.{CollectStage}
use Rattle.mako_pause.specs.declared.stage.CollectStage.TheVariants.{Choosing, Noticing}
use Rattle.mako_collecting.specs.Steps.{collector_next, stepped, polled, chosen}
use Rattle.mako_clearing.specs.Hearing.{notice_server, NoticeKnows, with_hearing, noticing, words_next, hears_next}
use Rattle.mako_clearing.specs.Hearing.{with_finish}
use Rattle.mako_seat.specs.declared.seat.Seat.{Seat}
use Rattle.mako_seat.specs.declared.seat.Seat.TheVariants.{Mutator, Server, Collector}
use Rattle.mako_state.specs.Openings.{opening_seats}
use Rattle.mako_sitting.specs.Seats.{AllSit}
use Rattle.mako_sitting_mutators.specs.MutatorSteps.{mutator_next}
use Rattle.mako_sitting_servers.specs.ServerSteps.{server_stepped, ServerGoesOn}
use Rattle.mako_sitting_collector.specs.CollectorHears.{ReadAreHeard, HearsOn}
use Rattle.mako_sitting_collector.specs.CollectorSnaps.{storing, snapshot_taken}
use Rattle.mako_sitting.specs.Openings.{opening_scene}

-- ---- what stands

-- a notice that the collector has found still stands in its slot
abbrev pub StageKnows : Numbers → List ℕ → Holdings → CollectStage → Type 0
StageKnows n words k (Noticing stage) = NoticeKnows n words k stage
StageKnows n words k stage = Unit {0}

-- Nothing is left of what the servers have sent that the collector has read already, and the notice that it has found
-- still stands.
pub record NoticesStand (n : Numbers) (s : JointScene) (seats : List Seat) : Type 0 where
  pub read : ReadAreHeard s
  pub knows : (i : ℕ) (c : Collecting) → slice_get seats i ≡ Some (Collector c) → StageKnows n s.words c.kept c.stage

-- ---- where it begins

abbrev pub OpeningNotices : Type 0
OpeningNotices = (s : ScriptView) → IsProper s → NoticesStand s.numbers (opening_scene s) (opening_seats s)

-- ---- who keeps it

-- each step of a mutator
abbrev pub MutatorNotices : Type 0
MutatorNotices = (n : Numbers) (w : Facts) (s : JointScene) (seats : List Seat) (m : ℕ) (d : Driving)
    → AllSit n w s seats → slice_get seats m ≡ Some (Mutator d) → IsAct (drivers.next_of d) → NoticesStand n s seats
    → NoticesStand n (mutating.stepped s m d) (slice_set seats m (Mutator (mutator_next s d)))

-- Each step of a server: with what it has sent, all seats sit after it, and this stands.
pub record ServerTells (n : Numbers) (w : Facts) (s : JointScene) (seats : List Seat) (i : ℕ) (v : Serving) : Type 0
  where
    pub goes : ServerGoesOn n w s seats i v
    pub stand : NoticesStand n (server_stepped n s i v goes.sent) (slice_set seats i (Server (server_next v s.words)))

abbrev pub ServerNotices : Type 0
ServerNotices = (n : Numbers) (w : Facts) (s : JointScene) (seats : List Seat) (i : ℕ) (v : Serving)
    → AllSit n w s seats → slice_get seats i ≡ Some (Server v) → IsAct (serving.next_of v) → NoticesStand n s seats
    → ServerTells n w s seats i v

-- each step of the collector that is none at its notices
abbrev pub IsBesideNotices : CollectStage → Type 0
IsBesideNotices (Noticing stage) = ⊥
IsBesideNotices stage = Unit {0}

-- in each scene that such a step gives: in a stage, in the poll, in the choice, and with the snapshot
pub record StandsBeside (n : Numbers) (s : JointScene) (seats : List Seat) (i : ℕ) (c : Collecting) : Type 0 where
  pub steps : NoticesStand n (stepped n s c) (slice_set seats i (Collector (collector_next c s.words)))
  pub polls : NoticesStand n (polled n s c) (slice_set seats i (Collector (collector_next c s.words)))
  pub chooses : (k : Holdings) (stage : ChoiceStage) → c ≡ at k (Choosing stage) → (given : List Gift)
      (spare : List ℕ) → NoticesStand n (chosen n s k stage given spare)
      (slice_set seats i (Collector (collector_next (at k (Choosing stage)) s.words)))
  pub snaps : (k : Holdings) → c ≡ storing k
      → NoticesStand n (snapshot_taken n s k) (slice_set seats i (Collector (collector_next (storing k) s.words)))

abbrev pub CollectorNotices : Type 0
CollectorNotices = (n : Numbers) (w : Facts) (s : JointScene) (seats : List Seat) (i : ℕ) (c : Collecting)
    → AllSit n w s seats → slice_get seats i ≡ Some (Collector c) → IsBesideNotices c.stage → NoticesStand n s seats
    → StandsBeside n s seats i c

-- its steps at notices
abbrev pub HearingNotices : Type 0
HearingNotices = (n : Numbers) (w : Facts) (s : JointScene) (seats : List Seat) (i : ℕ) (k : Holdings)
    (stage : NoticeStage) → AllSit n w s seats → slice_get seats i ≡ Some (Collector (noticing k stage))
    → NoticesStand n s seats → (h : HearsOn n w s seats i k stage)
    → NoticesStand n (with_hearing n s (words_next k stage s.words) h.after h.to (notice_server n stage) h.left)
    (slice_set seats i (Collector (noticing h.after h.to)))

-- and the store of Idle
abbrev pub FinishNotices : Type 0
FinishNotices = (n : Numbers) (w : Facts) (s : JointScene) (seats : List Seat) (i : ℕ) (k : Holdings)
    (spare : List ℕ) → AllSit n w s seats → slice_get seats i ≡ Some (Collector (noticing k StoringIdle))
    → NoticesStand n s seats
    → NoticesStand n (with_finish n s (words_next k StoringIdle s.words) k spare s.facets.names.collector)
    (slice_set seats i (Collector (hears_next k StoringIdle s.words)))
