-- The regions that tablets gave up are those that get spare with the next cycle: what holds of roles at each stage of
-- the collector, at the start of a script and past each step of each seat.
use Rattle.std.specs.Prelude.{ℕ, ◌≡◌, ◌+◌, ◌<◌, ◌≤◌, ◌==◌, List, slice_get, slice_set, Some}
use Rattle.mako_words.specs.declared.name.Name.{Name}
use Rattle.mako_shape.specs.declared.numbers.Numbers.{Numbers}
use Rattle.mako_model.specs.Legal.{Facts}
use Rattle.mako_names.specs.Notices.{Gathering}
use Rattle.mako_gate.specs.Changes.{tablets_of}
use Rattle.mako_gate.specs.Sums.{counted}
use Rattle.mako_layout.specs.Facets.{Gift, Choice, given_of, gift_of}
use Rattle.mako_layout.specs.Layouts.{regions_of}
use Rattle.mako_layout.specs.Sums.{sum_below}
use Rattle.mako_joint.specs.Joints.{JointScene}
use Rattle.mako_mutator.specs.Drivers.{Driving}
use Rattle.mako_server.specs.Serving.{Serving}
use Rattle.mako_script.specs.Scripts.{ScriptView, IsProper}
use Rattle.mako_pause.specs.Collecting.{Collecting, Holdings, at, running}
use Rattle.mako_pause.specs.Regions.{is_spare}
use Rattle.mako_pause.specs.declared.regions.Role.TheVariants.{Spare}
use Rattle.mako_pause.specs.declared.stage.ChoiceStage.{ChoiceStage}
use Rattle.mako_pause.specs.declared.stage.ChoiceStage.TheVariants.{StoringLeaving, StoringHome}
use Rattle.mako_pause.specs.declared.stage.NoticeStage.{NoticeStage}
use Rattle.mako_pause.specs.declared.stage.NoticeStage.TheVariants.{StoringIdle}
use Rattle.mako_pause.specs.declared.stage.CollectStage.{CollectStage}
use Rattle.mako_pause.specs.declared.stage.CollectStage.TheVariants.{Polling, Choosing, Noticing}
use Rattle.mako_seat.specs.declared.seat.Seat.{Seat}
use Rattle.mako_seat.specs.declared.seat.Seat.TheVariants.{Mutator, Server, Collector}
use Rattle.mako_state.specs.Openings.{opening_seats}
use Rattle.mako_mutating.specs.Mutators as mutators
use Rattle.mako_tracing.specs.Laws.{server_next}
use Rattle.mako_clearing.specs.Hearing.{noticing, hears_next, with_hearing, with_finish, IsReading}
use Rattle.mako_collecting.specs.Roles.{role_of, ChoiceOf}
use Rattle.mako_collecting.specs.Steps.{collector_next, stepped, polled, chosen}
use Rattle.mako_sitting.specs.Seats.{AllSit}
use Rattle.mako_sitting_mutators.specs.MutatorSteps.{mutator_next}
use Rattle.mako_sitting_servers.specs.ServerSteps.{server_stepped}
use Rattle.mako_sitting_collector.specs.CollectorSnaps.{storing, snapshot_taken}
use Rattle.mako_sitting_collector.specs.CollectorHears.{GivenAreNext}
use Rattle.mako_sitting.specs.Openings.{opening_scene}

-- ---- the relation

-- how many tablets gave up the region
abbrev pub given_at : Numbers → Choice → ℕ → ℕ
given_at n choice r = sum_below (tablets_of n) (λ t. counted (gift_of (given_of choice) t == r + 1) 1)

-- the region that a tablet gave up, while its role does not tell so yet
abbrev pub choice_untold : ChoiceStage → ℕ → ℕ
choice_untold (StoringHome i gift) r = counted (gift.former == r) 1
choice_untold stage r = 0

abbrev pub untold_in : CollectStage → ℕ → ℕ
untold_in (Choosing stage) r = choice_untold stage r
untold_in stage r = 0

-- No region gets spare later than with the next cycle; and those that get spare with it are those given up so far, but
-- for the one that is still to be told.
pub record RolesAreNext (n : Numbers) (choice : Choice) (c : Collecting) : Type 0 where
  pub soon : (r since : ℕ) → r < regions_of n → role_of c.kept r ≡ Spare since → since ≤ running c.kept + 1
  pub next : (r : ℕ) → r < regions_of n
      → counted (is_spare (running c.kept + 1) (role_of c.kept r)) 1 + untold_in c.stage r
      ≡ counted (is_spare (running c.kept) (role_of c.kept r)) 1 + given_at n choice r

-- so it is of the collector among these seats
abbrev pub GiftsAreNext : Numbers → JointScene → List Seat → Type 0
GiftsAreNext n s seats = (i : ℕ) (c : Collecting) → slice_get seats i ≡ Some (Collector c)
    → RolesAreNext n s.facets.choice c

-- then at its notices the regions given up are those that get spare with the next cycle
abbrev pub NoticesFindGifts : Type 0
NoticesFindGifts = (n : Numbers) (w : Facts) (s : JointScene) (seats : List Seat) (i : ℕ) (k : Holdings)
    (stage : NoticeStage) → GiftsAreNext n s seats → slice_get seats i ≡ Some (Collector (noticing k stage))
    → GivenAreNext n w s k

-- ---- at the start, and past steps of mutators and servers

abbrev pub OpeningsGiveNone : Type 0
OpeningsGiveNone = (s : ScriptView) → IsProper s → GiftsAreNext s.numbers (opening_scene s) (opening_seats s)

abbrev pub MutatorsKeepGifts : Type 0
MutatorsKeepGifts = (n : Numbers) (s : JointScene) (seats : List Seat) (m : ℕ) (d : Driving) → GiftsAreNext n s seats
    → GiftsAreNext n (mutators.stepped s m d) (slice_set seats m (Mutator (mutator_next s d)))

abbrev pub ServersKeepGifts : Type 0
ServersKeepGifts = (n : Numbers) (s : JointScene) (seats : List Seat) (i : ℕ) (v : Serving) (sent : List Name)
    → GiftsAreNext n s seats
    → GiftsAreNext n (server_stepped n s i v sent) (slice_set seats i (Server (server_next v s.words)))

-- ---- past steps of the collector

-- it gives out no region with its step, and hears no notice
abbrev pub GivesNone : CollectStage → Type 0
GivesNone (Choosing (StoringLeaving i gift)) = ⊥
GivesNone (Choosing (StoringHome i gift)) = ⊥
GivesNone (Noticing stage) = ⊥
GivesNone stage = Unit {0}

-- the steps that leave the choice
abbrev pub StepsKeepGifts : Type 0
StepsKeepGifts = (n : Numbers) (s : JointScene) (seats : List Seat) (i : ℕ) (k : Holdings) (stage : CollectStage)
    → GivesNone stage → GiftsAreNext n s seats → slice_get seats i ≡ Some (Collector (at k stage))
    → GiftsAreNext n (stepped n s (at k stage)) (slice_set seats i (Collector (collector_next (at k stage) s.words)))

-- the store of Trace, with the snapshot
abbrev pub SnapshotsKeepGifts : Type 0
SnapshotsKeepGifts = (n : Numbers) (s : JointScene) (seats : List Seat) (i : ℕ) (k : Holdings)
    → GiftsAreNext n s seats → slice_get seats i ≡ Some (Collector (storing k))
    → GiftsAreNext n (snapshot_taken n s k) (slice_set seats i (Collector (collector_next (storing k) s.words)))

-- the steps of the poll, with which the choice begins
abbrev pub PollsKeepGifts : Type 0
PollsKeepGifts = (n : Numbers) (w : Facts) (s : JointScene) (seats : List Seat) (i : ℕ) (k : Holdings)
    → AllSit n w s seats → GiftsAreNext n s seats → slice_get seats i ≡ Some (Collector (at k Polling))
    → GiftsAreNext n (polled n s (at k Polling))
    (slice_set seats i (Collector (collector_next (at k Polling) s.words)))

-- the steps of the choice, with the store of Evac and the gates that are opened after it
abbrev pub ChoicesKeepGifts : Type 0
ChoicesKeepGifts = (n : Numbers) (w : Facts) (s : JointScene) (seats : List Seat) (i : ℕ) (k : Holdings)
    (stage : ChoiceStage) (given : List Gift) (spare : List ℕ) → AllSit n w s seats → GiftsAreNext n s seats
    → slice_get seats i ≡ Some (Collector (at k (Choosing stage)))
    → ChoiceOf n s.words s.facets.choice k (Choosing stage) given spare
    → GiftsAreNext n (chosen n s k stage given spare)
    (slice_set seats i (Collector (collector_next (at k (Choosing stage)) s.words)))

-- the looks at notices, and the takes
abbrev pub HearingKeepsGifts : Type 0
HearingKeepsGifts = (n : Numbers) (s : JointScene) (seats : List Seat) (i : ℕ) (k after : Holdings)
    (stage to : NoticeStage) (words : List ℕ) (server : ℕ) (left : List Name) → IsReading stage
    → GiftsAreNext n s seats → slice_get seats i ≡ Some (Collector (noticing k stage))
    → hears_next k stage s.words ≡ noticing after to
    → GiftsAreNext n (with_hearing n s words after to server left) (slice_set seats i (Collector (noticing after to)))

-- the store of Idle, after which nothing is given up
abbrev pub FinishKeepsGifts : Type 0
FinishKeepsGifts = (n : Numbers) (w : Facts) (s : JointScene) (seats : List Seat) (i : ℕ) (k : Holdings)
    (words : List ℕ) (spare : List ℕ) (gathers : Gathering) → AllSit n w s seats → GiftsAreNext n s seats
    → slice_get seats i ≡ Some (Collector (noticing k StoringIdle))
    → GiftsAreNext n (with_finish n s words k spare gathers)
    (slice_set seats i (Collector (hears_next k StoringIdle s.words)))
