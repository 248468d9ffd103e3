-- The steps of the collector among all seats: it takes the notices of servers.
use Rattle.std.specs.Prelude.{ℕ, ◌≡◌, ◌+◌, ◌<◌, List, [], slice_get, slice_set, Some}
use Rattle.mako_words.specs.declared.name.Name.{Name}
use Rattle.mako_shape.specs.declared.numbers.Numbers.{Numbers}
use Rattle.mako_step.specs.Machines.{CanStep}
use Rattle.mako_model.specs.Legal.{Facts}
use Rattle.mako_gate.specs.Sums.{counted}
use Rattle.mako_layout.specs.Evacuations.{layout}
use Rattle.mako_layout.specs.Layouts.{regions_of, gifts_at}
use Rattle.mako_joint.specs.Joints.{JointScene, layout_in}
use Rattle.mako_pause.specs.Collecting.{Holdings, running, next_of, Fits}
use Rattle.mako_pause.specs.Regions.{is_spare}
use Rattle.mako_collecting.specs.Roles.{role_of}
use Rattle.mako_pause.specs.declared.stage.NoticeStage.{NoticeStage}
use Rattle.mako_seat.specs.declared.seat.Seat.{Seat}
use Rattle.mako_seat.specs.declared.seat.Seat.TheVariants.{Collector}
use Rattle.mako_clearing.specs.Hearing.{notice_server, NoticeKnows, with_hearing, noticing, words_next, hears_next}
use Rattle.mako_clearing.specs.Hearing.{IsReading}
use Rattle.mako_sitting.specs.Seats.{AllSit}

-- nothing is left of what the servers have sent that the collector has read already
abbrev pub ReadAreHeard : JointScene → Type 0
ReadAreHeard s = (server : ℕ) (names : List Name) → server < s.facets.names.collector.server
    → slice_get s.facets.names.sent server ≡ Some names → names ≡ []

-- the regions that tablets gave up are spare from the next cycle on, and else the spare ones are the same
abbrev pub GivenAreNext : Numbers → Facts → JointScene → Holdings → Type 0
GivenAreNext n w s k = (r : ℕ) → r < regions_of n
    → counted (is_spare (running k + 1) (role_of k r)) 1
    ≡ counted (is_spare (running k) (role_of k r)) 1 + gifts_at n (layout n (layout_in n w s)) r

-- Its act can step. After it the collector is at a stage of its notices, some names are left of what the server has
-- sent, and all seats sit. The word that it has found still stands; and what is asked at the end of the cycle stays:
-- that nothing is left of the servers that it has read, and which regions get spare.
pub record HearsOn (n : Numbers) (w : Facts) (s : JointScene) (seats : List Seat) (i : ℕ) (k : Holdings)
    (stage : NoticeStage) : Type 0 where
  pub can : CanStep (next_of (noticing k stage)) s.words (Fits (noticing k stage))
  pub after : Holdings
  pub to : NoticeStage
  pub is : hears_next k stage s.words ≡ noticing after to
  pub left : List Name
  pub knows : NoticeKnows n (words_next k stage s.words) after to
  pub read : ReadAreHeard s
      → ReadAreHeard (with_hearing n s (words_next k stage s.words) after to (notice_server n stage) left)
  pub next : GivenAreNext n w s k
      → GivenAreNext n w (with_hearing n s (words_next k stage s.words) after to (notice_server n stage) left) after
  pub all : AllSit n w (with_hearing n s (words_next k stage s.words) after to (notice_server n stage) left)
      (slice_set seats i (Collector (noticing after to)))

-- so it is with each look at a notice, and each take
abbrev pub HearingKeepsAll : Type 0
HearingKeepsAll = (n : Numbers) (w : Facts) (s : JointScene) (seats : List Seat) (i : ℕ) (k : Holdings)
    (stage : NoticeStage) → IsReading stage → AllSit n w s seats
    → slice_get seats i ≡ Some (Collector (noticing k stage)) → NoticeKnows n s.words k stage
    → HearsOn n w s seats i k stage
