-- The collector takes the servers' notices, and finishes the cycle.
use Rattle.std.specs.Prelude.{ℕ, Bool, false, ◌≡◌, ◌≢◌, ◌+◌, ◌<◌, ◌≤◌, List, [], ◌∷◌, ◌++◌, slice_get, slice_set}
use Rattle.std.specs.Prelude.{slice_index, length, Some}
use Rattle.mako_words.specs.declared.name.Name.{Name}
use Rattle.mako_words.specs.declared.notice_word.NoticeWord.TheVariants.{Freed, Done}
use Rattle.mako_words.specs.Notices.{notice_at}
use Rattle.mako_shape.specs.declared.numbers.Numbers.{Numbers}
use Rattle.mako_shape.specs.Places.{notice, word_at}
use Rattle.mako_step.specs.Acts.{words_stepped, finds}
use Rattle.mako_step.specs.Machines.{CanStep}
use Rattle.mako_model.specs.Dead.{names_made}
use Rattle.mako_model.specs.Fronts.{with_cycle}
use Rattle.mako_model.specs.Legal.{Facts}
use Rattle.mako_names.specs.Freeing.{own_entries}
use Rattle.mako_names.specs.Notices.{Gathering}
use Rattle.mako_pause.specs.Collecting.{Holdings, Collecting, running, at, next_of, fed, Fits}
use Rattle.mako_pause.specs.Keeping.{IsKeptKnown, NoticeIsKnown}
use Rattle.mako_pause.specs.declared.stage.NoticeStage.{NoticeStage}
use Rattle.mako_pause.specs.declared.stage.NoticeStage.TheVariants.{Looking as NoticeLook, Clearing as NoticeClear}
use Rattle.mako_pause.specs.declared.stage.NoticeStage.TheVariants.{StoringIdle}
use Rattle.mako_pause.specs.declared.stage.CollectStage.TheVariants.{Noticing}
use Rattle.mako_layout.specs.Facets.{Gift, rests_with, has_chosen, times_in}
use Rattle.mako_layout.specs.Evacuations.{layout}
use Rattle.mako_layout.specs.Layouts.{regions_of, gifts_at}
use Rattle.mako_layout.specs.StepParts.{collector_seat}
use Rattle.mako_phases.specs.Facets as phases
use Rattle.mako_phases.specs.Facets.{Part, evacuating, ServerStage, serving, collecting}
use Rattle.mako_joint.specs.Joints.{JointScene, layout_in, Joint}
use Rattle.mako_clearing.specs.Notices.{SendingStands}

-- ---- what the groups read of it

-- the server that it reads; past the last one the cycle is about to be finished
abbrev pub notice_server : Numbers → NoticeStage → ℕ
notice_server n (NoticeLook s) = s
notice_server n (NoticeClear s told) = s
notice_server n StoringIdle = n.servers

abbrev pub notice_part : Numbers → Holdings → NoticeStage → Part
notice_part n k stage = evacuating (running k) (notice_server n stage)

-- the names that it has got in the cycle
abbrev pub notice_gathers : Numbers → Holdings → NoticeStage → Gathering
notice_gathers n k stage = record { server = notice_server n stage; names = k.freed }

-- ---- what it keeps

-- the word that it found still stands in the slot
abbrev pub NoticeKnows : Numbers → List ℕ → Holdings → NoticeStage → Type 0
NoticeKnows n words k (NoticeLook s) = Unit {0}
NoticeKnows n words k (NoticeClear s told) =
    (word_at n words (notice s (slice_index k.notice_at s)) ≢ 0)
    × (notice_at (word_at n words (notice s (slice_index k.notice_at s))) ≡ told)
NoticeKnows n words k StoringIdle = Unit {0}

-- The facets of the collector's seat are those of its stage.
pub record HearingStands (n : Numbers) (s : JointScene) (k : Holdings) (stage : NoticeStage) : Type 0 where
  pub known : IsKeptKnown k
  pub stage_known : NoticeIsKnown k stage
  pub shape : k.shape ≡ n
  pub phase : slice_get s.facets.phases (collector_seat n) ≡ Some (collecting (notice_part n k stage) k.pending)
  pub gathers : s.facets.names.collector ≡ notice_gathers n k stage
  pub knows : NoticeKnows n s.words k stage

-- what a server has sent, with the place at which it puts its next notice
pub record IsSender (n : Numbers) (s : JointScene) (k : Holdings) (server next : ℕ) (sent carried : List Name)
    (done : Bool) : Type 0 where
  pub sent_is : slice_get s.facets.names.sent server ≡ Some sent
  pub notices : SendingStands n s.words server (slice_index k.notice_at server) next sent carried done

-- ---- its steps

-- the scene with these words, and with the collector at this stage, where these names are left of the server
abbrev pub with_hearing : Numbers → JointScene → List ℕ → Holdings → NoticeStage → (server : ℕ) → List Name
    → JointScene
with_hearing n s words k stage server left = record s {
  words = words;
  facets = record s.facets {
    names = record s.facets.names {
      sent = slice_set s.facets.names.sent server left;
      collector = notice_gathers n k stage;
    };
    phases = slice_set s.facets.phases (collector_seat n) (collecting (notice_part n k stage) k.pending);
  };
}

abbrev pub noticing : Holdings → NoticeStage → Collecting
noticing k stage = at k (Noticing stage)

abbrev pub words_next : Holdings → NoticeStage → List ℕ → List ℕ
words_next k stage words = words_stepped (next_of (noticing k stage)) words

abbrev pub hears_next : Holdings → NoticeStage → List ℕ → Collecting
hears_next k stage words = fed (noticing k stage) (finds (next_of (noticing k stage)) words)

-- the names that it takes with this step, and whether the end of the cycle is still to be heard
abbrev pub names_heard : NoticeStage → List Name
names_heard (NoticeClear s (Freed x)) = x ∷ []
names_heard stage = []

abbrev pub done_left : NoticeStage → Bool → Bool
done_left (NoticeClear s Done) done = false
done_left stage done = done

-- After the step the collector is at a stage of its notices, and all groups are kept; and of what the server has sent,
-- what it takes is gone.
pub record HearingGoesOn (n : Numbers) (w : Facts) (s : JointScene) (k : Holdings) (stage : NoticeStage)
    (server next : ℕ) (sent carried : List Name) (done : Bool) : Type 0 where
  pub can : CanStep (next_of (noticing k stage)) s.words (Fits (noticing k stage))
  pub after : Holdings
  pub to : NoticeStage
  pub is : hears_next k stage s.words ≡ noticing after to
  pub left : List Name
  pub sent_is : sent ≡ names_heard stage ++ left
  pub joint : Joint n w (with_hearing n s (words_next k stage s.words) after to server left)
  pub stands : HearingStands n (with_hearing n s (words_next k stage s.words) after to server left) after to
  pub sender : IsSender n (with_hearing n s (words_next k stage s.words) after to server left) after server next left
      carried (done_left stage done)

-- it reads a server's notices
abbrev pub IsReading : NoticeStage → Type 0
IsReading (NoticeLook s) = Unit {0}
IsReading (NoticeClear s told) = Unit {0}
IsReading StoringIdle = ⊥

-- its lists are those of the finished cycles, and it has room for all names that were made
pub record KeepsLists (s : JointScene) (k : Holdings) : Type 0 where
  pub lists : k.cycles.lists ≡ s.front.finished
  pub room : length (names_made s.front.history) ≤ k.cycles.names_room

abbrev pub HearingKeeps : Type 0
HearingKeeps = (n : Numbers) (w : Facts) (s : JointScene) (k : Holdings) (stage : NoticeStage) (next : ℕ)
    (sent carried : List Name) (done : Bool) → Joint n w s → HearingStands n s k stage → IsReading stage
    → IsSender n s k (notice_server n stage) next sent carried done → KeepsLists s k
    → HearingGoesOn n w s k stage (notice_server n stage) next sent carried done

-- ---- the end of the cycle

-- a server that has ended the running cycle has gone over all its entries
abbrev pub EndedHaveGoneOver : Numbers → JointScene → Type 0
EndedHaveGoneOver n s = (seat server told cycle : ℕ) (stage : ServerStage) (laden : Bool) (other : ℕ)
    (pending : List Name) → slice_get s.facets.phases seat ≡ Some (serving server stage cycle laden)
    → slice_get s.facets.phases other ≡ Some (collecting (evacuating cycle told) pending)
    → slice_get s.facets.names.through server ≡ Some (own_entries n)

-- the scene with the finished cycle, where these regions are spare
abbrev pub with_finish : Numbers → JointScene → List ℕ → Holdings → List ℕ → Gathering → JointScene
with_finish n s words k spare gathers = record {
  words = words;
  front = with_cycle s.front k.freed;
  facets = record s.facets {
    names = record s.facets.names { collector = gathers };
    choice = rests_with spare;
    phases = slice_set s.facets.phases (collector_seat n) (collecting (phases.idle (running k)) k.pending);
  };
}

-- The store of Idle finishes the cycle with the names that were got. The regions that tablets gave up become spare.
pub record FinishGoesOn (n : Numbers) (w : Facts) (s : JointScene) (k : Holdings) (spare : List ℕ)
    (gathers : Gathering) : Type 0 where
  pub can : CanStep (next_of (noticing k StoringIdle)) s.words (Fits (noticing k StoringIdle))
  pub joint : Joint n w (with_finish n s (words_next k StoringIdle s.words) k spare gathers)

abbrev pub FinishKeeps : Type 0
FinishKeeps = (n : Numbers) (w : Facts) (s : JointScene) (k : Holdings) (given : List Gift) (before spare : List ℕ)
    (gathers : Gathering) → Joint n w s → HearingStands n s k StoringIdle → EndedHaveGoneOver n s
    → s.facets.choice ≡ has_chosen given before
    → ((r : ℕ) → r < regions_of n
    → times_in spare r ≡ times_in before r + gifts_at n (layout n (layout_in n w s)) r)
    → FinishGoesOn n w s k spare gathers
