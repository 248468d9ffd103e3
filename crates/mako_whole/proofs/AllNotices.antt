-- What stands of notices holds at the start, and each step of a mutator keeps it.
use Rattle.std.proofs.Common.{◌≡◌, ◌≢◌, ℕ, ◌<◌, ⊎_elim, List, set, slice_get, slice_index, Some, sym, ap, subst, ◌∙◌}
use Rattle.std.proofs.Common.{arith}
use Rattle.mako_words.specs.Notices.{notice_at}
use Rattle.mako_shape.specs.declared.numbers.Numbers.{Numbers}
use Rattle.mako_shape.specs.Places.{notice, word_at}
use Rattle.mako_gate.proofs.Lists.{at_set}
use Rattle.mako_model.specs.Legal.{Facts}
use Rattle.mako_script.specs.Scripts.{ScriptView}
use Rattle.mako_joint.specs.Joints.{JointScene}
use Rattle.mako_pause.specs.Collecting.{Holdings, Collecting}
use Rattle.mako_pause.specs.Opening as collectors
use Rattle.mako_pause.specs.Keeping.{IsKeptKnown, StageIsKnown, NoticeIsKnown}
use Rattle.mako_pause.specs.declared.stage.NoticeStage.{NoticeStage}
use Rattle.mako_pause.specs.declared.stage.NoticeStage.TheVariants.{Looking as NoticeLook, Clearing as NoticeClear}
use Rattle.mako_pause.specs.declared.stage.NoticeStage.TheVariants.{StoringIdle}
use Rattle.mako_pause.specs.declared.stage.CollectStage.{CollectStage}
use Rattle.mako_pause.specs.declared.stage.CollectStage.TheVariants.{Idle, Pausing, Forwarding, Barriers, Emptying}
use Rattle.mako_pause.specs.declared.stage.CollectStage.TheVariants.{Polling, Choosing, Noticing, Ended}
use Rattle.mako_clearing.specs.Hearing.{NoticeKnows}
use Rattle.mako_seat.specs.declared.seat.Seat.{Seat}
use Rattle.mako_seat.specs.declared.seat.Seat.TheVariants.{Mutator, Collector}
use Rattle.mako_state.proofs.OpeningSeats.{IsOpeningSeat, of_mutator, of_server, of_collector, seat_is}
use Rattle.mako_sitting.specs.Seats.{CollectorSits, AllSit}
use Rattle.mako_sitting_mutators.specs.MutatorSteps.{mutator_next}
use Rattle.mako_whole.specs.AllNotices.{StageKnows, NoticesStand, OpeningNotices, MutatorNotices}
use Rattle.mako_sitting_mutators.proofs.MutatorBeside.{leaves}

-- ---- a notice that was found

-- a step leaves each notice that is there
abbrev pub NoticesStay : Numbers → List ℕ → List ℕ → Type 0
NoticesStay n words after = (r slot : ℕ) → r < n.servers → slot < n.ring → word_at n words (notice r slot) ≢ 0
    → word_at n after (notice r slot) ≡ word_at n words (notice r slot)

module _ (n : Numbers) (words after : List ℕ) (k : Holdings) (known : IsKeptKnown k) (shape : k.shape ≡ n)
    (stay : NoticesStay n words after) where
  notice_left : (stage : NoticeStage) → NoticeIsKnown k stage → NoticeKnows n words k stage
      → NoticeKnows n after k stage
  notice_left (NoticeLook r) low knows = tt
  notice_left (NoticeClear r told) low knows =
      let same : word_at n after (notice r (slice_index k.notice_at r))
      ≡ word_at n words (notice r (slice_index k.notice_at r)) =
      stay r (slice_index k.notice_at r) (subst (λ (q : Numbers). r < q.servers) shape low)
      (subst (λ (q : Numbers). slice_index k.notice_at r < q.ring) shape
      (known.notices r 0 (let e = known.notices_count in omega arith))) knows.0 in
      ((λ e. knows.0 (sym same ∙ e)), ap notice_at same ∙ knows.1)
  notice_left StoringIdle low knows = tt

  stage_left : (stage : CollectStage) → StageIsKnown k stage → StageKnows n words k stage → StageKnows n after k stage
  stage_left (Idle x) is knows = tt
  stage_left (Pausing x) is knows = tt
  stage_left (Forwarding x) is knows = tt
  stage_left (Barriers x) is knows = tt
  stage_left (Emptying r) is knows = tt
  stage_left Polling is knows = tt
  stage_left (Choosing x) is knows = tt
  stage_left (Noticing stage) is knows = notice_left stage is.1 knows
  stage_left Ended is knows = tt

-- ---- all seats after a step

pub same_collector : (c d : Collecting) → Collector c ≡ Collector d → c ≡ d
same_collector c d e = cc

pub set_knows : (n : Numbers) (after : List ℕ) (seats : List Seat) (i : ℕ) (x : Seat)
    → ((c : Collecting) → x ≡ Collector c → StageKnows n after c.kept c.stage)
    → ((j : ℕ) (c : Collecting) → j ≢ i → slice_get seats j ≡ Some (Collector c) → StageKnows n after c.kept c.stage)
    → (j : ℕ) (c : Collecting) → slice_get (set seats i x) j ≡ Some (Collector c) → StageKnows n after c.kept c.stage
set_knows n after seats i x own others j c at =
    ⊎_elim (λ t. own c t.1) (λ t. others j c t.0 t.1) (at_set seats i j x (Collector c) at)

-- the collector's seat is another one, and the notices that are there stay
pub still_knows : (n : Numbers) (w : Facts) (s : JointScene) (seats : List Seat) (i : ℕ) (x : Seat)
    (after : List ℕ) → AllSit n w s seats → NoticesStand n s seats → ((c : Collecting) → x ≢ Collector c)
    → NoticesStay n s.words after
    → (j : ℕ) (c : Collecting) → slice_get (set seats i x) j ≡ Some (Collector c) → StageKnows n after c.kept c.stage
still_knows n w s seats i x after all stand other stay =
    set_knows n after seats i x (λ c is. absurd (other c is))
    (λ j c apart at. let sits : CollectorSits n w s all.taker all.places j c = all.each j (Collector c) at in
    stage_left n s.words after c.kept sits.known sits.here.shape stay c.stage sits.keeps.stage (stand.knows j c at))

-- ---- the start

none_found : (s : ScriptView) (words : List ℕ) (i : ℕ) (v : Seat) → IsOpeningSeat s i v → (c : Collecting)
    → v ≡ Collector c → StageKnows s.numbers words c.kept c.stage
none_found s words _ _ (of_mutator m p at) c is = absurd (let b : ⊥ = cc in b)
none_found s words _ _ (of_server i j e l) c is = absurd (let b : ⊥ = cc in b)
none_found s words _ _ (of_collector i e) c is =
    subst (λ (q : Collecting). StageKnows s.numbers words q.kept q.stage)
    (same_collector (collectors.opening s) c is) tt

pub opening_notices : OpeningNotices
opening_notices s proper = record {
  read = λ server names low there. absurd (omega arith);
  knows = λ i c at. none_found s _ i (Collector c) (seat_is s i (Collector c) at) c (λ q. Collector c);
}

-- ---- mutators

pub mutator_notices : MutatorNotices
mutator_notices n w s seats m d all here act stand = record {
  read = stand.read;
  knows = still_knows n w s seats m (Mutator (mutator_next s d)) _ all stand (λ c e. let b : ⊥ = cc in b)
      (λ r slot low small some. leaves n w s seats m d all here act (notice r slot) (low, small) (λ x. x));
}
