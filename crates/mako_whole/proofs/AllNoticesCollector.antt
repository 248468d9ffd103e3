-- Each step of the collector keeps what stands of notices.
use Rattle.std.proofs.Common.{◌≡◌, ℕ, ◌+◌, ◌==◌, nat_lt, Option, Some, None, List, [], ◌∷◌, length, set, slice_get, sym}
use Rattle.std.proofs.Common.{subst, ◌∙◌, arith}
use Rattle.mako_words.specs.declared.name.Name.{Name}
use Rattle.mako_words.specs.Gates.{count_of}
use Rattle.mako_shape.specs.declared.numbers.Numbers.{Numbers}
use Rattle.mako_model.specs.Legal.{Facts}
use Rattle.mako_joint.specs.Joints.{JointScene}
use Rattle.mako_collecting.proofs.Idling.{either_way}
use Rattle.mako_collecting.specs.Steps.{collector_next, chosen}
use Rattle.mako_clearing.specs.Hearing.{noticing}
use Rattle.mako_poll.specs.Polls as polls
use Rattle.mako_poll.specs.declared.poller.PollStage.{PollStage}
use Rattle.mako_poll.specs.declared.poller.PollStage.TheVariants.{Asking, Reading, Ended as Polled}
use Rattle.mako_poll.specs.declared.poller.Polled.TheVariants.{Told, NotYet}
use Rattle.mako_pause.specs.Collecting.{Holdings, Collecting, at, idle_fed, forward_from, paused, pause_fed}
use Rattle.mako_pause.specs.Collecting.{forward_fed, empty_from, barrier_fed, polled_at, gifts_from, gift_of}
use Rattle.mako_pause.specs.Collecting.{choice_fed, stage_fed}
use Rattle.mako_pause.specs.declared.stage.Pause.{Pause}
use Rattle.mako_pause.specs.declared.stage.Pause.TheVariants.{Snapshot, Choice}
use Rattle.mako_pause.specs.declared.stage.IdleStage.{IdleStage}
use Rattle.mako_pause.specs.declared.stage.IdleStage.TheVariants.{LoadingDemand, LookingFinished, StoringStop}
use Rattle.mako_pause.specs.declared.stage.PauseStage.{PauseStage}
use Rattle.mako_pause.specs.declared.stage.PauseStage.TheVariants.{Shutting, Draining, LoadingRoot, StoringTrace}
use Rattle.mako_pause.specs.declared.stage.PauseStage.TheVariants.{Opening}
use Rattle.mako_pause.specs.declared.stage.ForwardStage.{ForwardStage}
use Rattle.mako_pause.specs.declared.stage.ForwardStage.TheVariants.{Looking, Storing}
use Rattle.mako_pause.specs.declared.stage.BarrierStage.{BarrierStage}
use Rattle.mako_pause.specs.declared.stage.BarrierStage.TheVariants.{Loading, Clearing}
use Rattle.mako_pause.specs.declared.stage.ChoiceStage.{ChoiceStage}
use Rattle.mako_pause.specs.declared.stage.ChoiceStage.TheVariants.{LoadingLive, LoadingTop, LoadingHome}
use Rattle.mako_pause.specs.declared.stage.ChoiceStage.TheVariants.{StoringLeaving, StoringHome, StoringTop}
use Rattle.mako_pause.specs.declared.stage.ChoiceStage.TheVariants.{StoringEvac, Opening as Reopening}
use Rattle.mako_pause.specs.declared.stage.CollectStage.{CollectStage}
use Rattle.mako_pause.specs.declared.stage.CollectStage.TheVariants.{Idle, Pausing, Forwarding, Barriers, Emptying}
use Rattle.mako_pause.specs.declared.stage.CollectStage.TheVariants.{Polling, Choosing, Noticing, Ended}
use Rattle.mako_seat.specs.declared.seat.Seat.{Seat}
use Rattle.mako_seat.specs.declared.seat.Seat.TheVariants.{Collector}
use Rattle.mako_sitting.specs.Seats.{CollectorSits, AllSit}
use Rattle.mako_sitting_collector.specs.CollectorSnaps.{storing, snapshot_taken}
use Rattle.mako_whole.specs.AllNotices.{StageKnows, NoticesStand, IsBesideNotices, StandsBeside, CollectorNotices}
use Rattle.mako_whole.specs.AllNotices.{HearingNotices, FinishNotices}
use Rattle.mako_whole.proofs.AllNotices.{same_collector, set_knows}

-- ---- the collector after a step that is none at its notices

module _ (n : Numbers) (words : List ℕ) where
  -- it has found no notice
  abbrev Finds : Collecting → Type 0
  Finds c = StageKnows n words c.kept c.stage

  idle_found : (k : Holdings) (stage : IdleStage) (x : ℕ) → Finds (idle_fed k stage x)
  idle_found k LoadingDemand x =
      either_way Finds (nat_lt k.cycle x) _ _ (λ e. tt) (λ e. tt)
  idle_found k LookingFinished x = either_way Finds (x == k.shape.mutators) _ _ (λ e. tt) (λ e. tt)
  idle_found k StoringStop x = tt

  forward_found : (k : Holdings) (names : List Name) → Finds (forward_from k names)
  forward_found k [] = tt
  forward_found k (x ∷ names) = tt

  paused_found : (k : Holdings) (pause : Pause) → Finds (paused k pause)
  paused_found k Snapshot = tt
  paused_found k Choice = tt

  pause_found : (k : Holdings) (stage : PauseStage) (x : ℕ) → Finds (pause_fed k stage x)
  pause_found k (Shutting pause m) x = either_way Finds (m + 1 == k.shape.mutators) _ _ (λ e. tt) (λ e. tt)
  pause_found k (Draining pause m) x =
      either_way Finds (nat_lt 0 (count_of x)) _ _ (λ e. tt)
      (λ e. either_way Finds (m + 1 == k.shape.mutators) _ _ (λ f. paused_found k pause) (λ f. tt))
  pause_found k (LoadingRoot m q) x = tt
  pause_found k StoringTrace x = tt
  pause_found k (Opening m) x =
      either_way Finds (m + 1 == k.shape.mutators) _ _ (λ e. forward_found k k.pending) (λ e. tt)

  forwards_found : (k : Holdings) (stage : ForwardStage) (x : ℕ) → Finds (forward_fed k stage x)
  forwards_found k (Looking name) x = either_way Finds (x == 0) _ _ (λ e. tt) (λ e. tt)
  forwards_found k (Storing name) x = forward_found _ _

  empty_found : (k : Holdings) (r : Option ℕ) → Finds (empty_from k r)
  empty_found k (Some r) = tt
  empty_found k None = tt

  barrier_found : (k : Holdings) (stage : BarrierStage) (x : ℕ) → Finds (barrier_fed k stage x)
  barrier_found k (Loading m) x =
      either_way Finds (x == 0) _ _
      (λ e. either_way Finds (m + 1 == k.shape.mutators) _ _ (λ f. empty_found k _) (λ f. tt)) (λ e. tt)
  barrier_found k (Clearing m name) x = tt

  polled_found : (k : Holdings) (stage : PollStage) → Finds (polled_at k stage)
  polled_found k (Asking r) = tt
  polled_found k (Reading r) = tt
  polled_found k (Polled (NotYet r x)) = tt
  polled_found k (Polled Told) = either_way Finds k.gates_shut _ _ (λ e. tt) (λ e. tt)

  gifts_found : (k : Holdings) (i : ℕ) → Finds (gifts_from k i)
  gifts_found k i =
      either_way Finds (nat_lt i (length k.chosen)) (at k (Choosing (LoadingHome i))) (at k (Choosing StoringEvac))
      (λ e. tt) (λ e. tt)

  gift_found : (k : Holdings) (i former : ℕ) (r : Option ℕ) → Finds (gift_of k i former r)
  gift_found k i former (Some r) = tt
  gift_found k i former None = tt

  choice_found : (k : Holdings) (stage : ChoiceStage) (x : ℕ) → Finds (choice_fed k stage x)
  choice_found k (LoadingLive r place) x = tt
  choice_found k (LoadingTop r place number) x =
      either_way Finds (place + 1 == k.shape.tablets) _ _
      (λ e. either_way Finds (r + 1 == k.shape.servers) _ _ (λ f. gifts_found _ 0) (λ f. tt)) (λ e. tt)
  choice_found k (LoadingHome i) x = gift_found k i x _
  choice_found k (StoringLeaving i gift) x = tt
  choice_found k (StoringHome i gift) x = tt
  choice_found k (StoringTop i) x = gifts_found k (i + 1)
  choice_found k StoringEvac x = tt
  choice_found k (Reopening m) x = either_way Finds (m + 1 == k.shape.mutators) _ _ (λ e. tt) (λ e. tt)

  stage_found : (k : Holdings) (stage : CollectStage) → IsBesideNotices stage → (x : ℕ) → Finds (stage_fed k stage x)
  stage_found k (Idle stage) is x = idle_found k stage x
  stage_found k (Pausing stage) is x = pause_found k stage x
  stage_found k (Forwarding stage) is x = forwards_found k stage x
  stage_found k (Barriers stage) is x = barrier_found k stage x
  stage_found k (Emptying r) is x = either_way Finds (x == 0) _ _ (λ e. empty_found _ _) (λ e. tt)
  stage_found k Polling is x = polled_found (record k { poll = polls.fed k.poll x }) (polls.fed k.poll x).stage
  stage_found k (Choosing stage) is x = choice_found k stage x
  stage_found k (Noticing stage) is x = absurd is
  stage_found k Ended is x = tt

-- ---- all seats

module _ (n : Numbers) (w : Facts) (s : JointScene) (seats : List Seat) (i : ℕ) (c : Collecting)
    (all : AllSit n w s seats) (here : slice_get seats i ≡ Some (Collector c)) where
  one : (j : ℕ) (d : Collecting) → slice_get seats j ≡ Some (Collector d) → j ≡ i
  one j d at =
      let theirs : CollectorSits n w s all.taker all.places j d = all.each j (Collector d) at in
      let ours : CollectorSits n w s all.taker all.places i c = all.each i (Collector c) here in
      theirs.number ∙ sym ours.number

  knows_then : (words : List ℕ) (next : Collecting) → StageKnows n words next.kept next.stage
      → (j : ℕ) (d : Collecting) → slice_get (set seats i (Collector next)) j ≡ Some (Collector d)
      → StageKnows n words d.kept d.stage
  knows_then words next knows =
      set_knows n words seats i (Collector next)
      (λ d is. subst (λ (q : Collecting). StageKnows n words q.kept q.stage) (same_collector next d is) knows)
      (λ j d apart at. absurd (apart (one j d at)))

  module _ (stand : NoticesStand n s seats) (is : IsBesideNotices c.stage) where
    finds_none : (words : List ℕ) → (j : ℕ) (d : Collecting)
        → slice_get (set seats i (Collector (collector_next c s.words))) j ≡ Some (Collector d)
        → StageKnows n words d.kept d.stage
    finds_none words =
        knows_then words (collector_next c s.words) (stage_found n words c.kept c.stage is _)

    finds_as : (words : List ℕ) (q : Collecting) → c ≡ q → (j : ℕ) (d : Collecting)
        → slice_get (set seats i (Collector (collector_next q s.words))) j ≡ Some (Collector d)
        → StageKnows n words d.kept d.stage
    finds_as words q e =
        subst (λ (x : Collecting). (j : ℕ) (d : Collecting)
        → slice_get (set seats i (Collector (collector_next x s.words))) j ≡ Some (Collector d)
        → StageKnows n words d.kept d.stage) e (finds_none words)

    beside : StandsBeside n s seats i c
    beside = record {
      steps = record { read = stand.read; knows = finds_none _ };
      polls = record { read = stand.read; knows = finds_none _ };
      chooses = λ k stage e given spare. record {
        read = stand.read;
        knows = finds_as (chosen n s k stage given spare).words (at k (Choosing stage)) e;
      };
      snaps = λ k e. record {
        read = λ server names low there. absurd (omega arith);
        knows = finds_as (snapshot_taken n s k).words (storing k) e;
      };
    }

pub collector_notices : CollectorNotices
collector_notices n w s seats i c all here is stand = beside n w s seats i c all here stand is

pub hearing_notices : HearingNotices
hearing_notices n w s seats i k stage all here stand h = record {
  read = h.read stand.read;
  knows = knows_then n w s seats i (noticing k stage) all here _ (noticing h.after h.to) h.knows;
}

pub finish_notices : FinishNotices
finish_notices n w s seats i k spare all here stand = record {
  read = stand.read;
  knows = knows_then n w s seats i _ all here _ _ tt;
}
