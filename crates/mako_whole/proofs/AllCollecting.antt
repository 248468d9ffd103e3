-- The collector's steps over states: what it finds, and its notices with the store of Idle.
use Rattle.std.proofs.Common.{◌≡◌, ℕ, slice_get, slice_set, Some, sym, ap, subst, refl}
use Rattle.mako_shape.specs.declared.numbers.Numbers.{Numbers}
use Rattle.mako_step.specs.Acts.{finds}
use Rattle.mako_step.specs.Machines.{CanStep}
use Rattle.mako_model.specs.Legal.{Facts}
use Rattle.mako_model.specs.declared.event.Event.TheVariants.{Nothing}
use Rattle.mako_pause.specs.Collecting.{Collecting, Holdings, at, next_of, Fits, stage_event}
use Rattle.mako_poll.specs.Polls as polls
use Rattle.mako_poll.specs.declared.poller.PollStage.{PollStage}
use Rattle.mako_poll.specs.declared.poller.PollStage.TheVariants.{Asking, Reading, Ended as Polled}
use Rattle.mako_pause.specs.declared.stage.IdleStage.{IdleStage}
use Rattle.mako_pause.specs.declared.stage.IdleStage.TheVariants.{LoadingDemand, LookingFinished, StoringStop}
use Rattle.mako_pause.specs.declared.stage.PauseStage.{PauseStage}
use Rattle.mako_pause.specs.declared.stage.PauseStage.TheVariants.{Shutting, Draining, LoadingRoot, StoringTrace}
use Rattle.mako_pause.specs.declared.stage.PauseStage.TheVariants.{Opening}
use Rattle.mako_pause.specs.declared.stage.ChoiceStage.{ChoiceStage}
use Rattle.mako_pause.specs.declared.stage.ChoiceStage.TheVariants.{LoadingLive, LoadingTop, LoadingHome}
use Rattle.mako_pause.specs.declared.stage.ChoiceStage.TheVariants.{StoringLeaving, StoringHome, StoringTop}
use Rattle.mako_pause.specs.declared.stage.ChoiceStage.TheVariants.{StoringEvac, Opening as Reopening}
use Rattle.mako_pause.specs.declared.stage.BarrierStage.TheVariants.{Loading, Clearing}
use Rattle.mako_pause.specs.declared.stage.NoticeStage.{NoticeStage}
use Rattle.mako_pause.specs.declared.stage.NoticeStage.TheVariants.{Looking as NoticeLook, Clearing as NoticeClear}
use Rattle.mako_pause.specs.declared.stage.NoticeStage.TheVariants.{StoringIdle}
use Rattle.mako_pause.specs.declared.stage.CollectStage.{CollectStage}
use Rattle.mako_pause.specs.declared.stage.CollectStage.TheVariants.{Idle, Pausing, Forwarding, Barriers, Emptying}
use Rattle.mako_pause.specs.declared.stage.CollectStage.TheVariants.{Polling, Choosing, Noticing, Ended}
use Rattle.mako_seat.specs.declared.seat.Seat.TheVariants.{Collector}
use Rattle.mako_state.specs.CoreStates.{CoreState, front_after, step_of}
use Rattle.mako_clearing.specs.Hearing.{notice_server, with_hearing, with_finish, noticing, words_next, IsReading}
use Rattle.mako_sitting.specs.Seats.{AllSit}
use Rattle.mako_whole.specs.AllRuns.{scene_in, SeatsSit}
use Rattle.mako_sitting_collector.specs.CollectorGoing.{GoingNeeds}
use Rattle.mako_sitting_collector.specs.CollectorFinishes.{FinishesOn}
use Rattle.mako_sitting_collector.specs.CollectorHears.{HearsOn}
use Rattle.mako_whole.specs.AllCollecting.{FactsStand, FindingsFit, NoticeRuns}
use Rattle.mako_whole.proofs.AllRuns.{collectors_run}
use Rattle.mako_sitting_collector.proofs.CollectorFacets.{steps_add_no_facet}
use Rattle.mako_sitting_collector.proofs.CollectorFinishes.{finish_keeps_all}
use Rattle.mako_sitting_collector.proofs.CollectorGoing.{collectors_can_go}
use Rattle.mako_sitting_collector.proofs.CollectorGoingBarriers.{looks_find_names}
use Rattle.mako_sitting_collector.proofs.CollectorHears.{hearing_keeps_all}

-- ---- what it finds

module _ (n : Numbers) (w : Facts) (st : CoreState) (sits : SeatsSit n w st) (facts : FactsStand n w st sits.facets)
    (i : ℕ) (k : Holdings) where
  abbrev Here : CollectStage → Type 0
  Here stage = slice_get st.seats i ≡ Some (Collector (at k stage))

  needs : (stage : CollectStage) → Here stage → GoingNeeds n st.words k stage
  needs (Idle stage) here = tt
  needs (Pausing stage) here = tt
  needs (Forwarding stage) here = tt
  needs (Barriers (Loading m)) here =
      looks_find_names n w (scene_in st sits.facets) st.seats i k m sits.all here facts.barriers
  needs (Barriers (Clearing m x)) here = tt
  needs (Emptying r) here = tt
  needs Polling here = tt
  needs (Choosing stage) here = tt
  needs (Noticing stage) here = facts.notices i k stage here
  needs Ended here = tt

  abbrev Can : CollectStage → Type 0
  Can stage = CanStep (next_of (at k stage)) st.words (Fits (at k stage))

  abbrev FitsAt : CollectStage → Type 0
  FitsAt stage = Fits (at k stage) (finds (next_of (at k stage)) st.words)

  idle_fits : (stage : IdleStage) → Can (Idle stage) → FitsAt (Idle stage)
  idle_fits LoadingDemand can = can.2
  idle_fits LookingFinished can = can.2
  idle_fits StoringStop can = tt

  pause_fits : (stage : PauseStage) → Can (Pausing stage) → FitsAt (Pausing stage)
  pause_fits (Shutting pause m) can = tt
  pause_fits (Draining pause m) can = can.2
  pause_fits (LoadingRoot m q) can = can.2
  pause_fits StoringTrace can = tt
  pause_fits (Opening m) can = tt

  poll_fits : (stage : PollStage)
      → CanStep (polls.stage_next k.poll.shape stage) st.words (polls.StageFits stage)
      → polls.StageFits stage (finds (polls.stage_next k.poll.shape stage) st.words)
  poll_fits (Asking r) can = can.2
  poll_fits (Reading r) can = can.2
  poll_fits (Polled answer) can = tt

  choice_fits : (stage : ChoiceStage) → Can (Choosing stage) → FitsAt (Choosing stage)
  choice_fits (LoadingLive r place) can = can.2
  choice_fits (LoadingTop r place words) can = can.2
  choice_fits (LoadingHome j) can = can.2
  choice_fits (StoringLeaving j gift) can = tt
  choice_fits (StoringHome j gift) can = tt
  choice_fits (StoringTop j) can = tt
  choice_fits StoringEvac can = tt
  choice_fits (Reopening m) can = tt

  notice_fits : (stage : NoticeStage) → Can (Noticing stage) → FitsAt (Noticing stage)
  notice_fits (NoticeLook r) can = can.2
  notice_fits (NoticeClear r told) can = can.2
  notice_fits StoringIdle can = tt

  can_fits : (stage : CollectStage) → Can stage → FitsAt stage
  can_fits (Idle stage) can = idle_fits stage can
  can_fits (Pausing stage) can = pause_fits stage can
  can_fits (Forwarding stage) can = tt
  can_fits (Barriers (Loading m)) can = can.2
  can_fits (Barriers (Clearing m x)) can = tt
  can_fits (Emptying r) can = tt
  can_fits Polling can = poll_fits k.poll.stage can
  can_fits (Choosing stage) can = choice_fits stage can
  can_fits (Noticing stage) can = notice_fits stage can
  can_fits Ended can = tt

  pub can_at : (stage : CollectStage) → Here stage → Can stage
  can_at stage here =
      collectors_can_go n w (scene_in st sits.facets) st.seats i k stage sits.all here (needs stage here)

  pub fits_at : (stage : CollectStage) → Here stage → FitsAt stage
  fits_at stage here = can_fits stage (can_at stage here)

pub findings_fit : FindingsFit
findings_fit n w st i k stage sits facts here = fits_at n w st sits facts i k stage here

-- ---- its notices

notice_tells : (k : Holdings) (stage : NoticeStage) → IsReading stage → Nothing ≡ stage_event k (Noticing stage)
notice_tells k (NoticeLook r) is = refl
notice_tells k (NoticeClear r told) is = refl
notice_tells k StoringIdle is = absurd is

module _ (n : Numbers) (w : Facts) (st : CoreState) (i : ℕ) (k : Holdings) (sits : SeatsSit n w st) where
  heard : (stage : NoticeStage) → IsReading stage → slice_get st.seats i ≡ Some (Collector (noticing k stage))
      → HearsOn n w (scene_in st sits.facets) st.seats i k stage → SeatsSit n w (step_of st i)
  heard stage is here on =
      let s = scene_in st sits.facets in
      let after = with_hearing n s (words_next k stage st.words) on.after on.to (notice_server n stage) on.left in
      collectors_run n w st i (noticing k stage) sits here (record {
        after = after;
        words = refl;
        front = ap (front_after st.front k.freed) (notice_tells k stage is);
        all = subst (λ (c : Collecting). AllSit n w after (slice_set st.seats i (Collector c))) (sym on.is) on.all;
        only = (steps_add_no_facet n s after sits.only).same refl refl;
      })

  finished_then : slice_get st.seats i ≡ Some (Collector (noticing k StoringIdle))
      → FinishesOn n w (scene_in st sits.facets) st.seats i k → SeatsSit n w (step_of st i)
  finished_then here on =
      let s = scene_in st sits.facets in
      let after = with_finish n s (words_next k StoringIdle st.words) k on.spare s.facets.names.collector in
      collectors_run n w st i (noticing k StoringIdle) sits here (record {
        after = after;
        words = refl;
        front = refl;
        all = on.all;
        only = (steps_add_no_facet n s after sits.only).same refl refl;
      })

  noticed_at : FactsStand n w st sits.facets → (stage : NoticeStage)
      → slice_get st.seats i ≡ Some (Collector (noticing k stage)) → SeatsSit n w (step_of st i)
  noticed_at facts (NoticeLook r) here = heard (NoticeLook r) tt here
      (hearing_keeps_all n w (scene_in st sits.facets) st.seats i k (NoticeLook r) tt sits.all here tt)
  noticed_at facts (NoticeClear r told) here = heard (NoticeClear r told) tt here
      (hearing_keeps_all n w (scene_in st sits.facets) st.seats i k (NoticeClear r told) tt sits.all here
      (facts.notices i k (NoticeClear r told) here))
  noticed_at facts StoringIdle here = finished_then here
      (finish_keeps_all n w (scene_in st sits.facets) st.seats i k sits.all here facts.read
      (facts.next i k StoringIdle here))

pub notices_run : NoticeRuns
notices_run n w st i k stage sits facts here = noticed_at n w st i k sits facts stage here
