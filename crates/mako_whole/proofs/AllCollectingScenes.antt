-- The scene after each step of the collector.
use Rattle.std.proofs.Common.{◌≡◌, ℕ, List, [], replicate, slice_get, slice_set, Some, sym, ap, subst, refl}
use Rattle.mako_shape.specs.declared.numbers.Numbers.{Numbers}
use Rattle.mako_step.specs.Machines.{IsAct}
use Rattle.mako_model.specs.Legal.{Facts}
use Rattle.mako_ring.specs.TraceFacets as trace
use Rattle.mako_layout.specs.Facets.{Choice, Gift}
use Rattle.mako_layout.specs.StepParts.{collector_seat}
use Rattle.mako_model.specs.declared.event.Event.TheVariants.{Nothing}
use Rattle.mako_pause.specs.Collecting.{Collecting, Holdings, at, next_of, running, stage_event}
use Rattle.mako_pause.specs.declared.stage.IdleStage.{IdleStage}
use Rattle.mako_pause.specs.declared.stage.IdleStage.TheVariants.{LoadingDemand, LookingFinished, StoringStop}
use Rattle.mako_pause.specs.declared.stage.PauseStage.{PauseStage}
use Rattle.mako_pause.specs.declared.stage.PauseStage.TheVariants.{Shutting, Draining, LoadingRoot, StoringTrace}
use Rattle.mako_pause.specs.declared.stage.PauseStage.TheVariants.{Opening}
use Rattle.mako_pause.specs.declared.stage.ForwardStage.TheVariants.{Looking, Storing}
use Rattle.mako_pause.specs.declared.stage.BarrierStage.TheVariants.{Loading, Clearing}
use Rattle.mako_pause.specs.declared.stage.ChoiceStage.{ChoiceStage}
use Rattle.mako_pause.specs.declared.stage.ChoiceStage.TheVariants.{LoadingLive, LoadingTop, LoadingHome}
use Rattle.mako_pause.specs.declared.stage.ChoiceStage.TheVariants.{StoringLeaving, StoringHome, StoringTop}
use Rattle.mako_pause.specs.declared.stage.ChoiceStage.TheVariants.{StoringEvac, Opening as Reopening}
use Rattle.mako_pause.specs.declared.stage.NoticeStage.{NoticeStage}
use Rattle.mako_pause.specs.declared.stage.NoticeStage.TheVariants.{Looking as NoticeLook, Clearing as NoticeClear}
use Rattle.mako_pause.specs.declared.stage.NoticeStage.TheVariants.{StoringIdle}
use Rattle.mako_pause.specs.declared.stage.CollectStage.{CollectStage}
use Rattle.mako_pause.specs.declared.stage.CollectStage.TheVariants.{Idle, Pausing, Forwarding, Barriers, Emptying}
use Rattle.mako_pause.specs.declared.stage.CollectStage.TheVariants.{Polling, Choosing, Noticing, Ended}
use Rattle.mako_seat.specs.declared.seat.Seat.TheVariants.{Collector}
use Rattle.mako_state.specs.CoreStates.{CoreState, front_after}
use Rattle.mako_joint.specs.Joints.{JointScene}
use Rattle.mako_clearing.specs.Hearing.{notice_server, with_hearing, with_finish, words_next}
use Rattle.mako_collecting.specs.Choosing.{choice_next}
use Rattle.mako_collecting.specs.Facets.{names_of}
use Rattle.mako_collecting.specs.Roles.{ChoiceOf}
use Rattle.mako_collecting.specs.Steps as collecting
use Rattle.mako_collecting.specs.Steps.{stepped, polled, chosen, snapped, with_collector, collector_next, choice_begun}
use Rattle.mako_sitting.specs.Seats.{AllSit}
use Rattle.mako_whole.specs.AllRuns.{scene_in, SeatsSit, CollectorCame}
use Rattle.mako_sitting_collector.specs.CollectorChoices.{IsOfChoice}
use Rattle.mako_sitting_collector.specs.CollectorFinishes.{FinishesOn}
use Rattle.mako_sitting_collector.specs.CollectorGates.{IsGateStore}
use Rattle.mako_sitting_collector.specs.CollectorHears.{HearsOn}
use Rattle.mako_sitting_collector.specs.CollectorRounds.{IsRoundStore}
use Rattle.mako_sitting_collector.specs.CollectorSnaps.{SeatsAreAll, snapshot_taken, storing}
use Rattle.mako_sitting_collector.specs.CollectorSteps.{IsLook}
use Rattle.mako_whole.specs.AllCollecting.{FactsStand}
use Rattle.mako_whole.specs.AllCollectingScenes.{IsChosenScene, CameTo, CollectorsCome}
use Rattle.mako_whole.proofs.AllCollecting.{findings_fit}
use Rattle.mako_whole.proofs.AllRunsCollector.{traces_are}
use Rattle.mako_sitting_collector.proofs.CollectorChoices.{choices_keep_all}
use Rattle.mako_sitting_collector.proofs.CollectorEvac.{evac_keeps_all}
use Rattle.mako_sitting_collector.proofs.CollectorFacets.{steps_add_no_facet}
use Rattle.mako_sitting_collector.proofs.CollectorFinishes.{finish_keeps_all}
use Rattle.mako_sitting_collector.proofs.CollectorGates.{gates_keep_all, stops_keep_all}
use Rattle.mako_sitting_collector.proofs.CollectorHears.{hearing_keeps_all}
use Rattle.mako_sitting_collector.proofs.CollectorLooks.{looks_keep_all}
use Rattle.mako_sitting_collector.proofs.CollectorRounds.{round_stores_keep_all, polls_keep_all}
use Rattle.mako_sitting_collector.proofs.CollectorSnaps.{snapshots_keep_all}

-- the collector adds no facet behind those of the seats
no_more : (n : Numbers) (s : JointScene) (words : List ℕ) (choice : Choice) (c : Collecting) → SeatsAreAll n s
    → SeatsAreAll n (with_collector n s words choice c)
no_more n s words choice c only = (steps_add_no_facet n s (with_collector n s words choice c) only).traces
    (collector_seat n) (trace.collecting (names_of c)) refl refl

module _ (n : Numbers) (w : Facts) (st : CoreState) (sits : SeatsSit n w st) (facts : FactsStand n w st sits.facets)
    (i : ℕ) (k : Holdings) where
  abbrev s : JointScene
  s = scene_in st sits.facets

  abbrev At : CollectStage → Type 0
  At stage = slice_get st.seats i ≡ Some (Collector (at k stage))

  abbrev Came : CollectStage → Type 0
  Came stage = CameTo n w (scene_in st sits.facets) st.seats i k stage

  -- ---- steps that leave the choice and the front

  abbrev Stepped : CollectStage → Type 0
  Stepped stage =
      AllSit n w (stepped n s (at k stage)) (slice_set st.seats i (Collector (collector_next (at k stage) st.words)))

  steps_to : (stage : CollectStage) → Nothing ≡ stage_event k stage → Stepped stage
      → CollectorCame n w (scene_in st sits.facets) st.seats i (at k stage)
  steps_to stage tells all = record {
    after = stepped n s (at k stage);
    words = refl;
    front = ap (front_after st.front k.freed) tells;
    all = all;
    only = no_more n s (collecting.words_next (at k stage) st.words) sits.facets.choice
        (collector_next (at k stage) st.words) sits.only;
  }

  look : (stage : CollectStage) → IsLook stage → At stage → Stepped stage
  look stage is here =
      looks_keep_all n w s st.seats i k stage is sits.all here (findings_fit n w st i k stage sits facts here)

  store : (stage : CollectStage) → IsRoundStore stage → At stage → Stepped stage
  store stage is here =
      round_stores_keep_all n w s st.seats i k stage is sits.all here (findings_fit n w st i k stage sits facts here)

  gate : (stage : CollectStage) → IsGateStore stage → At stage → Stepped stage
  gate stage is here = gates_keep_all n w s st.seats i k stage is sits.all here

  idle_comes : (stage : IdleStage) → At (Idle stage) → Came (Idle stage)
  unfolding steps_to
  idle_comes LoadingDemand here =
      record { came = steps_to (Idle LoadingDemand) refl (look (Idle LoadingDemand) tt here); scene = refl }
  idle_comes LookingFinished here =
      record { came = steps_to (Idle LookingFinished) refl (look (Idle LookingFinished) tt here); scene = refl }
  idle_comes StoringStop here = record {
    came = steps_to (Idle StoringStop) refl (stops_keep_all n w s st.seats i k sits.all here);
    scene = refl;
  }

  pause_comes : (stage : PauseStage) → At (Pausing stage) → Came (Pausing stage)
  unfolding steps_to
  pause_comes (Shutting pause m) here =
      let stage : CollectStage = Pausing (Shutting pause m) in
      record { came = steps_to stage refl (gate stage tt here); scene = refl }
  pause_comes (Draining pause m) here =
      let stage : CollectStage = Pausing (Draining pause m) in
      record { came = steps_to stage refl (look stage tt here); scene = refl }
  pause_comes (LoadingRoot m q) here =
      let stage : CollectStage = Pausing (LoadingRoot m q) in
      record { came = steps_to stage refl (look stage tt here); scene = refl }
  pause_comes StoringTrace here =
      let snap = snapped s (running k) (replicate n.servers 0) (replicate n.servers []) in
      record {
        came = record {
          after = snapshot_taken n s k;
          words = refl;
          front = refl;
          all = snapshots_keep_all n w s st.seats i k sits.only sits.all here;
          only = no_more n snap (collecting.words_next (storing k) st.words) sits.facets.choice
              (collector_next (storing k) st.words) ((steps_add_no_facet n s snap sits.only).same refl refl);
        };
        scene = refl;
      }
  pause_comes (Opening m) here =
      let stage : CollectStage = Pausing (Opening m) in
      record { came = steps_to stage refl (gate stage tt here); scene = refl }

  -- ---- the poll and the choice

  poll_comes : At Polling → Came Polling
  poll_comes here = record {
    came = record {
      after = polled n s (at k Polling);
      words = refl;
      front = refl;
      all = polls_keep_all n w s st.seats i k sits.all here (findings_fit n w st i k Polling sits facts here);
      only = no_more n s (collecting.words_next (at k Polling) st.words)
          (choice_begun (collector_next (at k Polling) st.words).stage sits.facets.choice)
          (collector_next (at k Polling) st.words) sits.only;
    };
    scene = refl;
  }

  abbrev Given : ChoiceStage → Type 0
  Given stage =
      (given : List Gift) × (spare : List ℕ) × ChoiceOf n st.words sits.facets.choice k (Choosing stage) given spare

  abbrev Chosen : ChoiceStage → Type 0
  Chosen stage =
      (came : CollectorCame n w (scene_in st sits.facets) st.seats i (at k (Choosing stage)))
      × IsChosenScene n (scene_in st sits.facets) k stage came.after

  chosen_by : (stage : ChoiceStage) → (c : Given stage) → AllSit n w (chosen n s k stage c.0 c.1)
      (slice_set st.seats i (Collector (collector_next (at k (Choosing stage)) st.words))) → Chosen stage
  chosen_by stage c all = (
    record {
      after = chosen n s k stage c.0 c.1;
      words = refl;
      front = refl;
      all = all;
      only = no_more n s (collecting.words_next (at k (Choosing stage)) st.words) (choice_next k stage c.0 c.1)
          (collector_next (at k (Choosing stage)) st.words) sits.only;
    },
    record { given = c.0; spare = c.1; choice = c.2; is = refl },
  )

  choose : (stage : ChoiceStage) → IsOfChoice stage → At (Choosing stage) → Given stage → Chosen stage
  choose stage is here c = chosen_by stage c
      (choices_keep_all n w s st.seats i k stage is sits.all here
      (findings_fit n w st i k (Choosing stage) sits facts here) (facts.spares i k stage here) c.0 c.1 c.2)

  evac : At (Choosing StoringEvac) → Given StoringEvac → Chosen StoringEvac
  evac here c = chosen_by StoringEvac c
      (evac_keeps_all n w s st.seats i k sits.all here
      (traces_are n w st i (at k (Choosing StoringEvac)) sits here) c.0 c.1 c.2)

  given_at : (stage : ChoiceStage) → At (Choosing stage) → Given stage
  given_at stage here = (sits.all.each i (Collector (at k (Choosing stage))) here).choice

  choice_comes : (stage : ChoiceStage) → At (Choosing stage) → Came (Choosing stage)
  unfolding steps_to
  choice_comes (LoadingLive r place) here =
      let c = choose (LoadingLive r place) tt here (given_at (LoadingLive r place) here) in
      record { came = c.0; scene = c.1 }
  choice_comes (LoadingTop r place words) here =
      let c = choose (LoadingTop r place words) tt here (given_at (LoadingTop r place words) here) in
      record { came = c.0; scene = c.1 }
  choice_comes (LoadingHome j) here =
      let c = choose (LoadingHome j) tt here (given_at (LoadingHome j) here) in record { came = c.0; scene = c.1 }
  choice_comes (StoringLeaving j gift) here =
      let c = choose (StoringLeaving j gift) tt here (given_at (StoringLeaving j gift) here) in
      record { came = c.0; scene = c.1 }
  choice_comes (StoringHome j gift) here =
      let c = choose (StoringHome j gift) tt here (given_at (StoringHome j gift) here) in
      record { came = c.0; scene = c.1 }
  choice_comes (StoringTop j) here =
      let c = choose (StoringTop j) tt here (given_at (StoringTop j) here) in record { came = c.0; scene = c.1 }
  choice_comes StoringEvac here =
      let c = evac here (given_at StoringEvac here) in record { came = c.0; scene = c.1 }
  choice_comes (Reopening m) here =
      let stage : CollectStage = Choosing (Reopening m) in
      record { came = steps_to stage refl (gate stage tt here); scene = refl }

  -- ---- notices

  heard : (stage : NoticeStage) → Nothing ≡ stage_event k (Noticing stage)
      → HearsOn n w (scene_in st sits.facets) st.seats i k stage
      → CollectorCame n w (scene_in st sits.facets) st.seats i (at k (Noticing stage))
  heard stage tells on =
      let after = with_hearing n s (words_next k stage st.words) on.after on.to (notice_server n stage) on.left in
      record {
        after = after;
        words = refl;
        front = ap (front_after st.front k.freed) tells;
        all = subst (λ (c : Collecting). AllSit n w after (slice_set st.seats i (Collector c))) (sym on.is) on.all;
        only = (steps_add_no_facet n s after sits.only).same refl refl;
      }

  finished_then : FinishesOn n w (scene_in st sits.facets) st.seats i k
      → CollectorCame n w (scene_in st sits.facets) st.seats i (at k (Noticing StoringIdle))
  finished_then on =
      let after = with_finish n s (words_next k StoringIdle st.words) k on.spare s.facets.names.collector in
      record {
        after = after;
        words = refl;
        front = refl;
        all = on.all;
        only = (steps_add_no_facet n s after sits.only).same refl refl;
      }

  notice_comes : (stage : NoticeStage) → At (Noticing stage) → Came (Noticing stage)
  unfolding heard finished_then
  notice_comes (NoticeLook r) here =
      let on = hearing_keeps_all n w s st.seats i k (NoticeLook r) tt sits.all here tt in
      record { came = heard (NoticeLook r) refl on; scene = record { on = on; is = refl } }
  notice_comes (NoticeClear r told) here =
      let on = hearing_keeps_all n w s st.seats i k (NoticeClear r told) tt sits.all here
      (facts.notices i k (NoticeClear r told) here) in
      record { came = heard (NoticeClear r told) refl on; scene = record { on = on; is = refl } }
  notice_comes StoringIdle here =
      let on = finish_keeps_all n w s st.seats i k sits.all here facts.read (facts.next i k StoringIdle here) in
      record { came = finished_then on; scene = record { on = on; is = refl } }

  pub comes : (stage : CollectStage) → At stage → IsAct (next_of (at k stage)) → Came stage
  unfolding steps_to
  comes (Idle stage) here acts = idle_comes stage here
  comes (Pausing stage) here acts = pause_comes stage here
  comes (Forwarding (Looking x)) here acts =
      let stage : CollectStage = Forwarding (Looking x) in
      record { came = steps_to stage refl (look stage tt here); scene = refl }
  comes (Forwarding (Storing x)) here acts =
      let stage : CollectStage = Forwarding (Storing x) in
      record { came = steps_to stage refl (store stage tt here); scene = refl }
  comes (Barriers (Loading m)) here acts =
      let stage : CollectStage = Barriers (Loading m) in
      record { came = steps_to stage refl (look stage tt here); scene = refl }
  comes (Barriers (Clearing m x)) here acts =
      let stage : CollectStage = Barriers (Clearing m x) in
      record { came = steps_to stage refl (store stage tt here); scene = refl }
  comes (Emptying r) here acts =
      record { came = steps_to (Emptying r) refl (look (Emptying r) tt here); scene = refl }
  comes Polling here acts = poll_comes here
  comes (Choosing stage) here acts = choice_comes stage here
  comes (Noticing stage) here acts = notice_comes stage here
  comes Ended here acts = absurd acts

pub collectors_come : CollectorsCome
collectors_come n w st i k stage sits facts here acts = comes n w st sits facts i k stage here acts
