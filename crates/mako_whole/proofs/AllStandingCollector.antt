-- Each step of the collector keeps what stands of all seats, and what its steps ask besides.
use Rattle.std.proofs.Common.{◌≡◌, ℕ, ◌+◌, ⊎_elim, List, slice_get, slice_set, Some, sym, subst, ap, refl, arith}
use Rattle.std.proofs.lemmas.Option.{slice_get_cases, slice_get_within}
use Rattle.mako_shape.specs.declared.numbers.Numbers.{Numbers}
use Rattle.mako_step.specs.Acts.{finds, words_stepped}
use Rattle.mako_step.specs.Machines.{IsAct}
use Rattle.mako_step.specs.declared.step.Step.{Step}
use Rattle.mako_step.specs.declared.step.Step.TheVariants.{Do, Ended as NoStep}
use Rattle.mako_model.specs.Fronts.{Seen}
use Rattle.mako_model.specs.Legal.{Facts}
use Rattle.mako_model.specs.declared.event.Event.TheVariants.{Nothing}
use Rattle.mako_ring.specs.TraceFacets as trace
use Rattle.mako_layout.specs.Facets.{Gift}
use Rattle.mako_layout.specs.StepParts.{collector_seat}
use Rattle.mako_joint.specs.Joints.{JointScene}
use Rattle.mako_pause.specs.Collecting.{Collecting, Holdings, at, next_of, event_of, fed, stage_event, Fits}
use Rattle.mako_pause.specs.declared.stage.IdleStage.TheVariants.{LoadingDemand, LookingFinished, StoringStop}
use Rattle.mako_pause.specs.declared.stage.PauseStage.TheVariants.{Draining, LoadingRoot, Shutting, StoringTrace}
use Rattle.mako_pause.specs.declared.stage.PauseStage.TheVariants.{Opening}
use Rattle.mako_pause.specs.declared.stage.ForwardStage.TheVariants.{Looking, Storing}
use Rattle.mako_pause.specs.declared.stage.BarrierStage.TheVariants.{Loading, Clearing}
use Rattle.mako_pause.specs.declared.stage.ChoiceStage.{ChoiceStage}
use Rattle.mako_pause.specs.declared.stage.ChoiceStage.TheVariants.{LoadingLive, LoadingTop, LoadingHome}
use Rattle.mako_pause.specs.declared.stage.ChoiceStage.TheVariants.{StoringLeaving, StoringHome, StoringTop}
use Rattle.mako_pause.specs.declared.stage.ChoiceStage.TheVariants.{StoringEvac, Opening as Reopening}
use Rattle.mako_pause.specs.declared.stage.NoticeStage.{NoticeStage}
use Rattle.mako_pause.specs.declared.stage.NoticeStage.TheVariants.{Looking as NoticeLook, Clearing as NoticeClear}
use Rattle.mako_pause.specs.declared.stage.NoticeStage.TheVariants.{StoringIdle}
use Rattle.mako_pause.specs.declared.stage.CollectStage.{CollectStage}
use Rattle.mako_pause.specs.declared.stage.CollectStage.TheVariants.{Idle, Pausing, Forwarding, Barriers, Emptying}
use Rattle.mako_pause.specs.declared.stage.CollectStage.TheVariants.{Polling, Choosing, Noticing, Ended}
use Rattle.mako_seat.specs.declared.seat.Seat.{Seat}
use Rattle.mako_seat.specs.declared.seat.Seat.TheVariants.{Collector}
use Rattle.mako_state.specs.CoreStates.{CoreState, front_after, made, stepped_by, step_of}
use Rattle.mako_clearing.specs.Hearing.{notice_server, with_hearing, with_finish, noticing, IsReading}
use Rattle.mako_clearing.specs.Hearing as hearing
use Rattle.mako_collecting.specs.Facets.{names_of}
use Rattle.mako_collecting.specs.Roles.{ChoiceOf}
use Rattle.mako_collecting.specs.Steps.{stepped, polled, chosen, collector_next}
use Rattle.mako_sitting.specs.Seats.{AllSit}
use Rattle.mako_whole.specs.AllRuns.{scene_in, SeatsSit, CollectorCame}
use Rattle.mako_whole.specs.AllCollecting.{FactsStand}
use Rattle.mako_whole.specs.AllGifts.{GiftsAreNext, GivesNone}
use Rattle.mako_whole.specs.AllNotices.{NoticesStand, StageKnows, StandsBeside, IsBesideNotices}
use Rattle.mako_whole.specs.AllStanding.{SeatsStand, CollectorStands}
use Rattle.mako_sitting_collector.specs.CollectorChoices.{IsOfChoice, TracesAreOfSeats}
use Rattle.mako_sitting_collector.specs.CollectorFinishes.{FinishesOn}
use Rattle.mako_sitting_collector.specs.CollectorGates.{IsGateStore}
use Rattle.mako_sitting_collector.specs.CollectorHears.{HearsOn}
use Rattle.mako_sitting_collector.specs.CollectorRounds.{IsRoundStore}
use Rattle.mako_sitting_collector.specs.CollectorSnaps.{snapshot_taken, storing}
use Rattle.mako_sitting_collector.specs.CollectorSteps.{IsLook}
use Rattle.mako_whole.proofs.AllBarriers.{collectors_hold_barriers}
use Rattle.mako_whole.proofs.AllCollecting.{findings_fit}
use Rattle.mako_whole.proofs.AllGiftsSeats.{notices_find_gifts, steps_keep_gifts, snapshots_keep_gifts}
use Rattle.mako_whole.proofs.AllGiftsSeats.{polls_keep_gifts, choices_keep_gifts, hearing_keeps_gifts}
use Rattle.mako_whole.proofs.AllGiftsSeats.{finish_keeps_gifts}
use Rattle.mako_whole.proofs.AllHoused.{collectors_stay_housed, all_housed_have_spares}
use Rattle.mako_whole.proofs.AllNoticesCollector.{collector_notices, hearing_notices, finish_notices}
use Rattle.mako_sitting_collector.proofs.CollectorChoices.{choices_keep_all}
use Rattle.mako_sitting_collector.proofs.CollectorEvac.{evac_keeps_all}
use Rattle.mako_sitting_collector.proofs.CollectorFacets.{steps_add_no_facet}
use Rattle.mako_sitting_collector.proofs.CollectorFinishes.{finish_keeps_all}
use Rattle.mako_sitting_collector.proofs.CollectorGates.{gates_keep_all, stops_keep_all}
use Rattle.mako_sitting_collector.proofs.CollectorHears.{hearing_keeps_all}
use Rattle.mako_sitting_collector.proofs.CollectorLooks.{looks_keep_all}
use Rattle.mako_sitting_collector.proofs.CollectorRounds.{round_stores_keep_all, polls_keep_all}
use Rattle.mako_sitting_collector.proofs.CollectorSnaps.{snapshots_keep_all}

-- ---- a step

-- in the scene after its step all seats sit, and what stands of notices and of gifts does
record CollectorStood (n : Numbers) (w : Facts) (s : JointScene) (seats : List Seat) (i : ℕ) (c : Collecting) :
    Type 0 where
  came : CollectorCame n w s seats i c
  notices : NoticesStand n came.after (slice_set seats i (Collector (collector_next c s.words)))
  gifts : GiftsAreNext n came.after (slice_set seats i (Collector (collector_next c s.words)))

module _ (n : Numbers) (w : Facts) (st : CoreState) (stand : SeatsStand n w st) where
  abbrev s : JointScene
  s = scene_in st stand.facets

  abbrev pub sits : SeatsSit n w st
  sits = record { facets = stand.facets; all = stand.all; only = stand.behind }

  -- all that its steps ask
  pub facts : FactsStand n w st stand.facets
  facts = record {
    barriers = stand.barriers;
    notices = λ i k stage here. stand.notices.knows i (noticing k stage) here;
    read = stand.notices.read;
    next = λ i k stage here. notices_find_gifts n w s st.seats i k stage stand.gifts here;
    spares = λ i k stage here. all_housed_have_spares n st.words st.seats i k stage stand.housed here;
  }

  module _ (i : ℕ) (c : Collecting) (here : slice_get st.seats i ≡ Some (Collector c)) where
    fits : Fits c (finds (next_of c) st.words)
    fits = findings_fit n w st i c.kept c.stage sits facts here

    abbrev next_seats : List Seat
    next_seats = slice_set st.seats i (Collector (collector_next c st.words))

    abbrev went : Step → CoreState
    went next = record {
      words = words_stepped next st.words;
      seats = slice_set st.seats i (Collector (fed c (finds next st.words)));
      front = front_after st.front c.kept.freed (event_of c (finds next st.words));
    }

    goes : CollectorStood n w s st.seats i c → SeatsStand n w (went (next_of c))
    goes x =
        let after = x.came.after in
        let front : Seen = (went (next_of c)).front in record {
          facets = after.facets;
          all = subst
              (λ (us : List ℕ). AllSit n w (record { words = us; front = front; facets = after.facets }) next_seats)
              x.came.words
              (subst
              (λ (f : Seen). AllSit n w (record { words = after.words; front = f; facets = after.facets }) next_seats)
              x.came.front x.came.all);
          behind = record { traces = x.came.only.traces; held = x.came.only.held };
          barriers = collectors_hold_barriers n w s (stepped n s c) st.seats i c stand.all here refl stand.barriers;
          notices = record {
            read = x.notices.read;
            knows = subst (λ (us : List ℕ). (j : ℕ) (d : Collecting) → slice_get next_seats j ≡ Some (Collector d)
                → StageKnows n us d.kept d.stage) x.came.words x.notices.knows;
          };
          housed = collectors_stay_housed n w s st.seats i c stand.all here fits stand.housed;
          gifts = x.gifts;
        }

    -- at its end it changes nothing
    stays_or_goes : (next : Step) → (IsAct next → SeatsStand n w (went next))
        → SeatsStand n w (made st i (Collector c) next)
    stays_or_goes (Do act) then = then tt
    stays_or_goes NoStep then = stand

    stands_if : (IsAct (next_of c) → CollectorStood n w s st.seats i c) → SeatsStand n w (step_of st i)
    stands_if stood =
        subst (λ o. SeatsStand n w (stepped_by st i o)) (sym here)
        (stays_or_goes (next_of c) (λ acts. goes (stood acts)))

-- ---- each stage

module _ (n : Numbers) (w : Facts) (st : CoreState) (stand : SeatsStand n w st) (i : ℕ) (k : Holdings) where
  abbrev t : JointScene
  t = scene_in st stand.facets

  abbrev At : CollectStage → Type 0
  At stage = slice_get st.seats i ≡ Some (Collector (at k stage))

  abbrev Stands : Type 0
  Stands = SeatsStand n w (step_of st i)

  abbrev next_at : CollectStage → List Seat
  next_at stage = slice_set st.seats i (Collector (collector_next (at k stage) st.words))

  fits_at : (stage : CollectStage) → At stage → Fits (at k stage) (finds (next_of (at k stage)) st.words)
  fits_at stage here = fits n w st stand i (at k stage) here

  beside : (stage : CollectStage) → IsBesideNotices stage → At stage
      → StandsBeside n t st.seats i (at k stage)
  beside stage is here = collector_notices n w t st.seats i (at k stage) stand.all here is stand.notices

  -- with the scene of a step that leaves the choice
  steps_to : (stage : CollectStage) → IsBesideNotices stage → GivesNone stage → Nothing ≡ stage_event k stage
      → AllSit n w (stepped n t (at k stage)) (next_at stage) → At stage → Stands
  steps_to stage is none tells all here = stands_if n w st stand i (at k stage) here (λ acts. record {
    came = record {
      after = stepped n t (at k stage);
      words = refl;
      front = ap (front_after st.front k.freed) tells;
      all = all;
      only = (steps_add_no_facet n t (stepped n t (at k stage)) stand.behind).traces (collector_seat n)
          (trace.collecting (names_of (collector_next (at k stage) st.words))) refl refl;
    };
    notices = (beside stage is here).steps;
    gifts = steps_keep_gifts n t st.seats i k stage none stand.gifts here;
  })

  look : (stage : CollectStage) → IsLook stage → IsBesideNotices stage → GivesNone stage
      → Nothing ≡ stage_event k stage → At stage → Stands
  look stage is other none tells here = steps_to stage other none tells
      (looks_keep_all n w t st.seats i k stage is stand.all here (fits_at stage here)) here

  store : (stage : CollectStage) → IsRoundStore stage → IsBesideNotices stage → GivesNone stage
      → Nothing ≡ stage_event k stage → At stage → Stands
  store stage is other none tells here = steps_to stage other none tells
      (round_stores_keep_all n w t st.seats i k stage is stand.all here (fits_at stage here)) here

  gate : (stage : CollectStage) → IsGateStore stage → IsBesideNotices stage → GivesNone stage
      → Nothing ≡ stage_event k stage → At stage → Stands
  gate stage is other none tells here = steps_to stage other none tells
      (gates_keep_all n w t st.seats i k stage is stand.all here) here

  stop : At (Idle StoringStop) → Stands
  stop here = steps_to (Idle StoringStop) tt tt refl (stops_keep_all n w t st.seats i k stand.all here) here

  poll : At Polling → Stands
  poll here = stands_if n w st stand i (at k Polling) here (λ acts. record {
    came = record {
      after = polled n t (at k Polling);
      words = refl;
      front = refl;
      all = polls_keep_all n w t st.seats i k stand.all here (fits_at Polling here);
      only = (steps_add_no_facet n t (polled n t (at k Polling)) stand.behind).traces (collector_seat n)
          (trace.collecting (names_of (collector_next (at k Polling) st.words))) refl refl;
    };
    notices = (beside Polling tt here).polls;
    gifts = polls_keep_gifts n w t st.seats i k stand.all stand.gifts here;
  })

  snap : At (Pausing StoringTrace) → Stands
  snap here = stands_if n w st stand i (storing k) here (λ acts. record {
    came = record {
      after = snapshot_taken n t k;
      words = refl;
      front = refl;
      all = snapshots_keep_all n w t st.seats i k stand.behind stand.all here;
      only = (steps_add_no_facet n t (snapshot_taken n t k) stand.behind).traces (collector_seat n)
          (trace.collecting (names_of (collector_next (storing k) st.words))) refl refl;
    };
    notices = (beside (Pausing StoringTrace) tt here).snaps k refl;
    gifts = snapshots_keep_gifts n t st.seats i k stand.gifts here;
  })

  -- ---- the choice

  abbrev Chosen : ChoiceStage → Type 0
  Chosen stage = (given : List Gift) × (spare : List ℕ)
      × ChoiceOf n st.words stand.facets.choice k (Choosing stage) given spare

  chooses : (stage : ChoiceStage) (here : At (Choosing stage)) (c : Chosen stage)
      → AllSit n w (chosen n t k stage c.0 c.1) (next_at (Choosing stage)) → Stands
  chooses stage here c all = stands_if n w st stand i (at k (Choosing stage)) here (λ acts. record {
    came = record {
      after = chosen n t k stage c.0 c.1;
      words = refl;
      front = refl;
      all = all;
      only = (steps_add_no_facet n t (chosen n t k stage c.0 c.1) stand.behind).traces (collector_seat n)
          (trace.collecting (names_of (collector_next (at k (Choosing stage)) st.words))) refl refl;
    };
    notices = (beside (Choosing stage) tt here).chooses k stage refl c.0 c.1;
    gifts = choices_keep_gifts n w t st.seats i k stage c.0 c.1 stand.all stand.gifts here c.2;
  })

  choose : (stage : ChoiceStage) → IsOfChoice stage → At (Choosing stage) → Stands
  choose stage is here = by (stand.all.each i (Collector (at k (Choosing stage))) here).choice
    where
      by : Chosen stage → Stands
      by c = chooses stage here c
          (choices_keep_all n w t st.seats i k stage is stand.all here (fits_at (Choosing stage) here)
          (all_housed_have_spares n st.words st.seats i k stage stand.housed here) c.0 c.1 c.2)

  -- as many facets of tracing as seats
  traces_are : (stage : CollectStage) → At stage → TracesAreOfSeats n t
  traces_are stage here =
      let last = slice_get_within stand.facets.trace (n.mutators + n.servers) (trace.collecting (names_of (at k stage)))
      (stand.all.each i (Collector (at k stage)) here).here.trace in
      ⊎_elim
      (λ e. absurd (let low = stand.behind.traces (n.mutators + n.servers + 1) e.0 e.2 in omega (arith, low)))
      (λ e. let most = e.0 in omega (arith, last, most))
      (slice_get_cases stand.facets.trace (n.mutators + n.servers + 1)).1

  evac : At (Choosing StoringEvac) → Stands
  evac here = by (stand.all.each i (Collector (at k (Choosing StoringEvac))) here).choice
    where
      by : Chosen StoringEvac → Stands
      by c = chooses StoringEvac here c
          (evac_keeps_all n w t st.seats i k stand.all here (traces_are (Choosing StoringEvac) here) c.0 c.1 c.2)

  -- ---- its notices

  hear : (stage : NoticeStage) → IsReading stage → Nothing ≡ stage_event k (Noticing stage)
      → (here : At (Noticing stage)) → HearsOn n w t st.seats i k stage → Stands
  hear stage is tells here on =
      let words = hearing.words_next k stage st.words in
      let after = with_hearing n t words on.after on.to (notice_server n stage) on.left in
      stands_if n w st stand i (noticing k stage) here (λ acts. record {
        came = record {
          after = after;
          words = refl;
          front = ap (front_after st.front k.freed) tells;
          all = subst (λ (c : Collecting). AllSit n w after (slice_set st.seats i (Collector c))) (sym on.is) on.all;
          only = (steps_add_no_facet n t after stand.behind).same refl refl;
        };
        notices = subst (λ (c : Collecting). NoticesStand n after (slice_set st.seats i (Collector c))) (sym on.is)
            (hearing_notices n w t st.seats i k stage stand.all here stand.notices on);
        gifts = subst (λ (c : Collecting). GiftsAreNext n after (slice_set st.seats i (Collector c))) (sym on.is)
            (hearing_keeps_gifts n t st.seats i k on.after stage on.to words (notice_server n stage) on.left is
            stand.gifts here on.is);
      })

  finish : (here : At (Noticing StoringIdle)) → FinishesOn n w t st.seats i k → Stands
  finish here on =
      let words = hearing.words_next k StoringIdle st.words in
      let after = with_finish n t words k on.spare stand.facets.names.collector in
      stands_if n w st stand i (noticing k StoringIdle) here (λ acts. record {
        came = record {
          after = after;
          words = refl;
          front = refl;
          all = on.all;
          only = (steps_add_no_facet n t after stand.behind).same refl refl;
        };
        notices = finish_notices n w t st.seats i k on.spare stand.all here stand.notices;
        gifts = finish_keeps_gifts n w t st.seats i k words on.spare stand.facets.names.collector stand.all stand.gifts
            here;
      })

  notices_at : (stage : NoticeStage) → At (Noticing stage) → Stands
  notices_at (NoticeLook r) here = hear (NoticeLook r) tt refl here
      (hearing_keeps_all n w t st.seats i k (NoticeLook r) tt stand.all here tt)
  notices_at (NoticeClear r told) here = hear (NoticeClear r told) tt refl here
      (hearing_keeps_all n w t st.seats i k (NoticeClear r told) tt stand.all here
      (stand.notices.knows i (noticing k (NoticeClear r told)) here))
  notices_at StoringIdle here = finish here
      (finish_keeps_all n w t st.seats i k stand.all here stand.notices.read
      (notices_find_gifts n w t st.seats i k StoringIdle stand.gifts here))

  -- ---- all of them

  stands_at : (stage : CollectStage) → At stage → Stands
  stands_at (Idle LoadingDemand) = look (Idle LoadingDemand) tt tt tt refl
  stands_at (Idle LookingFinished) = look (Idle LookingFinished) tt tt tt refl
  stands_at (Idle StoringStop) = stop
  stands_at (Pausing (Shutting pause m)) = gate (Pausing (Shutting pause m)) tt tt tt refl
  stands_at (Pausing (Draining pause m)) = look (Pausing (Draining pause m)) tt tt tt refl
  stands_at (Pausing (LoadingRoot m q)) = look (Pausing (LoadingRoot m q)) tt tt tt refl
  stands_at (Pausing StoringTrace) = snap
  stands_at (Pausing (Opening m)) = gate (Pausing (Opening m)) tt tt tt refl
  stands_at (Forwarding (Looking x)) = look (Forwarding (Looking x)) tt tt tt refl
  stands_at (Forwarding (Storing x)) = store (Forwarding (Storing x)) tt tt tt refl
  stands_at (Barriers (Loading m)) = look (Barriers (Loading m)) tt tt tt refl
  stands_at (Barriers (Clearing m x)) = store (Barriers (Clearing m x)) tt tt tt refl
  stands_at (Emptying r) = look (Emptying r) tt tt tt refl
  stands_at Polling = poll
  stands_at (Choosing (LoadingLive r place)) = choose (LoadingLive r place) tt
  stands_at (Choosing (LoadingTop r place words)) = choose (LoadingTop r place words) tt
  stands_at (Choosing (LoadingHome at)) = choose (LoadingHome at) tt
  stands_at (Choosing (StoringLeaving at gift)) = choose (StoringLeaving at gift) tt
  stands_at (Choosing (StoringHome at gift)) = choose (StoringHome at gift) tt
  stands_at (Choosing (StoringTop at)) = choose (StoringTop at) tt
  stands_at (Choosing StoringEvac) = evac
  stands_at (Choosing (Reopening m)) = gate (Choosing (Reopening m)) tt tt tt refl
  stands_at (Noticing stage) = notices_at stage
  stands_at Ended = λ here. stands_if n w st stand i (at k Ended) here (λ acts. absurd acts)

pub collector_stands : CollectorStands
collector_stands n w st i c stand here = stands_at n w st stand i c.kept c.stage here
