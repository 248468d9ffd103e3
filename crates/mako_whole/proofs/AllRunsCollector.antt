-- The collector's steps of one state, from the laws of their stages.
use Rattle.std.proofs.Common.{◌≡◌, ℕ, ◌+◌, ⊎_elim, List, [], slice_get, replicate, Some, ap, refl, arith}
use Rattle.std.proofs.lemmas.Option.{slice_get_cases, slice_get_within}
use Rattle.mako_joint.specs.Joints.{JointScene}
use Rattle.mako_ring.specs.TraceFacets as trace
use Rattle.mako_layout.specs.StepParts.{collector_seat}
use Rattle.mako_collecting.specs.Choosing.{choice_next}
use Rattle.mako_collecting.specs.Facets.{names_of}
use Rattle.mako_sitting_collector.specs.CollectorSnaps.{SeatsAreAll, snapshot_taken, storing}
use Rattle.mako_sitting_collector.proofs.CollectorFacets.{steps_add_no_facet}
use Rattle.mako_sitting_collector.proofs.CollectorSnaps.{snapshots_keep_all}
use Rattle.mako_shape.specs.declared.numbers.Numbers.{Numbers}
use Rattle.mako_model.specs.Legal.{Facts}
use Rattle.mako_pause.specs.Collecting.{Collecting, Holdings, at, running, stage_event}
use Rattle.mako_pause.specs.declared.stage.IdleStage.TheVariants.{StoringStop}
use Rattle.mako_pause.specs.declared.stage.PauseStage.TheVariants.{Draining, LoadingRoot, Shutting, StoringTrace}
use Rattle.mako_pause.specs.declared.stage.PauseStage.TheVariants.{Opening}
use Rattle.mako_pause.specs.declared.stage.ChoiceStage.TheVariants.{StoringEvac}
use Rattle.mako_state.specs.CoreStates.{CoreState, front_after, step_of}
use Rattle.mako_sitting_collector.specs.CollectorSteps.{IsLook}
use Rattle.mako_sitting_collector.specs.CollectorRounds.{IsRoundStore}
use Rattle.mako_sitting_collector.specs.CollectorChoices.{TracesAreOfSeats}
use Rattle.mako_sitting_collector.specs.CollectorGates.{IsGateStore}
use Rattle.mako_model.specs.declared.event.Event.TheVariants.{Nothing}
use Rattle.mako_layout.specs.Facets.{Gift, Choice}
use Rattle.mako_pause.specs.declared.stage.CollectStage.{CollectStage}
use Rattle.mako_pause.specs.declared.stage.CollectStage.TheVariants.{Idle, Pausing, Forwarding, Barriers, Emptying}
use Rattle.mako_pause.specs.declared.stage.CollectStage.TheVariants.{Polling, Choosing, Noticing, Ended}
use Rattle.mako_seat.specs.declared.seat.Seat.TheVariants.{Collector}
use Rattle.mako_collecting.specs.Roles.{ChoiceOf}
use Rattle.mako_collecting.specs.Steps.{stepped, polled, chosen, snapped, with_collector, words_next, collector_next}
use Rattle.mako_collecting.specs.Steps.{choice_begun}
use Rattle.mako_whole.specs.AllRuns.{scene_in, SeatsSit, LookRuns, RoundStoreRuns, PollRuns, ChoiceRuns, GateRuns}
use Rattle.mako_whole.specs.AllRuns.{StopRuns, SnapshotRuns, EvacRuns}
use Rattle.mako_whole.proofs.AllRuns.{collectors_run}
use Rattle.mako_sitting_collector.proofs.CollectorChoices.{choices_keep_all}
use Rattle.mako_sitting_collector.proofs.CollectorEvac.{evac_keeps_all}
use Rattle.mako_sitting_collector.proofs.CollectorGates.{gates_keep_all, stops_keep_all}
use Rattle.mako_sitting_collector.proofs.CollectorLooks.{looks_keep_all}
use Rattle.mako_sitting_collector.proofs.CollectorRounds.{round_stores_keep_all, polls_keep_all}

-- ---- a look or a store into a ring tells nothing

look_tells : (k : Holdings) (stage : CollectStage) → IsLook stage → Nothing ≡ stage_event k stage
look_tells k (Idle stage) is = refl
look_tells k (Pausing (Shutting pause m)) is = absurd is
look_tells k (Pausing (Draining pause m)) is = refl
look_tells k (Pausing (LoadingRoot m q)) is = refl
look_tells k (Pausing StoringTrace) is = absurd is
look_tells k (Pausing (Opening m)) is = absurd is
look_tells k (Forwarding stage) is = refl
look_tells k (Barriers stage) is = refl
look_tells k (Emptying r) is = refl
look_tells k Polling is = absurd is
look_tells k (Choosing stage) is = refl
look_tells k (Noticing stage) is = absurd is
look_tells k Ended is = absurd is

store_tells : (k : Holdings) (stage : CollectStage) → IsRoundStore stage → Nothing ≡ stage_event k stage
store_tells k (Idle stage) is = absurd is
store_tells k (Pausing stage) is = absurd is
store_tells k (Forwarding stage) is = refl
store_tells k (Barriers stage) is = refl
store_tells k (Emptying r) is = absurd is
store_tells k Polling is = absurd is
store_tells k (Choosing stage) is = absurd is
store_tells k (Noticing stage) is = absurd is
store_tells k Ended is = absurd is

gate_tells : (k : Holdings) (stage : CollectStage) → IsGateStore stage → Nothing ≡ stage_event k stage
gate_tells k (Idle stage) is = refl
gate_tells k (Pausing (Shutting pause m)) is = refl
gate_tells k (Pausing (Draining pause m)) is = refl
gate_tells k (Pausing (LoadingRoot m q)) is = refl
gate_tells k (Pausing StoringTrace) is = absurd is
gate_tells k (Pausing (Opening m)) is = refl
gate_tells k (Forwarding stage) is = refl
gate_tells k (Barriers stage) is = refl
gate_tells k (Emptying r) is = refl
gate_tells k Polling is = refl
gate_tells k (Choosing stage) is = refl
gate_tells k (Noticing stage) is = absurd is
gate_tells k Ended is = refl

-- ---- steps

-- the collector adds no facet behind those of the seats
no_more : (n : Numbers) (s : JointScene) (words : List ℕ) (choice : Choice) (c : Collecting) → SeatsAreAll n s →
    SeatsAreAll n (with_collector n s words choice c)
no_more n s words choice c only = (steps_add_no_facet n s (with_collector n s words choice c) only).traces
    (collector_seat n) (trace.collecting (names_of c)) refl refl

module _ (n : Numbers) (st : CoreState) where
  abbrev words_at : Collecting → List ℕ
  words_at c = words_next c st.words

  abbrev next_at : Collecting → Collecting
  next_at c = collector_next c st.words

  no_more_then : (w : Facts) (sits : SeatsSit n w st) (choice : Choice) (c : Collecting) →
      SeatsAreAll n (with_collector n (scene_in st sits.facets) (words_at c) choice (next_at c))
  no_more_then w sits choice c = no_more n (scene_in st sits.facets) (words_at c) choice (next_at c) sits.only

pub looks_run : LookRuns
looks_run n w st i k stage is sits it = collectors_run n w st i (at k stage) sits it.here (record {
  after = stepped n (scene_in st sits.facets) (at k stage);
  words = refl;
  front = ap (front_after st.front k.freed) (look_tells k stage is);
  all = looks_keep_all n w (scene_in st sits.facets) st.seats i k stage is sits.all it.here it.fits;
  only = no_more_then n st w sits sits.facets.choice (at k stage);
})

pub round_stores_run : RoundStoreRuns
round_stores_run n w st i k stage is sits it = collectors_run n w st i (at k stage) sits it.here (record {
  after = stepped n (scene_in st sits.facets) (at k stage);
  words = refl;
  front = ap (front_after st.front k.freed) (store_tells k stage is);
  all = round_stores_keep_all n w (scene_in st sits.facets) st.seats i k stage is sits.all it.here it.fits;
  only = no_more_then n st w sits sits.facets.choice (at k stage);
})

pub polls_run : PollRuns
polls_run n w st i k sits it = collectors_run n w st i (at k Polling) sits it.here (record {
  after = polled n (scene_in st sits.facets) (at k Polling);
  words = refl;
  front = refl;
  all = polls_keep_all n w (scene_in st sits.facets) st.seats i k sits.all it.here it.fits;
  only = no_more_then n st w sits
      (choice_begun (collector_next (at k Polling) st.words).stage sits.facets.choice) (at k Polling);
})

pub choices_run : ChoiceRuns
choices_run n w st i k stage is spares sits it =
    goes (sits.all.each i (Collector (at k (Choosing stage))) it.here).choice
  where
    goes : ((given : List Gift) × (spare : List ℕ)
        × ChoiceOf n st.words sits.facets.choice k (Choosing stage) given spare) → SeatsSit n w (step_of st i)
    goes c = collectors_run n w st i (at k (Choosing stage)) sits it.here (record {
      after = chosen n (scene_in st sits.facets) k stage c.0 c.1;
      words = refl;
      front = refl;
      all = choices_keep_all n w (scene_in st sits.facets) st.seats i k stage is sits.all it.here it.fits spares c.0
          c.1 c.2;
      only = no_more_then n st w sits (choice_next k stage c.0 c.1) (at k (Choosing stage));
    })

pub gates_run : GateRuns
gates_run n w st i k stage is sits here = collectors_run n w st i (at k stage) sits here (record {
  after = stepped n (scene_in st sits.facets) (at k stage);
  words = refl;
  front = ap (front_after st.front k.freed) (gate_tells k stage is);
  all = gates_keep_all n w (scene_in st sits.facets) st.seats i k stage is sits.all here;
  only = no_more_then n st w sits sits.facets.choice (at k stage);
})

pub stops_run : StopRuns
stops_run n w st i k sits here = collectors_run n w st i (at k (Idle StoringStop)) sits here (record {
  after = stepped n (scene_in st sits.facets) (at k (Idle StoringStop));
  words = refl;
  front = refl;
  all = stops_keep_all n w (scene_in st sits.facets) st.seats i k sits.all here;
  only = no_more_then n st w sits sits.facets.choice (at k (Idle StoringStop));
})

pub snapshots_run : SnapshotRuns
snapshots_run n w st i k sits here =
    let s = scene_in st sits.facets in
    let snap = snapped s (running k) (replicate n.servers 0) (replicate n.servers []) in
    collectors_run n w st i (at k (Pausing StoringTrace)) sits here (record {
      after = snapshot_taken n s k;
      words = refl;
      front = refl;
      all = snapshots_keep_all n w s st.seats i k sits.only sits.all here;
      only = no_more n snap (words_next (storing k) st.words) sits.facets.choice (collector_next (storing k) st.words)
          ((steps_add_no_facet n s snap sits.only).same refl refl);
    })

-- as many facets of tracing as seats
pub traces_are : (n : Numbers) (w : Facts) (st : CoreState) (i : ℕ) (c : Collecting) (sits : SeatsSit n w st) →
    slice_get st.seats i ≡ Some (Collector c) → TracesAreOfSeats n (scene_in st sits.facets)
traces_are n w st i c sits here =
    let last = slice_get_within sits.facets.trace (n.mutators + n.servers) (trace.collecting (names_of c))
    (sits.all.each i (Collector c) here).here.trace in
    ⊎_elim (λ t. absurd (let low = sits.only.traces (n.mutators + n.servers + 1) t.0 t.2 in omega (arith, low)))
    (λ t. let most = t.0 in omega (arith, last, most))
    (slice_get_cases sits.facets.trace (n.mutators + n.servers + 1)).1

pub evacs_run : EvacRuns
evacs_run n w st i k sits here =
    goes (sits.all.each i (Collector (at k (Choosing StoringEvac))) here).choice
  where
    goes : ((given : List Gift) × (spare : List ℕ)
        × ChoiceOf n st.words sits.facets.choice k (Choosing StoringEvac) given spare) → SeatsSit n w (step_of st i)
    goes c = collectors_run n w st i (at k (Choosing StoringEvac)) sits here (record {
      after = chosen n (scene_in st sits.facets) k StoringEvac c.0 c.1;
      words = refl;
      front = refl;
      all = evac_keeps_all n w (scene_in st sits.facets) st.seats i k sits.all here
          (traces_are n w st i (at k (Choosing StoringEvac)) sits here) c.0 c.1 c.2;
      only = no_more_then n st w sits (choice_next k StoringEvac c.0 c.1) (at k (Choosing StoringEvac));
    })
