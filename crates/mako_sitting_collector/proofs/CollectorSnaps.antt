-- The store of Trace, with the snapshot, keeps all seats.
use Rattle.std.proofs.Common.{◌≡◌, ◌≢◌, ℕ, zero, suc, ◌+◌, ◌<◌, ◌≤◌, inl, inr, true, false, List, [], ◌∷◌, ◌++◌, map}
use Rattle.std.proofs.Common.{replicate, set, slice_get, slice_set, Some, sym, ap, subst, refl, ◌∙◌, arith}
use Rattle.std.proofs.lemmas.Option.{same_Some, none-some}
use Rattle.std.proofs.lemmas.List.{length-replicate}
use Rattle.mako_words.specs.declared.phase_word.PhaseWord.TheVariants.{Idle as IdlePhase, Trace}
use Rattle.mako_words.specs.Phases.{phase_word}
use Rattle.mako_shape.specs.declared.numbers.Numbers.{Numbers}
use Rattle.mako_shape.specs.Limits.{IsShape}
use Rattle.mako_shape.specs.Places.{Place, phase, barrier, notice, index, Within, word_at}
use Rattle.mako_shape.proofs.PlaceLaws.{word_other}
use Rattle.mako_step.specs.Machines.{IsAct}
use Rattle.mako_model.specs.declared.point.Point.TheVariants.{Snap}
use Rattle.mako_model.specs.Heaps.{Heap, fields_of}
use Rattle.mako_model.specs.Legal.{Facts, state_of, IsLegal}
use Rattle.mako_model.proofs.Histories.{legal_at}
use Rattle.mako_model.proofs.Lists.{get_set_other, get_replicate_within}
use Rattle.mako_model.specs.Sizes.{ObjectsAreSmall}
use Rattle.mako_names.specs.Steps.{NoneIsFreed}
use Rattle.mako_names.specs.Tables.{phase_of}
use Rattle.mako_names.proofs.Words.{phase_stored}
use Rattle.mako_layout.specs.StepParts.{collector_seat}
use Rattle.mako_layout.proofs.Outside.{one_more}
use Rattle.mako_ring.specs.TraceFacets as trace
use Rattle.mako_phases.specs.Facets.{IsInPause}
use Rattle.mako_phases.specs.Lives.{AreCounted}
use Rattle.mako_phases.specs.Orders.{IsResting, ServerFits, BoundFits}
use Rattle.mako_phases.proofs.Parts.{cycles_fit}
use Rattle.mako_phases.proofs.Snapshots.{snapshots_one}
use Rattle.mako_joint.specs.Joints.{JointScene, Joint}
use Rattle.mako_joint.proofs.Pauses.{by_part}
use Rattle.mako_evac.specs.Evacuating.{Evacuation, slot_of, next_of as evac_next, stage_next as evac_stage_next}
use Rattle.mako_evac.specs.declared.stage.EvacStage.{EvacStage}
use Rattle.mako_evac.specs.declared.stage.EvacStage.TheVariants.{Evacuating as EvacTablet, Freeing, AwaitingEnd}
use Rattle.mako_evac.specs.declared.stage.EvacStage.TheVariants.{TellingEnd, Ended as EvacEnded}
use Rattle.mako_server.specs.Serving.{Serving, StageIsKnown}
use Rattle.mako_server.specs.declared.stage.ServerStage.{ServerStage}
use Rattle.mako_server.specs.declared.stage.ServerStage.TheVariants.{Turning, Tracing, Evacuating, Ended}
use Rattle.mako_pause.specs.Collecting.{Holdings, Collecting, at}
use Rattle.mako_pause.specs.declared.stage.PauseStage.TheVariants.{StoringTrace, Opening}
use Rattle.mako_pause.specs.declared.stage.CollectStage.TheVariants.{Pausing}
use Rattle.mako_seat.specs.declared.seat.Seat.{Seat}
use Rattle.mako_seat.specs.declared.seat.Seat.TheVariants.{Server, Collector}
use Rattle.mako_mutating.specs.Beside.{Snapped}
use Rattle.mako_tracing.specs.ServerFacets.{stage_order, server_phase}
use Rattle.mako_tracing.proofs.Belonging.{stores_leave_slots}
use Rattle.mako_tracing.proofs.Resting.{measured_stays}
use Rattle.mako_clearing.specs.ClearingFacets.{stage_phase}
use Rattle.mako_clearing.specs.Notices.{SendingStands}
use Rattle.mako_clearing.proofs.Rings.{sending_stays}
use Rattle.mako_collecting.specs.Facets.{part_of, names_of, phase_facet, gate_facet}
use Rattle.mako_collecting.specs.Laws.{Stands}
use Rattle.mako_collecting.specs.Steps.{collector_next, snapped}
use Rattle.mako_collecting.proofs.EachKept.{seats_stay, steps_keep_their_own}
use Rattle.mako_collecting.proofs.EachStage.{snapshots_keep}
use Rattle.mako_collecting.proofs.Findings.{snapshots_begin_counts}
use Rattle.mako_collecting.proofs.Idling.{phase_now}
use Rattle.mako_collecting.proofs.Known.{steps_keep_known}
use Rattle.mako_writes.specs.Writes.{CollectorWrites, LeavesOthers}
use Rattle.mako_writes.proofs.Collectors.{collectors_write}
use Rattle.mako_sitting.specs.Seats.{GoneOver, HeardIn, RestSits, StageSits, ServerSits, CollectorSits, LivesFit}
use Rattle.mako_sitting.specs.Seats.{live_facet, AllSit}
use Rattle.mako_sitting_collector.specs.CollectorLeaves.{CollectorLeaves}
use Rattle.mako_sitting_collector.specs.CollectorSnaps.{SeatsAreAll, TiesHoldAtSnapshots, storing, snapshot_taken}
use Rattle.mako_sitting_collector.specs.CollectorSnaps.{SnapshotsKeepGroups, SnapshotsKeepAll}
use Rattle.mako_sitting_collector.proofs.CollectorOthers.{servers_sit_by, all_sit}
use Rattle.mako_sitting_collector.proofs.CollectorTies.{traces_sole, traces_tied, nothing_held, roots_stand}

copies : {A : Type 0} (k i : ℕ) (u v : A) → slice_get (replicate k u) i ≡ Some v → v ≡ u
copies zero i u v at = absurd (none-some v at)
copies (suc k) zero u v at = sym (same_Some u v at)
copies (suc k) (suc i) u v at = copies k i u v at

none_freed : (n : Numbers) → NoneIsFreed n (replicate n.servers 0) (replicate n.servers [])
none_freed n = record {
  servers = length-replicate n.servers 0;
  senders = length-replicate n.servers [];
  start = λ s i at. copies n.servers s 0 i at;
  empty = λ s names at. copies n.servers s [] names at;
}

some_root : (n : Numbers) → IsShape n → 0 < n.roots
some_root n shape = let each = shape.in_range.each in omega (arith, each)

pub ties_hold : TiesHoldAtSnapshots
ties_hold n w s seats i k beside all here =
    record {
      sole = traces_sole n w s seats all beside;
      tied = traces_tied n w s seats all beside;
      roots = roots_stand n w s seats all i (storing k) here tt (some_root n all.joint.script.shape);
      rooted = λ seat names name at has.
          absurd (nothing_held n w s seats all i (storing k) here tt beside seat names name at has);
    }

pub groups_kept : SnapshotsKeepGroups
groups_kept n w s seats i k beside all here =
    let sits : CollectorSits n w s all.taker all.places i (storing k) = all.each i (Collector (storing k)) here in
    let ties = ties_hold n w s seats i k beside all here in
    snapshots_keep n w s all.places k
    (record { joint = all.joint; seat = sits.here; known = sits.known; keeps = sits.keeps }) ties.tied ties.sole
    ties.roots ties.rooted (replicate n.servers 0) (replicate n.servers []) (none_freed n)

-- ---- the other seats

false_true : false ≡ true → ⊥
false_true e = cc

-- a server that rests as the order of the phases reads it is not evacuating
still_clears : (cycle : ℕ) (e : Evacuation) (stage : EvacStage) → e.stage ≡ stage → IsAct (evac_next e)
    → ¬ IsResting (stage_phase cycle stage)
still_clears cycle e (EvacTablet t stage) is acts rests = rests
still_clears cycle e (Freeing x stage) is acts rests = rests
still_clears cycle e AwaitingEnd is acts rests = rests
still_clears cycle e TellingEnd is acts rests = rests
still_clears cycle e EvacEnded is acts rests = subst (λ x. IsAct (evac_stage_next e.owner (slot_of e) x)) is acts

module _ (w : Facts) (k : Holdings) (s : JointScene) (seats : List Seat) (i : ℕ) (beside : SeatsAreAll k.shape s)
    (all : AllSit k.shape w s seats) (here : slice_get seats i ≡ Some (Collector (storing k))) where
  abbrev n : Numbers
  n = k.shape

  abbrev c : Collecting
  c = storing k

  abbrev seat : ℕ
  seat = collector_seat n

  abbrev next : Collecting
  next = at k (Pausing (Opening 0))

  abbrev word : ℕ
  word = phase_word (Trace (k.cycle + 1))

  abbrev us : List ℕ
  us = set s.words (index n phase) word

  abbrev begun : JointScene
  begun = snapped s (k.cycle + 1) (replicate n.servers 0) (replicate n.servers [])

  abbrev after : JointScene
  after = snapshot_taken n s k

  sits : CollectorSits n w s all.taker all.places i c
  sits = all.each i (Collector c) here

  stands : Stands n w s all.places c
  stands = record { joint = all.joint; seat = sits.here; known = sits.known; keeps = sits.keeps }

  joint : Joint n w after
  joint = groups_kept n w s seats i k beside all here

  legal : IsLegal w (s.front.history ++ Snap (k.cycle + 1) ∷ [])
  legal = joint.names.hold.answers.lawful.legal

  idle_now : phase_of n s.words ≡ IdlePhase k.cycle
  idle_now = phase_now n w s all.joint c sits.here

  bound : k.cycle + 1 ≤ n.cycles
  bound =
      by_part n w s all.joint (λ p. BoundFits n p → k.cycle + 1 ≤ n.cycles) seat (part_of n c) (names_of c)
      sits.here.phase (λ b. b.0) all.joint.order.words_stand.bound

  traces_now : phase_of n us ≡ Trace (k.cycle + 1)
  traces_now =
      let a = bound in
      let b = cycles_fit n all.joint.script.shape in
      phase_stored n s.words (Trace (k.cycle + 1)) all.joint.names.hold.size (omega arith)

  stays : (p : Place) → Within n p → p ≢ phase → word_at n us p ≡ word_at n s.words p
  stays p within apart = word_other n s.words phase p word tt within apart

  rest : LeavesOthers n CollectorWrites s.words us
  rest = collectors_write c s.words sits.known sits.keeps.stage

  leaves : CollectorLeaves n w s all.joint after
  leaves = record {
    goes = λ m. Snapped (k.cycle + 1) (legal_at w s.front.history (Snap (k.cycle + 1)) [] legal);
    trace = λ x apart. get_set_other s.facets.trace seat x (trace.collecting (names_of next)) apart;
    gates = λ x apart. get_set_other s.facets.gates seat x (gate_facet n next) apart;
    works = λ x apart. refl;
    phases = λ x apart. get_set_other s.facets.phases seat x (phase_facet n next) apart;
    held = refl;
    trying = refl;
    left = refl;
    servers = refl;
    words = rest;
    barriers = λ m slot low small. inl (stays (barrier m slot) (low, small) (λ e. cc));
    cycle = inr (by_part n w s all.joint IsInPause seat (part_of n c) (names_of c) sits.here.phase tt);
  }

  module _ (j : ℕ) (v : Serving) (v_sits : ServerSits n w s (all.taker v.tracer.server) j v) where
    fits : ServerFits (part_of n c) v.tracer.server (stage_order v.tracer v.stage) v.ended
    fits =
        by_part n w s all.joint
        (λ p. ServerFits p v.tracer.server (stage_order v.tracer v.stage) v.ended
        → ServerFits (part_of n c) v.tracer.server (stage_order v.tracer v.stage) v.ended) seat (part_of n c)
        (names_of c) sits.here.phase (λ x. x)
        (all.joint.order.each j (server_phase v) v_sits.here.phase).fits

    low : v.tracer.server < n.servers
    low = v_sits.in_range

    -- it has nothing sent, and begins with what it frees
    rested : RestSits n s (all.taker v.tracer.server) v → RestSits n after (all.taker v.tracer.server) v
    rested r =
        let heard : (r.sent ≡ []) × (r.done ≡ false) = subst (λ p. HeardIn p r.sent r.done) idle_now r.heard in
        let ended = fits.1 in record {
          through = 0;
          through_is = get_replicate_within n.servers v.tracer.server 0 low;
          gone_over = subst (λ p. GoneOver n p v.ended 0) (sym traces_now)
              ((λ e. absurd (omega arith)), (λ e. refl));
          sent = [];
          done = false;
          sent_is = get_replicate_within n.servers v.tracer.server [] low;
          sending = sending_stays n s.words us v.tracer.server (all.taker v.tracer.server) v.notice_at [] [] false
              (λ slot small. stays (notice v.tracer.server slot) (low, small) (λ e. cc))
              (subst (λ b. SendingStands n s.words v.tracer.server (all.taker v.tracer.server) v.notice_at [] [] b)
              heard.1
              (subst (λ names. SendingStands n s.words v.tracer.server (all.taker v.tracer.server) v.notice_at names []
              r.done) heard.0 r.sending));
          ended = λ told. absurd (false_true told);
          heard = subst (λ p. HeardIn p [] false) (sym traces_now) tt;
        }

    staged : (stage : ServerStage) → v.stage ≡ stage → StageIsKnown v.tracer stage
        → IsResting (stage_order v.tracer stage) → StageSits n w s (all.taker v.tracer.server) v stage
        → StageSits n w after (all.taker v.tracer.server) v stage
    staged Turning is known rests r = rested r
    staged Tracing is known rests r = absurd rests
    staged (Evacuating e) is known rests r = absurd (still_clears e.owner.cycle e e.stage refl known.1.acts rests)
    staged Ended is known rests r = absurd rests

    server_sits : ServerSits n w after (all.taker v.tracer.server) j v
    server_sits =
        let number = v_sits.number in
        let small = low in
        servers_sit_by n w s all.joint after leaves (all.taker v.tracer.server) (all.taker v.tracer.server) j v
        (λ e. absurd (omega arith)) (staged v.stage refl v_sits.keeps.known.stage fits.0 v_sits.stage)
        (measured_stays w s.front.history (Snap (k.cycle + 1) ∷ []) legal v.tracer.stage v_sits.measured) v_sits

  -- ---- the collector
  own : CollectorSits n w after all.taker all.places i next
  own = record {
    number = sits.number;
    here = seats_stay n begun c next us s.facets.choice (record {
      shape = refl;
      trace = sits.here.trace;
      gate = sits.here.gate;
      work = sits.here.work;
      phase = sits.here.phase;
      rings = sits.here.rings;
    }) refl;
    known = steps_keep_known n w s all.places k (Pausing StoringTrace) tt stands tt;
    keeps = steps_keep_their_own n w s all.places k (Pausing StoringTrace) tt stands tt;
    takes = sits.takes;
    found = tt;
    choice = sits.choice;
    gathers = (sits.gathers, refl);
    lists = sits.lists;
    room = sits.room;
  }

  -- ---- all of them
  few : ObjectsAreSmall (state_of w after.front.history)
  few name fields are =
      all.few name fields
      (sym (ap (λ (h : Heap). fields_of h name) (one_more w s.front.history (Snap (k.cycle + 1)))) ∙ are)

  counted : LivesFit (phase_of n us) n w us after.front.history (map live_facet seats)
  counted =
      subst (λ p. LivesFit p n w us after.front.history (map live_facet seats)) (sym traces_now)
      (subst (λ before. AreCounted n w us (map live_facet seats) before (k.cycle + 1))
      (sym (snapshots_one w s.front.history [] (k.cycle + 1) legal))
      (snapshots_begin_counts n w s all.places k stands (map live_facet seats)
      (subst (λ p. LivesFit p n w s.words s.front.history (map live_facet seats)) idle_now all.lives)))

  kept_here : AllSit n w after (slice_set seats i (Collector next))
  kept_here =
      all_sit n w s seats i c next after all here leaves joint all.taker
      (λ j v is. server_sits j v (all.each j (Server v) is)) own
      (stores_leave_slots n s.words phase word all.joint.names.hold.size tt all.slots tt) few counted

pub snapshots_keep_all : SnapshotsKeepAll
snapshots_keep_all n w s seats i k beside all here =
    subst (λ m. SeatsAreAll m s → AllSit m w s seats
    → AllSit m w (snapshot_taken m s k) (slice_set seats i (Collector (collector_next (storing k) s.words))))
    (all.each i (Collector (storing k)) here).here.shape
    (λ x a. kept_here w k s seats i x a here) beside all
