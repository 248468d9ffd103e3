-- Each step of a server's evacuation keeps all seats; and so each step of a server.
use Rattle.std.proofs.Common.{◌≡◌, ℕ, ◌+◌, ◌<◌, ◌≤◌, ◌⊎◌, Bool, List, ◌++◌, [], map, set, slice_get, Some, sym, ap}
use Rattle.std.proofs.Common.{subst, refl, ◌∙◌}
use Rattle.mako_words.specs.declared.name.Name.{Name}
use Rattle.mako_words.specs.declared.phase_word.PhaseWord.{PhaseWord}
use Rattle.mako_words.specs.declared.phase_word.PhaseWord.TheVariants.{Trace, Evac}
use Rattle.mako_shape.specs.declared.numbers.Numbers.{Numbers}
use Rattle.mako_shape.specs.Places.{live, work, ghost}
use Rattle.mako_step.specs.Acts.{words_stepped, finds}
use Rattle.mako_step.specs.Machines.{IsAct, CanStep}
use Rattle.mako_step.specs.declared.step.Step.{Step}
use Rattle.mako_step.specs.declared.step.Step.TheVariants.{Do, Ended as NoStep}
use Rattle.mako_model.specs.declared.point.Point.{Point}
use Rattle.mako_model.specs.Legal.{Facts, state_of}
use Rattle.mako_names.specs.Tables.{phase_of}
use Rattle.mako_names.proofs.Going.{get_map as get_mapped}
use Rattle.mako_gate.specs.Standings.{shutter_at}
use Rattle.mako_ring.specs.TraceFacets as trace
use Rattle.mako_ring.specs.TracerFacets.{work_of, serving_of}
use Rattle.mako_ring.specs.TracerFacts.{TracerStands}
use Rattle.mako_ring.specs.Tracing as tracer
use Rattle.mako_ring.specs.Tracing.{TracerView}
use Rattle.mako_phases.specs.Facets as order
use Rattle.mako_phases.specs.Facets.{Part, choosing, collecting, PhaseFacet, mutating, serving, IsRestful, phase_during}
use Rattle.mako_phases.specs.Facets.{role_of}
use Rattle.mako_phases.specs.Lives.{counting}
use Rattle.mako_phases.proofs.LiveLaws.{past_stays}
use Rattle.mako_phases.proofs.Says.{part_phase}
use Rattle.mako_joint.specs.Joints.{JointScene}
use Rattle.mako_evac.specs.declared.stage.EvacStage.{EvacStage}
use Rattle.mako_evac.specs.Evacuating as evacuations
use Rattle.mako_evac.specs.Evacuating.{Evacuation}
use Rattle.mako_server.specs.declared.stage.ServerStage.{ServerStage}
use Rattle.mako_server.specs.declared.stage.ServerStage.TheVariants.{Turning, Tracing, Evacuating, Ended}
use Rattle.mako_server.specs.Serving.{Serving, IsKnown, StageIsKnown, StageFits, EvacuationIsKnown, next_of, Fits}
use Rattle.mako_server.specs.Serving.{stage_next, stage_fed, evacuated as evacuated_to}
use Rattle.mako_pause.specs.Collecting.{Collecting, running}
use Rattle.mako_seat.specs.declared.seat.Seat.{Seat}
use Rattle.mako_seat.specs.declared.seat.Seat.TheVariants.{Server}
use Rattle.mako_tracing.specs.Laws.{server_next, ServerStands}
use Rattle.mako_tracing.specs.ServerFacets.{IsServerSeat, tracer_owed, server_live, tracer_laden}
use Rattle.mako_tracing.specs.ServerKeeps.{StageIsFree, SlotsBelong, IsNameFor}
use Rattle.mako_tracing.specs.ServerLives.{IsMeasured}
use Rattle.mako_tracing.proofs.Acts.{tracing_can_go, turns_can_go}
use Rattle.mako_clearing.specs.ClearingFacets.{server_seat, clearing_gate, clearing_phase, clearing_ended}
use Rattle.mako_clearing.specs.ClearingFacets.{clearing_work}
use Rattle.mako_clearing.specs.Clearing.{ClearingGoesOn, evacuated}
use Rattle.mako_writes.specs.Writes.{LeavesOthers, ServerWrites}
use Rattle.mako_sitting.specs.Seats.{StageSits, ServerSits, LivesFit, live_facet, AllSit}
use Rattle.mako_sitting_servers.specs.ServerSteps.{LeavesSeats, stage_after, ServerGoesOn, ServersKeepAll}
use Rattle.mako_sitting_servers.proofs.ServerAll.{all_after}
use Rattle.mako_sitting_servers.proofs.ServerClears.{clearing_goes, phase_there, EvacFacets, evac_facets, clear_sits}
use Rattle.mako_sitting_servers.proofs.ServerCounts.{low_counts}
use Rattle.mako_sitting_servers.proofs.ServerFindings.{LeavesUsed}
use Rattle.mako_sitting_servers.proofs.ServerFrames.{evacuation_leaves, words_left}
use Rattle.mako_writes.proofs.Servers.{ClearingWrites, evacuates}
use Rattle.mako_writes.proofs.Touching.{weaker}
use Rattle.mako_sitting_servers.proofs.ServerReaders.{readers_match}
use Rattle.mako_clearing.specs.ClearingFacets.{stage_sends}
use Rattle.mako_phases.specs.Lives.{LiveFacet, ArePast}
use Rattle.mako_tracing.proofs.Lists.{set_back}
use Rattle.mako_sitting_servers.proofs.ServerBeside.{phase_left}
use Rattle.mako_sitting_servers.proofs.ServerSteps.{findings, turning, tracing}

-- the words that are none of its to write
clearing_words : (n : Numbers) (e : Evacuation) (words : List ℕ) → evacuations.IsKnown e → e.owner.shape ≡ n
    → LeavesOthers n (ClearingWrites e.at e.stage) words (words_stepped (evacuations.next_of e) words)
clearing_words n e words known shape =
    subst (λ k. LeavesOthers k (ClearingWrites e.at e.stage) words (words_stepped (evacuations.next_of e) words)) shape
    ((weaker (ClearingWrites e.at e.stage) (evacuates e.owner known.owner e.at known.at e.stage known.stage)
    (λ p both. both.1)).rest words)

slots_left : (n : Numbers) (at : ℕ) (stage : EvacStage) (words after : List ℕ)
    → LeavesOthers n (ClearingWrites at stage) words after → SlotsBelong n words → SlotsBelong n after
slots_left n at stage words after l slots = record {
  works = λ r k within. subst (λ x. (x ≡ 0) ⊎ IsNameFor n r x) (sym (l (work r k) within (λ x. x)))
      (slots.works r k within);
  ghosts = λ b r k within.
      subst (λ x. (x ≡ 0) ⊎ IsNameFor n r x) (sym (l (ghost b r k) within (λ x. x))) (slots.ghosts b r k within);
}

-- the machine after it is known
known_then : (v : Serving) (e : Evacuation) (step : Step) → evacuations.next_of e ≡ step → IsKnown v
    → tracer.next_of v.tracer ≡ NoStep → evacuations.IsKnown e → e.owner.shape ≡ v.tracer.shape
    → e.owner.server ≡ v.tracer.server → IsKnown (evacuated_to v e step)
known_then v e (Do act) is known rests of shape server = record {
  tracer = known.tracer;
  notice_at = known.notice_at;
  ended = known.ended;
  stage = (rests, record { known = of; shape = shape; server = server; acts = subst IsAct (sym is) tt });
}
known_then v e NoStep is known rests of shape server = record {
  tracer = known.tracer;
  notice_at = subst (λ (n : Numbers). e.at < n.ring) shape of.at;
  ended = subst (λ (n : Numbers). e.owner.cycle ≤ n.cycles) shape of.owner.cycle;
  stage = rests;
}

past_in : (n : Numbers) (w : Facts) (words : List ℕ) (history : List Point) (lives : List LiveFacet) (c : ℕ)
    → (p : PhaseWord) → p ≡ Evac c → LivesFit p n w words history lives → ArePast n words lives c
past_in n w words history lives c p is fit = subst (λ q. LivesFit q n w words history lives) is fit

module _ (n : Numbers) (w : Facts) (s : JointScene) (seats : List Seat) (a : AllSit n w s seats) (i : ℕ) (v : Serving)
    (at : slice_get seats i ≡ Some (Server v)) (e : Evacuation) (is : v.stage ≡ Evacuating e) where
  abbrev mine : ServerSits n w s (a.taker v.tracer.server) i v
  mine = a.each i (Server v) at

  abbrev taker : ℕ
  taker = a.taker v.tracer.server

  abbrev laden : Bool
  laden = tracer_laden v.tracer

  known : (tracer.next_of v.tracer ≡ NoStep) × EvacuationIsKnown v.tracer e
  known = subst (StageIsKnown v.tracer) is mine.keeps.known.stage

  pub clears : StageSits n w s taker v (Evacuating e)
  clears = subst (StageSits n w s taker v) is mine.stage

  pub sent : List Name
  sent = clears.0

  goes : ClearingGoesOn n w s e v.ended laden taker clears.0
  goes =
      clearing_goes n w s e v.ended laden taker clears.0 a.joint (readers_match n w s seats a (Server v)) a.few clears.1
      known.1.acts

  pub can : CanStep (next_of v) s.words (Fits v)
  can = subst (λ x. CanStep (stage_next v.tracer x) s.words (StageFits v.tracer x)) (sym is) goes.can

  abbrev after : JointScene
  after = evacuated n s e v.ended laden clears.0

  abbrev next : Evacuation
  next = evacuations.fed e (finds (evacuations.next_of e) s.words)

  abbrev turned : Serving
  turned = evacuated_to v next (evacuations.next_of next)

  server : e.owner.server ≡ v.tracer.server
  server = known.1.server

  seat_is : i ≡ server_seat n e.owner.server
  seat_is = mine.number ∙ ap (λ k. n.mutators + k) (sym server)

  us : LeavesOthers n (ClearingWrites e.at e.stage) s.words after.words
  us = clearing_words n e s.words known.1.known clears.1.shape

  others : LeavesSeats n s after i v.tracer.server
  others =
      subst (λ k. LeavesSeats n s after i k) server
      (evacuation_leaves n s i e v.ended laden clears.0 seat_is
      (subst (λ k. LeavesOthers n (ServerWrites n k) s.words (words_stepped (evacuations.next_of e) s.words))
      (sym server)
      (subst (λ x. LeavesOthers n (ServerWrites n v.tracer.server) s.words
      (words_stepped (stage_next v.tracer x) s.words)) is
      (words_left n w s i v (record { joint = a.joint; slots = a.slots; here = mine.here; keeps = mine.keeps })))))

  there : phase_of n s.words ≡ Evac e.owner.cycle
  there = phase_there n w s e v.ended laden a.joint clears.1.facets known.1.acts

  same_phase : phase_of n after.words ≡ phase_of n s.words
  same_phase = phase_left n s after i v.tracer.server others

  facets : EvacFacets v i next turned
  facets = evac_facets v i next (evacuations.next_of next) refl goes.stands.known

  facets_here : IsServerSeat after i turned
  facets_here = record {
    trace = mine.here.trace ∙ ap (λ (t : TracerView). Some (trace.serving (work_of t))) (sym facets.tracer);
    gate = subst (λ k. slice_get after.facets.gates k ≡ Some (shutter_at k (clearing_gate next))) (sym seat_is)
        goes.stands.facets.gate ∙ ap (λ g. Some g) facets.gate;
    work = subst (λ k. slice_get after.facets.works k ≡ Some (clearing_work next)) (sym seat_is)
        goes.stands.facets.work ∙ ap (λ g. Some g) facets.work;
    phase = subst (λ k. slice_get after.facets.phases k
        ≡ Some (order.serving v.tracer.server (clearing_phase next) (clearing_ended next v.ended) laden)) (sym seat_is)
        (goes.stands.facets.phase
        ∙ ap (λ k. Some (order.serving k (clearing_phase next) (clearing_ended next v.ended) laden)) server)
        ∙ ap (λ g. Some g) facets.phase;
    serving = subst (λ (t : TracerView). s.facets.servers t.server ≡ serving_of t) (sym facets.tracer)
        mine.here.serving;
  }

  sits : ServerSits n w after (a.taker turned.tracer.server) i turned
  sits = record {
    number = mine.number ∙ ap (λ (t : TracerView). n.mutators + t.server) (sym facets.tracer);
    in_range = subst (λ (t : TracerView). t.server < n.servers) (sym facets.tracer) mine.in_range;
    here = facets_here;
    keeps = record {
      known = known_then v next (evacuations.next_of next) refl mine.keeps.known known.0 goes.stands.known
          known.1.shape server;
      tracer = subst (λ (t : TracerView). TracerStands n t.server t) (sym facets.tracer) mine.keeps.tracer;
      scan = subst (λ (t : TracerView). StageIsFree t t.stage) (sym facets.tracer) mine.keeps.scan;
    };
    stage = subst (λ (t : TracerView). StageSits n w after (a.taker t.server) turned turned.stage) (sym facets.tracer)
        (clear_sits n w after v next (evacuations.next_of next) taker (clears.0 ++ stage_sends e.stage) refl
        goes.stands server (same_phase ∙ there));
    measured = subst (λ (t : TracerView). IsMeasured (state_of w s.front.history) t.stage) (sym facets.tracer)
        mine.measured;
  }

  -- the collector chooses nothing then
  no_choice : (c : Collecting) → a.joint.order.part ≡ choosing (running c.kept) [] → LeavesUsed n s.words after.words
  no_choice c chooses =
      let o = a.joint.order in
      let traced : phase_of n s.words ≡ Trace (running c.kept) =
      part_phase n s.words s.facets.phases o o.seat o.part o.pending o.here ∙ ap phase_during chooses in
      let both : Evac e.owner.cycle ≡ Trace (running c.kept) = sym there ∙ traced in
      absurd (let b : ⊥ = cc in b)

  lives_then : LivesFit (phase_of n after.words) n w after.words after.front.history
      (set (map live_facet seats) i (server_live turned))
  lives_then =
      let past = past_in n w s.words s.front.history (map live_facet seats) e.owner.cycle (phase_of n s.words) there
      a.lives in
      let same : set (map live_facet seats) i (server_live turned) ≡ map live_facet seats =
      set_back (map live_facet seats) i (server_live turned)
      (get_mapped live_facet seats i (Server v) at
      ∙ ap (λ (t : TracerView). Some (counting t.server t.cycle t.lives (tracer_owed t.stage))) (sym facets.tracer)) in
      subst (λ p. LivesFit p n w after.words s.front.history (set (map live_facet seats) i (server_live turned)))
      (sym (same_phase ∙ there))
      (subst (λ l. ArePast n after.words l e.owner.cycle) (sym same)
      (past_stays n s.words after.words (map live_facet seats) e.owner.cycle past
      (λ t within. us (live t) within (λ x. x))))

  next_is : server_next v s.words ≡ turned
  next_is = ap (λ x. stage_fed v x (finds (stage_next v.tracer x) s.words)) is

  pub evacuating : AllSit n w after (set seats i (Server (server_next v s.words)))
  evacuating =
      subst (λ x. AllSit n w after (set seats i (Server x))) (sym next_is)
      (all_after n w s after seats i v turned a at others goes.joint
      (slots_left n e.at e.stage s.words after.words us a.slots) sits
      (findings n w s seats a after no_choice) lives_then)

-- ---- each step

pub servers_keep_all : ServersKeepAll
servers_keep_all n w s seats i v a at acts = by v.stage refl
  where
    mine : ServerSits n w s (a.taker v.tracer.server) i v
    mine = a.each i (Server v) at

    st : ServerStands n w s i v
    st = record { joint = a.joint; slots = a.slots; here = mine.here; keeps = mine.keeps }

    told : (stage : ServerStage) → v.stage ≡ stage → CanStep (next_of v) s.words (Fits v) → (sent : List Name)
        → AllSit n w (stage_after n s i v sent stage) (set seats i (Server (server_next v s.words)))
        → ServerGoesOn n w s seats i v
    told stage is can sent all = record {
      can = can;
      sent = sent;
      all = subst (λ x. AllSit n w (stage_after n s i v sent x) (set seats i (Server (server_next v s.words))))
          (sym is) all;
    }

    by : (stage : ServerStage) → v.stage ≡ stage → ServerGoesOn n w s seats i v
    by Turning is =
        told Turning is (turns_can_go n w s i v st is) []
        (turning n w s seats a i v at is (subst (StageSits n w s (a.taker v.tracer.server) v) is mine.stage))
    by Tracing is =
        told Tracing is
        (tracing_can_go n w s i v st is a.few
        (low_counts n w s i v st (map live_facet seats) (get_mapped live_facet seats i (Server v) at)
        mine.measured a.few is a.lives)) []
        (tracing n w s seats a i v at is (subst (StageSits n w s (a.taker v.tracer.server) v) is mine.stage))
    by (Evacuating e) is =
        told (Evacuating e) is (can n w s seats a i v at e is) (clears n w s seats a i v at e is).0
        (evacuating n w s seats a i v at e is)
    by Ended is = absurd (subst (λ x. IsAct (stage_next v.tracer x)) is acts)
