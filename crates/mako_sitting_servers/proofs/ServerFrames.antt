-- What a step of a server leaves of the scene.
use Rattle.std.proofs.Common.{◌≡◌, ℕ, Bool, false, List, ◌++◌, slice_get, Some, sym, ap, subst, refl, ◌∙◌}
use Rattle.mako_words.specs.declared.name.Name.{Name}
use Rattle.mako_words.specs.declared.phase_word.PhaseWord.{PhaseWord}
use Rattle.mako_words.specs.declared.phase_word.PhaseWord.TheVariants.{Idle, Trace, Evac, Stop}
use Rattle.mako_words.specs.Phases.{phase_at}
use Rattle.mako_shape.specs.declared.numbers.Numbers.{Numbers}
use Rattle.mako_shape.specs.Belongings.{server_of_entry}
use Rattle.mako_step.specs.Acts.{words_stepped, finds}
use Rattle.mako_step.specs.declared.step.Step.{Step}
use Rattle.mako_step.specs.declared.step.Step.TheVariants.{Do, Ended as NoStep}
use Rattle.mako_model.specs.Legal.{Facts}
use Rattle.mako_model.proofs.Lists.{get_set_other}
use Rattle.mako_names.specs.Tables.{phase_of}
use Rattle.mako_gate.specs.Standings.{shutter_at}
use Rattle.mako_ring.specs.Tracing as tracer
use Rattle.mako_ring.specs.Tracing.{TracerView}
use Rattle.mako_ring.specs.TraceFacets as trace
use Rattle.mako_ring.specs.TraceFacets.{InHand, Hand, empty}
use Rattle.mako_ring.specs.TracerFacets.{hand_of, work_of}
use Rattle.mako_phases.specs.Facets.{Part, idle, pausing, rooting, tracing, choosing, evacuating, stopped, phase_during}
use Rattle.mako_phases.specs.Facets.{IsRestful, serving}
use Rattle.mako_phases.proofs.Says.{part_phase}
use Rattle.mako_joint.specs.Joints.{JointScene, trace_in, TracksFit, Joint}
use Rattle.mako_evac.specs.Evacuating as evacuations
use Rattle.mako_evac.specs.Evacuating.{Evacuation}
use Rattle.mako_server.specs.declared.stage.ServerStage.{ServerStage}
use Rattle.mako_server.specs.declared.stage.ServerStage.TheVariants.{Turning, Tracing, Evacuating, Ended}
use Rattle.mako_server.specs.Serving.{Serving, next_of, fed, stage_fed, turned, traced, evacuated as evacuated_to}
use Rattle.mako_trace.proofs.SameServer.{begun_same, fed_same}
use Rattle.mako_tracing.specs.Laws.{words_next, server_next, scene_next, ServerStands}
use Rattle.mako_tracing.specs.ServerFacets.{tracer_laden, server_trace, server_gate, server_work, server_phase}
use Rattle.mako_tracing.specs.ServerFacets.{server_serving, IsServerSeat}
use Rattle.mako_tracing.proofs.Lists.{if_other}
use Rattle.mako_tracing.proofs.Resting.{unladen_rest}
use Rattle.mako_clearing.specs.ClearingFacets.{server_seat, clearing_phase, clearing_ended, clearing_gate}
use Rattle.mako_clearing.specs.ClearingFacets.{clearing_work, clearing_through, stage_sends}
use Rattle.mako_clearing.specs.Clearing.{evacuated}
use Rattle.mako_writes.specs.Writes.{HandIsOwn, ServerWrites, LeavesOthers}
use Rattle.mako_writes.proofs.Servers.{servers_write}
use Rattle.mako_sitting_servers.specs.ServerSteps.{LeavesSeats}

-- ---- its number stays

turned_same : (v : Serving) (p : PhaseWord) → (turned v p).tracer.server ≡ v.tracer.server
turned_same v (Idle c) = refl
turned_same v (Trace c) = (begun_same v.tracer c).server
turned_same v (Evac c) = refl
turned_same v (Stop c) = refl

traced_same : (v : Serving) (t : TracerView) (step : Step) → t.server ≡ v.tracer.server
    → (traced v t step).tracer.server ≡ v.tracer.server
traced_same v t (Do act) same = same
traced_same v t NoStep same = same

evacuated_same : (v : Serving) (e : Evacuation) (step : Step) → (evacuated_to v e step).tracer ≡ v.tracer
evacuated_same v e (Do act) = refl
evacuated_same v e NoStep = refl

pub number_stays : (v : Serving) (w : ℕ) → (fed v w).tracer.server ≡ v.tracer.server
number_stays v w = by v.stage
  where
    by : (stage : ServerStage) → (stage_fed v stage w).tracer.server ≡ v.tracer.server
    by Turning = turned_same v (phase_at w)
    by Tracing =
        traced_same v (tracer.fed v.tracer w) (tracer.next_of (tracer.fed v.tracer w)) (fed_same v.tracer w).server
    by (Evacuating e) =
        ap (λ (t : TracerView). t.server)
        (evacuated_same v (evacuations.fed e w) (evacuations.next_of (evacuations.fed e w)))
    by Ended = refl

-- ---- what it has in hand is its own

none_in_hand : (n : Numbers) (server : ℕ) (h : Hand) → h ≡ empty → (x : Name) → InHand h x
    → server_of_entry n x.entry ≡ server
none_in_hand n server h none x in_hand = absurd (subst (λ k. InHand k x) none in_hand)

module _ (n : Numbers) (w : Facts) (s : JointScene) (j : Joint n w s) (seat : ℕ) (t : TracerView)
    (here : slice_get s.facets.trace seat ≡ Some (trace.serving (work_of t))) where
  abbrev Own : Type 0
  Own = (x : Name) → InHand (hand_of t.stage) x → server_of_entry n x.entry ≡ t.server

  unladen : tracer_laden t ≡ false → Own
  unladen rests = none_in_hand n t.server (hand_of t.stage) (unladen_rest t rests).0.0

  in_trace : (p : PhaseWord) (c : ℕ) → p ≡ Trace c → TracksFit p n w (trace_in s) → Own
  in_trace p c is tracks =
      ((subst (λ k. TracksFit k n w (trace_in s)) is tracks).serving.each seat (trace.serving (work_of t)) here).own

  by_part : (part : Part) → phase_of n s.words ≡ phase_during part → (IsRestful part → tracer_laden t ≡ false) → Own
  by_part (tracing c) is rests = in_trace (phase_of n s.words) c is j.tracks
  by_part (idle c) is rests = unladen (rests tt)
  by_part (pausing c) is rests = unladen (rests tt)
  by_part (rooting c k) is rests = unladen (rests tt)
  by_part (choosing c left) is rests = unladen (rests tt)
  by_part (evacuating c k) is rests = unladen (rests tt)
  by_part (stopped c) is rests = unladen (rests tt)

pub hand_own : (n : Numbers) (w : Facts) (s : JointScene) (seat : ℕ) (v : Serving) → Joint n w s → IsServerSeat s seat v
    → v.tracer.shape ≡ n → HandIsOwn v
hand_own n w s seat v j here shape =
    let o = j.order in
    subst (λ (k : Numbers). (x : Name) → InHand (hand_of v.tracer.stage) x
    → server_of_entry k x.entry ≡ v.tracer.server) (sym shape)
    (by_part n w s j seat v.tracer here.trace o.part
    (part_phase n s.words s.facets.phases o o.seat o.part o.pending o.here)
    (o.each seat (server_phase v) here.phase).rests)

pub words_left : (n : Numbers) (w : Facts) (s : JointScene) (seat : ℕ) (v : Serving) → ServerStands n w s seat v
    → LeavesOthers n (ServerWrites n v.tracer.server) s.words (words_next v s.words)
words_left n w s seat v stands =
    let shape = stands.keeps.tracer.shape_is in
    subst (λ k. LeavesOthers k (ServerWrites k v.tracer.server) s.words (words_next v s.words)) shape
    (servers_write v s.words stands.keeps.known (hand_own n w s seat v stands.joint stands.here shape))

-- ---- the scenes

pub scene_leaves : (n : Numbers) (w : Facts) (s : JointScene) (seat : ℕ) (v : Serving) → ServerStands n w s seat v
    → LeavesSeats n s (scene_next s seat v) seat v.tracer.server
scene_leaves n w s seat v stands =
    let u = server_next v s.words in record {
      front = refl;
      trace = λ k d. get_set_other s.facets.trace seat k (server_trace u) d;
      gates = λ k d. get_set_other s.facets.gates seat k (server_gate seat u) d;
      works = λ k d. get_set_other s.facets.works seat k (server_work u) d;
      phases = λ k d. get_set_other s.facets.phases seat k (server_phase u) d;
      held = refl;
      trying = refl;
      left = refl;
      gathers = refl;
      choice = refl;
      rings = refl;
      servers = λ k d.
          if_other k u.tracer.server (server_serving u) (s.facets.servers k)
          (λ e. d (e ∙ number_stays v (finds (next_of v) s.words)));
      through = λ k d. refl;
      sent = λ k d. refl;
      words = words_left n w s seat v stands;
    }

pub evacuation_leaves : (n : Numbers) (s : JointScene) (seat : ℕ) (e : Evacuation) (ended : ℕ) (laden : Bool)
    (sent : List Name) → seat ≡ server_seat n e.owner.server
    → LeavesOthers n (ServerWrites n e.owner.server) s.words (words_stepped (evacuations.next_of e) s.words)
    → LeavesSeats n s (evacuated n s e ended laden sent) seat e.owner.server
evacuation_leaves n s seat e ended laden sent at words =
    let u = evacuations.fed e (finds (evacuations.next_of e) s.words) in
    let i = server_seat n e.owner.server in record {
      front = refl;
      trace = λ k d. refl;
      gates = λ k d. get_set_other s.facets.gates i k (shutter_at i (clearing_gate u)) (λ f. d (f ∙ sym at));
      works = λ k d. get_set_other s.facets.works i k (clearing_work u) (λ f. d (f ∙ sym at));
      phases = λ k d.
          get_set_other s.facets.phases i k
          (serving e.owner.server (clearing_phase u) (clearing_ended u ended) laden) (λ f. d (f ∙ sym at));
      held = refl;
      trying = refl;
      left = refl;
      gathers = refl;
      choice = refl;
      rings = refl;
      servers = λ k d. refl;
      through = λ k d. get_set_other s.facets.names.through e.owner.server k (clearing_through u) d;
      sent = λ k d. get_set_other s.facets.names.sent e.owner.server k (sent ++ stage_sends e.stage) d;
      words = words;
    }
