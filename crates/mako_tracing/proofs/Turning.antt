-- A server's turn on the phase keeps all groups, and what it keeps of itself.
use Rattle.std.proofs.Common.{◌≡◌, ℕ, ◌*◌, ◌<◌, ◌==◌, if◌then◌else◌, ⊎_elim, Bool, true, false, set, replicate, sym, ap}
use Rattle.std.proofs.Common.{subst, refl, ◌∙◌, arith}
use Rattle.std.proofs.lemmas.Bool.{cases_eq}
use Rattle.std.proofs.lemmas.Bool.Decides.{nat_tests}
use Rattle.std.proofs.lemmas.List.{set-get_or}
use Rattle.mako_words.specs.Phases.{phase_at}
use Rattle.mako_words.specs.declared.phase_word.PhaseWord.{PhaseWord}
use Rattle.mako_words.specs.declared.phase_word.PhaseWord.TheVariants.{Idle, Trace, Evac, Stop}
use Rattle.mako_shape.specs.declared.numbers.Numbers.{Numbers}
use Rattle.mako_shape.specs.Places.{phase, index, word_at}
use Rattle.mako_gate.specs.Standings.{rests, shutter_at}
use Rattle.mako_model.specs.Legal.{Facts}
use Rattle.mako_names.specs.Tables.{phase_of}
use Rattle.mako_ring.specs.Polling.{PollingStands}
use Rattle.mako_ring.specs.TraceFacets as trace
use Rattle.mako_ring.specs.TraceFacets.{Work}
use Rattle.mako_ring.specs.TracerFacets.{work_of, serving_of}
use Rattle.mako_ring.specs.TracerFacts.{TracerStands}
use Rattle.mako_ring.specs.Tracing.{TracerView, at_stage, begun}
use Rattle.mako_ring.specs.declared.tracing.TraceStage.TheVariants.{Ended as AtEnd}
use Rattle.mako_layout.specs.Facets.{idle}
use Rattle.mako_phases.specs.Facets as order
use Rattle.mako_phases.specs.Facets.{Part, PhaseFacet, serving, clearing, phase_during}
use Rattle.mako_phases.specs.Orders.{PhaseOrder}
use Rattle.mako_phases.specs.Steps as phases
use Rattle.mako_phases.specs.Steps.{stage_turned}
use Rattle.mako_phases.proofs.AllPhases.{phase_kept}
use Rattle.mako_phases.proofs.Parts.{tablets_some}
use Rattle.mako_poll.specs.Steps as kind
use Rattle.mako_poll.proofs.AllSteps.{steps_hold}
use Rattle.mako_poll.proofs.Acting.{untouched_same}
use Rattle.mako_poll.proofs.Parts.{next_work_facet}
use Rattle.mako_poll.proofs.Stages.{begins}
use Rattle.mako_joint.specs.Joints.{JointScene, polls_in, phases_in, TracksFit, IsClearing, Joint}
use Rattle.mako_joint.proofs.Pauses.{gates_drain}
use Rattle.mako_evac.specs.Evacuating as evacuating
use Rattle.mako_evac.specs.Evacuating.{Evacuation}
use Rattle.mako_trace.proofs.SameServer.{begun_same}
use Rattle.mako_server.specs.declared.stage.ServerStage.{ServerStage}
use Rattle.mako_server.specs.declared.stage.ServerStage.TheVariants.{Turning, Tracing, Evacuating, Ended}
use Rattle.mako_server.specs.Serving.{Serving, PhaseFits, owner_in, turned}
use Rattle.mako_server.proofs.Going.{known_fed}
use Rattle.mako_tracing.specs.Laws.{words_next, server_next, ServerStands, ServerGoes, TurnsGo}
use Rattle.mako_tracing.specs.ServerFacets.{servers_with, is_laden, tracer_laden, stage_order, stage_watch, stage_work}
use Rattle.mako_tracing.specs.ServerFacets.{with_server}
use Rattle.mako_tracing.specs.ServerKeeps.{SlotsBelong, StageIsFree}
use Rattle.mako_tracing.proofs.Leading.{rested_work, next_work_has, next_work_leads}
use Rattle.mako_tracing.proofs.Lists.{set_back, if_same, if_other}
use Rattle.mako_tracing.proofs.Scenes.{seated_after, scene_of, words_same, assembled}
use Rattle.mako_tracing.proofs.Phases.{at_end, phase_fits, phase_packed, not_clearing, begins_phase, begins_gate}
use Rattle.mako_tracing.proofs.Phases.{begins_work}

module _ (w : Facts) (s : JointScene) (seat : ℕ) (t : TracerView) (notice_at ended : ℕ) where
  abbrev n : Numbers
  n = t.shape

  abbrev with_stage : ServerStage → Serving
  with_stage stage = record { tracer = t; notice_at = notice_at; ended = ended; stage = stage }

  abbrev found : ℕ
  found = word_at n s.words phase

  module _ (stands : ServerStands t.shape w s seat (with_stage Turning)) where
    j : Joint n w s
    j = stands.joint

    none : ¬ IsClearing s.facets.phases seat
    none c = not_clearing t.server ended c.server c.cycle c.tablet c.ended c.at (tracer_laden t) c.laden
        (sym stands.here.phase ∙ c.is)

    order_turns : (p : PhaseWord) → phase_at found ≡ p
        → PhaseOrder n s.words (set s.facets.phases seat
        (serving t.server (stage_turned n t.server ended p) ended (tracer_laden t)))
    order_turns p is =
        subst (λ q. PhaseOrder n s.words (set s.facets.phases seat
        (serving t.server (stage_turned n t.server ended q) ended (tracer_laden t)))) is
        (phase_kept n (phases_in s) _ j.order (gates_drain n w s j)
        (phases.Turns seat t.server ended (tracer_laden t) stands.here.phase refl))

    servers_same : (k : ℕ) → (if k == t.server then serving_of t else s.facets.servers k) ≡ s.facets.servers k
    servers_same k = ⊎_elim
        (λ e. if_same k t.server (serving_of t) (s.facets.servers k) e
        ∙ sym (ap s.facets.servers e ∙ stands.here.serving))
        (λ d. if_other k t.server (serving_of t) (s.facets.servers k) d) (cases_eq k t.server)

    servers_back : servers_with s.facets.servers t.server (serving_of t) ≡ s.facets.servers
    servers_back = λ i k. servers_same k i

    tracks_back : TracksFit (phase_of n s.words) n w (record {
      words = s.words;
      facets = set s.facets.trace seat (trace.serving (work_of t));
      history = s.front.history;
    })
    tracks_back =
        subst (λ fs. TracksFit (phase_of n s.words) n w
        (record { words = s.words; facets = fs; history = s.front.history }))
        (sym (set_back s.facets.trace seat (trace.serving (work_of t)) stands.here.trace)) j.tracks

    -- the scene in which its tracing and its place in the order of phases are others is one of the server after it
    seated : (u : TracerView) → u.server ≡ t.server → (stage : order.ServerStage)
        (after : Serving) → after.tracer ≡ u → after.ended ≡ ended → stage_order after.tracer after.stage ≡ stage
        → stage_watch after.stage ≡ rests → stage_work after.stage ≡ idle
        → Joint n w (scene_of s seat s.words (work_of u) (serving t.server stage ended (tracer_laden u)) t.server
        (serving_of u))
        → Joint n w (with_server s seat after s.words)
    seated u server stage after tracer_is ended_is stage_is watch work j =
        let gates = sym (set_back s.facets.gates seat (shutter_at seat rests) stands.here.gate) in
        let works = sym (set_back s.facets.works seat idle stands.here.work) in
        let back = sym tracer_is in
        let server_back = sym server in
        let first : Joint n w (record {
          words = s.words;
          front = s.front;
          facets = record s.facets {
            trace = set s.facets.trace seat (trace.serving (work_of u));
            gates = set s.facets.gates seat (shutter_at seat rests);
            works = set s.facets.works seat idle;
            servers = servers_with s.facets.servers u.server (serving_of u);
            phases = set s.facets.phases seat (serving u.server stage ended (tracer_laden u));
          };
        }) = subst (Joint n w)
        (λ i. record {
          words = s.words;
          front = s.front;
          facets = record s.facets {
            trace = set s.facets.trace seat (trace.serving (work_of u));
            gates = gates i;
            works = works i;
            servers = servers_with s.facets.servers (server_back i) (serving_of u);
            phases = set s.facets.phases seat (serving (server_back i) stage ended (tracer_laden u));
          };
        }) j in
        subst (Joint n w)
        (λ i. record {
          words = s.words;
          front = s.front;
          facets = record s.facets {
            trace = set s.facets.trace seat (trace.serving (work_of (back i)));
            gates = set s.facets.gates seat (shutter_at seat (sym watch i));
            works = set s.facets.works seat (sym work i);
            servers = servers_with s.facets.servers (back i).server (serving_of (back i));
            phases = set s.facets.phases seat
                (serving (back i).server (sym stage_is i) (sym ended_is i) (tracer_laden (back i)));
          };
        }) first

    -- with its tracing as it was
    turned_to : (p : PhaseWord) → phase_at found ≡ p
        → Joint n w (scene_of s seat s.words (work_of t)
        (serving t.server (stage_turned n t.server ended p) ended (tracer_laden t)) t.server (serving_of t))
    turned_to p is =
        assembled n w s j seat s.words (work_of t) t.server ended t.server (stage_turned n t.server ended p)
        (tracer_laden t) (serving_of t) (words_same n w s j) tracks_back
        (subst (λ fs. PollingStands n (record {
          word = λ q. word_at n s.words q;
          server = fs;
          collector = s.facets.collector;
        })) (sym servers_back) j.polls)
        (order_turns p is) none

    -- ---- a turn of its tracing begins
    ended_stage : t.stage ≡ AtEnd
    ended_stage = at_end t t.stage stands.keeps.known.stage

    ended_tracer : t ≡ at_stage t AtEnd
    ended_tracer = λ i. record t { stage = ended_stage i }

    abbrev begun_from : ℕ → TracerView
    begun_from c = record t { cycle = c; lives = if c == t.cycle then t.lives else replicate n.tablets 0 }

    goes_on : (c : ℕ) → kind.ServerStep n (word_at n s.words) (word_at n s.words) t.server (serving_of t)
        (serving_of (begun t c)) × TracerStands n t.server (begun t c)
    goes_on c =
        subst (λ (u : TracerView). kind.ServerStep n (word_at n s.words) (word_at n s.words) t.server (serving_of u)
        (serving_of (begun u c)) × TracerStands n t.server (begun u c)) (sym ended_tracer)
        (begins t.server t s.words s.words c
        (subst (λ (u : TracerView). TracerStands n t.server u) ended_tracer stands.keeps.tracer)
        (untouched_same n s.words s.words refl))

    laden_begun : (c : ℕ) → tracer_laden (begun t c) ≡ tracer_laden t
    laden_begun c =
        ap is_laden (next_work_facet (begun_from c)) ∙ ap tracer_laden (sym ended_tracer)

    job_is : (c : ℕ) → rested_work (begun_from c) ≡ work_of t
    job_is c = ap work_of (sym ended_tracer)

    begun_joint : (c : ℕ) → phase_at found ≡ Trace c
        → Joint n w (scene_of s seat s.words (work_of (begun t c))
        (serving t.server (order.working c) ended (tracer_laden (begun t c))) t.server (serving_of (begun t c)))
    begun_joint c is =
        next_work_has n w s seat s.words (serving t.server (order.working c) ended (tracer_laden (begun t c))) t.server
        (serving_of (begun t c)) (trace.serving (work_of t)) stands.here.trace (begun_from c)
        (subst (λ k. Joint n w (scene_of s seat s.words k
        (serving t.server (order.working c) ended (tracer_laden (begun t c))) t.server (serving_of (begun t c))))
        (sym (job_is c))
        (assembled n w s j seat s.words (work_of t) t.server ended t.server (order.working c)
        (tracer_laden (begun t c)) (serving_of (begun t c)) (words_same n w s j) tracks_back
        (steps_hold n (polls_in n s) _ j.polls
        (kind.Serves t.server (serving_of t) (serving_of (begun t c)) stands.here.serving
        (record {
          in_range = stands.keeps.tracer.keeps.in_range;
          here = if_same t.server t.server (serving_of (begun t c)) (s.facets.servers t.server) refl;
          others = λ k low d. if_other k t.server (serving_of (begun t c)) (s.facets.servers k) d;
          collector = refl;
        }) (goes_on c).0))
        (subst (λ b. PhaseOrder n s.words (set s.facets.phases seat
        (serving t.server (order.working c) ended b))) (sym (laden_begun c)) (order_turns (Trace c) is))
        none))

    -- ---- by the phase found
    some_tablets : 0 < n.tablets
    some_tablets = tablets_some n j.script.shape

    evac_goes : (c : ℕ) → phase_at found ≡ Evac c → (b : Bool) → (c == ended) ≡ b
        → Joint n w (with_server s seat (with_stage (if b then Turning
        else Evacuating (evacuating.opening (owner_in t c) notice_at))) s.words)
    evac_goes c is true e =
        let same : (if ended == c then order.resting else clearing c (t.server * n.tablets) order.looking)
        ≡ order.resting =
        if_same ended c order.resting (clearing c (t.server * n.tablets) order.looking) (grind (arith, nat_tests)) in
        seated t refl order.resting (with_stage Turning) refl refl refl refl refl
        (subst (λ k. Joint n w (scene_of s seat s.words (work_of t) (serving t.server k ended (tracer_laden t)) t.server
        (serving_of t))) same (turned_to (Evac c) is))
    evac_goes c is false e =
        let same : (if ended == c then order.resting else clearing c (t.server * n.tablets) order.looking)
        ≡ clearing c (t.server * n.tablets) order.looking =
        if_other ended c order.resting (clearing c (t.server * n.tablets) order.looking)
        (λ z. absurd (grind (arith, nat_tests))) in
        seated t refl (clearing c (t.server * n.tablets) order.looking)
        (with_stage (Evacuating (evacuating.opening (owner_in t c) notice_at))) refl refl
        (begins_phase (owner_in t c) notice_at some_tablets) (begins_gate (owner_in t c) notice_at)
        (begins_work (owner_in t c) notice_at)
        (subst (λ k. Joint n w (scene_of s seat s.words (work_of t) (serving t.server k ended (tracer_laden t)) t.server
        (serving_of t))) same (turned_to (Evac c) is))

    -- what it keeps of its tracing, after the turn
    record StandsAfter (after : Serving) : Type 0 where
      pub joint : Joint n w (with_server s seat after s.words)
      pub tracer : TracerStands n after.tracer.server after.tracer
      pub scan : StageIsFree after.tracer after.tracer.stage

    as_before : (after : Serving) → after.tracer ≡ t → Joint n w (with_server s seat after s.words) → StandsAfter after
    as_before after same joint = record {
      joint = joint;
      tracer = subst (λ (u : TracerView). TracerStands n u.server u) (sym same) stands.keeps.tracer;
      scan = subst (λ (u : TracerView). StageIsFree u u.stage) (sym same) stands.keeps.scan;
    }

    by_phase : (p : PhaseWord) → phase_at found ≡ p → StandsAfter (turned (with_stage Turning) p)
    by_phase (Idle c) is =
        as_before (with_stage Turning) refl
        (seated t refl order.resting (with_stage Turning) refl refl refl refl refl (turned_to (Idle c) is))
    by_phase (Stop c) is =
        as_before (with_stage Ended) refl
        (seated t refl order.gone (with_stage Ended) refl refl refl refl refl (turned_to (Stop c) is))
    by_phase (Evac c) is =
        as_before (with_stage (if c == ended then Turning
        else Evacuating (evacuating.opening (owner_in t c) notice_at))) refl (evac_goes c is (c == ended) refl)
    by_phase (Trace c) is = record {
      joint = seated (begun t c) (begun_same t c).server (order.working c)
          (record { tracer = begun t c; notice_at = notice_at; ended = ended; stage = Tracing }) refl refl
          (ap order.working (next_work_leads (begun_from c)).cycle) refl refl (begun_joint c is);
      tracer = subst (λ k. TracerStands n k (begun t c)) (sym (begun_same t c).server) (goes_on c).1;
      scan = (next_work_leads (begun_from c)).free;
    }

    fits_now : PhaseFits n (phase_at found)
    unfolding phase_of
    fits_now = phase_fits n w s j (phase_at found) refl

    pub turn_goes : ServerGoes n w s seat (with_stage Turning)
    turn_goes =
        let all = by_phase (phase_at found) refl in
        let same : words_next (with_stage Turning) s.words ≡ s.words = set-get_or s.words (index n phase) 0 in
        record {
          joint = subst (λ ws. Joint n w (with_server s seat (turned (with_stage Turning) (phase_at found)) ws))
              (sym same) all.joint;
          slots = subst (SlotsBelong n) (sym same) stands.slots;
          here = seated_after s seat (with_stage Turning) (server_next (with_stage Turning) s.words)
              (words_next (with_stage Turning) s.words) stands.here;
          keeps = record {
            known = known_fed (with_stage Turning) found stands.keeps.known
                (phase_packed n w s j, fits_now) tt;
            tracer = all.tracer;
            scan = all.scan;
          };
        }

pub turns_go : TurnsGo
turns_go n w s seat v stands e = by v.stage e n stands.keeps.tracer.shape_is stands
  where
    at : ServerStage → Serving
    at stage = record { tracer = v.tracer; notice_at = v.notice_at; ended = v.ended; stage = stage }

    by : (stage : ServerStage) → stage ≡ Turning → (m : Numbers) → v.tracer.shape ≡ m
        → ServerStands m w s seat (at stage) → ServerGoes m w s seat (at stage)
    by stage is m shape =
        subst (λ k. ServerStands k w s seat (at stage) → ServerGoes k w s seat (at stage)) shape
        (subst (λ x. ServerStands v.tracer.shape w s seat (at x) → ServerGoes v.tracer.shape w s seat (at x)) (sym is)
        (λ st. turn_goes w s seat v.tracer v.notice_at v.ended st))
