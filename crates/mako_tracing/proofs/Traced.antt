-- A server's machine in its tracing: each step keeps all groups, and what it keeps of itself.
use Rattle.std.proofs.Common.{◌≡◌, ℕ, List, set, slice_get, Some, Bool, sym, subst, refl, ◌∙◌}
use Rattle.mako_shape.specs.declared.numbers.Numbers.{Numbers}
use Rattle.mako_gate.specs.Standings.{rests, shutter_at}
use Rattle.mako_step.specs.Acts.{words_stepped, finds}
use Rattle.mako_step.specs.declared.step.Step.{Step}
use Rattle.mako_step.specs.declared.step.Step.TheVariants.{Do, Ended as NoStep}
use Rattle.mako_model.specs.Legal.{Facts}
use Rattle.mako_ring.specs.Facets as rings
use Rattle.mako_ring.specs.TraceFacets as trace
use Rattle.mako_ring.specs.TraceFacets.{Work}
use Rattle.mako_ring.specs.TracerFacets.{work_of, serving_of}
use Rattle.mako_ring.specs.TracerFacts.{TracerStands}
use Rattle.mako_ring.specs.Tracing as tracer
use Rattle.mako_ring.specs.Tracing.{TracerView}
use Rattle.mako_ring.specs.declared.tracing.SendStage.TheVariants.{HeadLook, GhostRaise, HeadStore}
use Rattle.mako_ring.specs.declared.tracing.ScanStage.TheVariants.{FieldLoad, EntryLoad, HeaderLoad}
use Rattle.mako_ring.specs.declared.tracing.ReceiveStage.TheVariants.{SlotLook, BusyRaise, SlotClear}
use Rattle.mako_ring.specs.declared.tracing.MarkStage.TheVariants.{Considering, Measuring, Marking as EntryMark}
use Rattle.mako_ring.specs.declared.tracing.MarkStage.TheVariants.{Counting}
use Rattle.mako_ring.specs.declared.tracing.RestStage.TheVariants.{BusyLower, TailLook, GhostLower}
use Rattle.mako_ring.specs.declared.tracing.TraceStage.{TraceStage}
use Rattle.mako_ring.specs.declared.tracing.TraceStage.TheVariants.{Sending, Scanning, Receiving, Marking, Resting}
use Rattle.mako_ring.specs.declared.tracing.TraceStage.TheVariants.{Ended as AtEnd}
use Rattle.mako_model.proofs.Lists.{get_set_same}
use Rattle.mako_shades.proofs.Lists.{set_twice}
use Rattle.mako_layout.specs.Facets.{idle}
use Rattle.mako_phases.specs.Facets as order
use Rattle.mako_phases.specs.Facets.{PhaseFacet, serving, working}
use Rattle.mako_phases.specs.Orders.{PhaseOrder}
use Rattle.mako_phases.specs.Steps as phases
use Rattle.mako_phases.proofs.AllPhases.{phase_kept}
use Rattle.mako_joint.specs.Joints.{JointScene, phases_in, IsClearing, Joint}
use Rattle.mako_joint.proofs.Pauses.{gates_drain}
use Rattle.mako_trace.proofs.SameServer.{fed_same}
use Rattle.mako_server.specs.declared.stage.ServerStage.{ServerStage}
use Rattle.mako_server.specs.declared.stage.ServerStage.TheVariants.{Tracing}
use Rattle.mako_server.specs.Serving.{Serving, traced, Fits}
use Rattle.mako_server.proofs.Going.{known_fed}
use Rattle.mako_tracing.specs.Laws.{words_next, found_by, server_next, ServerStands, ServerGoes, TracingStepsGo}
use Rattle.mako_tracing.specs.ServerFacets.{servers_with, tracer_laden, with_server}
use Rattle.mako_tracing.specs.ServerKeeps.{StageIsFree}
use Rattle.mako_tracing.proofs.Belonging.{slots_kept}
use Rattle.mako_tracing.proofs.Fitting.{found_fits}
use Rattle.mako_tracing.proofs.Leading.{stage_leads}
use Rattle.mako_tracing.proofs.Lists.{set_back}
use Rattle.mako_tracing.proofs.Looking as look
use Rattle.mako_tracing.proofs.Marks as mark
use Rattle.mako_tracing.proofs.Scenes.{seated_after, scene_of, gates_beside, choice_beside}
use Rattle.mako_tracing.proofs.Tracers.{At, traces_with, Goes, went, is_no_clearing}
use Rattle.mako_tracing.proofs.Working as work

-- each stage keeps all groups
pub tracer_goes : (w : Facts) (s : JointScene) (seat : ℕ) (t : TracerView) (ended : ℕ) (x : TraceStage)
    → At w s seat t ended x → Goes w s seat t ended x
tracer_goes w s seat t ended (Sending (HeadLook x)) at = look.head_look w s seat t ended x at
tracer_goes w s seat t ended (Sending (GhostRaise x)) at = look.ghost_raise w s seat t ended x at
tracer_goes w s seat t ended (Sending (HeadStore x)) at = mark.head_store w s seat t ended x at
tracer_goes w s seat t ended (Scanning (FieldLoad scan)) at = work.field_load w s seat t ended scan at
tracer_goes w s seat t ended (Scanning (EntryLoad x)) at = work.entry_load w s seat t ended x at
tracer_goes w s seat t ended (Scanning (HeaderLoad x address)) at = work.header_load w s seat t ended x address at
tracer_goes w s seat t ended (Receiving (SlotLook source)) at = look.slot_look w s seat t ended source at
tracer_goes w s seat t ended (Receiving (BusyRaise source x)) at = look.busy_raise w s seat t ended source x at
tracer_goes w s seat t ended (Receiving (SlotClear source x)) at = mark.slot_clear w s seat t ended source x at
tracer_goes w s seat t ended (Marking (Considering x)) at = mark.considering_entry w s seat t ended x at
tracer_goes w s seat t ended (Marking (Measuring x e)) at = look.measuring w s seat t ended x e at
tracer_goes w s seat t ended (Marking (EntryMark x e fields)) at = mark.marking_entry w s seat t ended x e fields at
tracer_goes w s seat t ended (Marking (Counting x fields)) at = mark.counting_words w s seat t ended x fields at
tracer_goes w s seat t ended (Resting BusyLower) at = look.busy_lower w s seat t ended at
tracer_goes w s seat t ended (Resting (TailLook r)) at = look.tail_look w s seat t ended r at
tracer_goes w s seat t ended (Resting GhostLower) at = look.ghost_lower w s seat t ended at
tracer_goes w s seat t ended AtEnd at = absurd at.acts

-- with nothing left it turns again
returned : (n : Numbers) (w : Facts) (s : JointScene) → Joint n w s → (seat : ℕ) (words : List ℕ) (job : Work)
    (server d ended i : ℕ) (laden : Bool) (g : rings.ServerFacet) (old : PhaseFacet)
    → slice_get s.facets.phases seat ≡ Some old → (¬ IsClearing s.facets.phases seat)
    → Joint n w (scene_of s seat words job (serving server (working d) ended laden) i g)
    → Joint n w (scene_of s seat words job (serving server order.resting ended laden) i g)
returned n w s j seat words job server d ended i laden g old here none jm =
    let mid : JointScene = scene_of s seat words job (serving server (working d) ended laden) i g in
    let at : slice_get (set s.facets.phases seat (serving server (working d) ended laden)) seat
    ≡ Some (serving server (working d) ended laden) =
    get_set_same s.facets.phases seat (serving server (working d) ended laden) old here in
    record {
      script = jm.script;
      names = jm.names;
      tracks = jm.tracks;
      layout = jm.layout;
      polls = jm.polls;
      order = subst (λ fs. PhaseOrder n words fs)
          (set_twice s.facets.phases seat (serving server (working d) ended laden)
          (serving server order.resting ended laden))
          (phase_kept n (phases_in mid) _ jm.order (gates_drain n w mid jm)
          (phases.Returns seat server d ended laden at refl));
      reads = jm.reads;
      gates = gates_beside n s.facets.phases s.facets.gates j.gates seat server ended order.resting laden none;
      choice = choice_beside s.facets.phases s j.choice seat server ended order.resting laden;
    }

module _ (w : Facts) (s : JointScene) (seat : ℕ) (t : TracerView) (notice_at ended : ℕ) where
  abbrev n : Numbers
  n = t.shape

  abbrev v : Serving
  v = record { tracer = t; notice_at = notice_at; ended = ended; stage = Tracing }

  abbrev u : TracerView
  u = tracer.fed t (finds (tracer.next_of t) s.words)

  abbrev words : List ℕ
  words = words_stepped (tracer.next_of t) s.words

  module _ (stands : ServerStands t.shape w s seat v) (fits : Fits v (found_by v s.words)) where
    pub tracer_at : At w s seat t ended t.stage
    tracer_at = record {
      joint = stands.joint;
      slots = stands.slots;
      job = stands.here.trace;
      phase = stands.here.phase;
      serves = stands.here.serving;
      stands = stands.keeps.tracer;
      held = stands.keeps.known.tracer.held;
      known = stands.keeps.known.tracer.stage;
      free = stands.keeps.scan;
      acts = stands.keeps.known.stage;
      fits = fits;
    }

    server_is : t.server ≡ u.server
    server_is = sym (fed_same t (finds (tracer.next_of t) s.words)).server

    cycle_is : t.cycle ≡ u.cycle
    cycle_is = sym (stage_leads t t.stage (finds (tracer.next_of t) s.words) stands.keeps.scan).cycle

    -- the scene that its tracing leaves is the one with the server after it, at this stage
    seated : (stage : order.ServerStage)
        → Joint n w (scene_of s seat words (work_of u) (serving t.server stage ended (tracer_laden u)) t.server
        (serving_of u))
        → Joint n w (record {
          words = words;
          front = s.front;
          facets = record s.facets {
            trace = set s.facets.trace seat (trace.serving (work_of u));
            gates = set s.facets.gates seat (shutter_at seat rests);
            works = set s.facets.works seat idle;
            servers = servers_with s.facets.servers u.server (serving_of u);
            phases = set s.facets.phases seat (serving u.server stage ended (tracer_laden u));
          };
        })
    seated stage j =
        let gates = sym (set_back s.facets.gates seat (shutter_at seat rests) stands.here.gate) in
        let works = sym (set_back s.facets.works seat idle stands.here.work) in
        subst (Joint n w)
        (λ i. record {
          words = words;
          front = s.front;
          facets = record s.facets {
            trace = set s.facets.trace seat (trace.serving (work_of u));
            gates = gates i;
            works = works i;
            servers = servers_with s.facets.servers (server_is i) (serving_of u);
            phases = set s.facets.phases seat (serving (server_is i) stage ended (tracer_laden u));
          };
        }) j

    gone : Joint n w (scene_of s seat words (work_of u)
        (serving t.server (working t.cycle) ended (tracer_laden u)) t.server
        (serving_of u))
    gone = tracer_goes w s seat t ended t.stage tracer_at

    joint_by : (step : Step) → Joint n w (with_server s seat (traced v u step) words)
    joint_by (Do act) =
        seated (working u.cycle)
        (subst (λ c. Joint n w
        (scene_of s seat words (work_of u) (serving t.server (working c) ended (tracer_laden u)) t.server
        (serving_of u)))
        cycle_is gone)
    joint_by NoStep =
        seated order.resting
        (returned n w s stands.joint seat words (work_of u) t.server t.cycle ended t.server (tracer_laden u)
        (serving_of u) (traces_with w s seat t ended (tracer_laden t)) stands.here.phase
        (λ c. is_no_clearing t.server t.cycle ended c.server c.cycle c.tablet c.ended c.at (tracer_laden t) c.laden
        (sym stands.here.phase ∙ c.is)) gone)

    tracer_stands : TracerStands n u.server u
    tracer_stands = subst (λ k. TracerStands n k u) server_is (went w s seat t ended t.stage tracer_at).1

    free : StageIsFree u u.stage
    free = (stage_leads t t.stage (finds (tracer.next_of t) s.words) stands.keeps.scan).free

    keeps_by : (step : Step) → TracerStands n (traced v u step).tracer.server (traced v u step).tracer
        × StageIsFree (traced v u step).tracer (traced v u step).tracer.stage
    keeps_by (Do act) = (tracer_stands, free)
    keeps_by NoStep = (tracer_stands, free)

    pub tracing_goes : ServerGoes n w s seat v
    tracing_goes = record {
      joint = joint_by (tracer.next_of u);
      slots = slots_kept w s seat t ended t.stage tracer_at;
      here = seated_after s seat v (server_next v s.words) (words_next v s.words) stands.here;
      keeps = record {
        known = known_fed v (found_by v s.words) stands.keeps.known fits stands.keeps.known.stage;
        tracer = (keeps_by (tracer.next_of u)).0;
        scan = (keeps_by (tracer.next_of u)).1;
      };
    }

pub tracing_steps_go : TracingStepsGo
tracing_steps_go n w s seat v stands e few low =
    by v.stage e n stands.keeps.tracer.shape_is stands (found_fits n w s seat v stands e few low)
  where
    with_stage : ServerStage → Serving
    with_stage stage = record { tracer = v.tracer; notice_at = v.notice_at; ended = v.ended; stage = stage }

    by : (stage : ServerStage) → stage ≡ Tracing → (m : Numbers) → v.tracer.shape ≡ m
        → ServerStands m w s seat (with_stage stage)
        → Fits (with_stage stage) (found_by (with_stage stage) s.words) → ServerGoes m w s seat (with_stage stage)
    by stage is m shape =
        subst (λ k. ServerStands k w s seat (with_stage stage)
        → Fits (with_stage stage) (found_by (with_stage stage) s.words) → ServerGoes k w s seat
        (with_stage stage)) shape
        (subst (λ x. ServerStands v.tracer.shape w s seat (with_stage x)
        → Fits (with_stage x) (found_by (with_stage x) s.words) → ServerGoes v.tracer.shape w s seat (with_stage x))
        (sym is) (λ st f. tracing_goes w s seat v.tracer v.notice_at v.ended st f))
