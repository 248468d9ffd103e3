-- A server that traces, in a scene: what polls, the order of phases and words make of each of its steps.
use Rattle.std.proofs.Common.{◌≡◌, ◌≢◌, ℕ, ◌<◌, ◌⊎◌, inl, inr, Bool, true, false, List, set, slice_get, Some, sym, ap}
use Rattle.std.proofs.Common.{subst, refl, ◌∙◌, arith}
use Rattle.mako_words.specs.declared.phase_word.PhaseWord.TheVariants.{Trace}
use Rattle.mako_shape.specs.declared.numbers.Numbers.{Numbers}
use Rattle.mako_shape.specs.Places.{Place, Within, index, word_at}
use Rattle.mako_step.specs.Acts.{words_stepped, finds}
use Rattle.mako_step.specs.Machines.{IsAct}
use Rattle.mako_step.specs.declared.step.Step.{Step}
use Rattle.mako_model.specs.Legal.{Facts}
use Rattle.mako_names.specs.Tables.{phase_of}
use Rattle.mako_names.specs.Uses.{IsUseSlot}
use Rattle.mako_ring.specs.Facets as rings
use Rattle.mako_ring.specs.Facets.{IsSource}
use Rattle.mako_ring.specs.Polling.{PollingStands, WorkStands, GhostStands}
use Rattle.mako_ring.specs.TraceFacets as trace
use Rattle.mako_ring.specs.TraceFacets.{Work}
use Rattle.mako_ring.specs.TracerFacets.{work_of, serving_of}
use Rattle.mako_ring.specs.TracerFacts.{TracerStands}
use Rattle.mako_ring.specs.Tracing.{TracerView, at_stage, slot_of, stage_next, stage_fed, StageFits}
use Rattle.mako_ring.specs.declared.tracing.Source.{Source}
use Rattle.mako_ring.specs.declared.tracing.Source.TheVariants.{Collector, Server}
use Rattle.mako_ring.specs.declared.tracing.TraceStage.{TraceStage}
use Rattle.mako_shades.specs.Steps as shades
use Rattle.mako_shades.specs.Holding.{AgreeOnTrace}
use Rattle.mako_shades.specs.Steps.{TraceScene, TraceStep}
use Rattle.mako_shades.proofs.AllSteps as tracing
use Rattle.mako_phases.specs.Facets as order
use Rattle.mako_phases.specs.Facets.{Part, PhaseFacet, ServerStage, serving, working, clearing, idle, pausing, rooting}
use Rattle.mako_phases.specs.Facets.{choosing, evacuating, stopped, IsRestful, phase_during}
use Rattle.mako_phases.specs.Orders.{PhaseOrder, ServerFits}
use Rattle.mako_phases.specs.Steps as phases
use Rattle.mako_phases.specs.Steps.{IsPhaseWord}
use Rattle.mako_phases.proofs.AllPhases.{phase_kept}
use Rattle.mako_phases.proofs.Says.{part_phase}
use Rattle.mako_poll.specs.Steps as kind
use Rattle.mako_poll.proofs.AllSteps.{steps_hold}
use Rattle.mako_poll.proofs.Stages as polled
use Rattle.mako_joint.specs.Joints.{JointScene, trace_in, polls_in, phases_in, TracksFit, Joint}
use Rattle.mako_joint.proofs.Heaps.{heaps_stand}
use Rattle.mako_joint.proofs.Pauses.{gates_drain}
use Rattle.mako_trace.specs.Held.{IsHeld, StageKnown}
use Rattle.mako_tracing.specs.ServerFacets.{tracer_laden}
use Rattle.mako_tracing.specs.ServerKeeps.{SlotsBelong, StageIsFree}
use Rattle.mako_tracing.proofs.Lists.{set_back, if_same, if_other}
use Rattle.mako_tracing.proofs.Scenes.{scene_of, WordsKeep, assembled, tracks_by}

-- a laden server is one in tracing
laden_part : (part : Part) (s d ended : ℕ) → (IsRestful part → true ≡ false) → ServerFits part s (working d) ended
    → phase_during part ≡ Trace d
laden_part (order.tracing c) s d ended rests fits = ap (λ (x : ℕ). Trace x) (sym fits.0)
laden_part (idle c) s d ended rests fits = absurd (let e : true ≡ false = rests tt in cc)
laden_part (pausing c) s d ended rests fits = absurd (let e : true ≡ false = rests tt in cc)
laden_part (rooting c k) s d ended rests fits = absurd (let e : true ≡ false = rests tt in cc)
laden_part (choosing c left) s d ended rests fits = absurd (let e : true ≡ false = rests tt in cc)
laden_part (evacuating c k) s d ended rests fits = absurd (let e : true ≡ false = rests tt in cc)
laden_part (stopped c) s d ended rests fits = absurd (let e : true ≡ false = rests tt in cc)

pub laden_traces : (n : Numbers) (w : Facts) (s : JointScene) → Joint n w s → (seat server d ended : ℕ)
    → slice_get s.facets.phases seat ≡ Some (serving server (working d) ended true) → phase_of n s.words ≡ Trace d
laden_traces n w s j seat server d ended at =
    let o = j.order in
    let stands = o.each seat (serving server (working d) ended true) at in
    part_phase n s.words s.facets.phases o o.seat o.part o.pending o.here
    ∙ laden_part o.part server d ended stands.rests stands.fits

pub is_no_clearing : (server d ended s c t e : ℕ) (at : order.TabletStage) (laden b : Bool)
    → Some (serving server (working d) ended laden) ≡ Some (serving s (clearing c t at) e b) → ⊥
is_no_clearing server d ended s c t e at laden b same = cc

module _ (w : Facts) (s : JointScene) (seat : ℕ) (t : TracerView) (ended : ℕ) where
  abbrev n : Numbers
  n = t.shape

  -- its facet in the order of the phases
  abbrev pub traces_with : Bool → PhaseFacet
  traces_with laden = serving t.server (working t.cycle) ended laden

  -- what is known of the scene where the tracer is at this stage
  pub record At (x : TraceStage) : Type 0 where
    pub joint : Joint n w s
    pub slots : SlotsBelong n s.words
    pub job : slice_get s.facets.trace seat ≡ Some (trace.serving (work_of (at_stage t x)))
    pub phase : slice_get s.facets.phases seat ≡ Some (traces_with (tracer_laden (at_stage t x)))
    pub serves : s.facets.servers t.server ≡ serving_of (at_stage t x)
    pub stands : TracerStands n t.server (at_stage t x)
    pub held : IsHeld t
    pub known : StageKnown (at_stage t x) x
    pub free : StageIsFree (at_stage t x) x
    pub acts : IsAct (stage_next (at_stage t x) x)
    pub fits : StageFits (at_stage t x) x (finds (stage_next (at_stage t x) x) s.words)

  abbrev pub next : TraceStage → Step
  next x = stage_next (at_stage t x) x

  -- the words after its step, and the tracer after it
  abbrev pub us : TraceStage → List ℕ
  us x = words_stepped (next x) s.words

  abbrev pub fed_at : TraceStage → TracerView
  fed_at x = stage_fed (at_stage t x) x (finds (next x) s.words)

  -- the scene after it, with this to trace
  abbrev pub after_with : TraceStage → Work → JointScene
  after_with x job =
      scene_of s seat (us x) job (traces_with (tracer_laden (fed_at x))) t.server (serving_of (fed_at x))

  abbrev pub Goes : TraceStage → Type 0
  Goes x = Joint n w (after_with x (work_of (fed_at x)))

  module _ (x : TraceStage) (at : At x) where
    j : Joint n w s
    j = at.joint

    -- ---- polls
    slots_are : 0 < n.ring
    slots_are = let b = (j.polls.works t.server at.stands.keeps.in_range).at_below in omega arith

    pub slot_within : (source : Source) → IsSource n t.server source → Within n (slot_of t source)
    slot_within Collector is = (
      at.stands.keeps.in_range,
      (subst (λ (f : rings.ServerFacet). WorkStands n (word_at n s.words) t.server s.facets.collector f) at.serves
          (j.polls.works t.server at.stands.keeps.in_range)).at_below,
    )
    slot_within (Server a) is = (
      is.0,
      at.stands.keeps.in_range,
      (subst (λ (f : rings.ServerFacet). GhostStands n (word_at n s.words) a t.server (s.facets.servers a) f) at.serves
          (j.polls.ghosts a t.server is.0 at.stands.keeps.in_range is.1)).at_below,
    )

    pub went : polled.Goes t.server t s.words (us x) x (fed_at x)
    went = polled.stage_goes t.server t s.words (us x) j.names.hold.size slots_are slot_within x at.stands at.acts
        at.fits refl

    pub polls_go : PollingStands n (polls_in n (after_with x (work_of (fed_at x))))
    polls_go =
        steps_hold n (polls_in n s) (polls_in n (after_with x (work_of (fed_at x)))) j.polls
        (kind.Serves t.server (serving_of (at_stage t x)) (serving_of (fed_at x)) at.serves
        (record {
          in_range = at.stands.keeps.in_range;
          here = if_same t.server t.server (serving_of (fed_at x)) (s.facets.servers t.server) refl;
          others = λ k low d. if_other k t.server (serving_of (fed_at x)) (s.facets.servers k) d;
          collector = refl;
        }) went.0)

    -- ---- the order of phases
    abbrev Order : List ℕ → List PhaseFacet → Type 0
    Order ws facets = PhaseOrder n ws facets

    -- where it is laden, servers trace its cycle
    pub traces : tracer_laden (at_stage t x) ≡ true → phase_of n s.words ≡ Trace t.cycle
    traces laden = laden_traces n w s j seat t.server t.cycle ended
        (at.phase ∙ ap (λ b. Some (traces_with b)) laden)

    pub order_seen : (p : Place) (v : ℕ) → Within n p → (¬ IsPhaseWord p)
        → Order (set s.words (index n p) v) s.facets.phases
    order_seen p v within unread = phase_kept n (phases_in s) _ j.order (gates_drain n w s j)
        (phases.Unseen p v within unread refl)

    pub order_on : (ws : List ℕ) → Order ws s.facets.phases → (b : Bool)
        → (tracer_laden (at_stage t x) ≡ true) ⊎ (b ≡ tracer_laden (at_stage t x))
        → Order ws (set s.facets.phases seat (traces_with b))
    order_on ws o b (inl laden) = phase_kept n (record { words = ws; facets = s.facets.phases }) _ o
        (gates_drain n w s j)
        (phases.Works seat t.server t.cycle ended b (at.phase ∙ ap (λ c. Some (traces_with c)) laden) refl)
    order_on ws o b (inr same) = subst (λ fs. Order ws fs)
        (sym (set_back s.facets.phases seat (traces_with b) (at.phase ∙ ap (λ c. Some (traces_with c)) (sym same)))) o

    -- a name moves between a slot and what it works on
    pub order_moved : (p : Place) (v : ℕ) → IsUseSlot p → Within n p → tracer_laden (at_stage t x) ≡ true → (b : Bool)
        → Order (set s.words (index n p) v) (set s.facets.phases seat (traces_with b))
    order_moved p v slot within laden b = phase_kept n (phases_in s) _ j.order (gates_drain n w s j)
        (phases.MovesName seat t.server t.cycle ended b p v
        (at.phase ∙ ap (λ c. Some (traces_with c)) laden) slot within refl)

    -- it finds a name in a slot
    pub order_found : (p : Place) → IsUseSlot p → Within n p → word_at n s.words p ≢ 0
        → Order s.words (set s.facets.phases seat (traces_with true))
    order_found p slot within filled = phase_kept n (phases_in s) _ j.order (gates_drain n w s j)
        (phases.Finds seat t.server t.cycle ended (tracer_laden (at_stage t x)) p at.phase slot within filled refl)

    -- ---- tracing
    -- the scene of tracing after the step
    abbrev pub trace_after : List ℕ → Work → TraceScene
    trace_after ws job = record {
      words = ws;
      facets = set s.facets.trace seat (trace.serving job);
      history = s.front.history;
    }

    -- one kind of step while it is laden
    pub tracks_go : (ws : List ℕ) (job : Work) → phase_of n ws ≡ phase_of n s.words
        → tracer_laden (at_stage t x) ≡ true → TraceStep n w t.cycle (trace_in s) (trace_after ws job)
        → TracksFit (phase_of n ws) n w (trace_after ws job)
    tracks_go ws job same laden step =
        subst (λ p. TracksFit p n w (trace_after ws job)) (sym (same ∙ traces laden))
        (tracing.step_kept n w t.cycle (trace_in s) (trace_after ws job) (heaps_stand n w s j)
        (subst (λ p. TracksFit p n w (trace_in s)) (traces laden) j.tracks) step)

    -- words that tracing does not read, and the same work
    pub tracks_stay : (ws : List ℕ) (job : Work) → phase_of n ws ≡ phase_of n s.words → AgreeOnTrace n s.words ws
        → work_of (at_stage t x) ≡ job → TracksFit (phase_of n ws) n w (trace_after ws job)
    tracks_stay ws job same agree is =
        subst (λ fs. TracksFit (phase_of n ws) n w (record { words = ws; facets = fs; history = s.front.history }))
        (sym (set_back s.facets.trace seat (trace.serving job) (at.job ∙ ap (λ k. Some (trace.serving k)) is)))
        (subst (λ p. TracksFit p n w (record (trace_in s) { words = ws })) (sym same)
        (tracks_by n w (trace_in s) (record (trace_in s) { words = ws }) (phase_of n s.words)
        (λ c e k. tracing.step_kept n w c (trace_in s) _ (heaps_stand n w s j) k (shades.Unseen ws agree refl))
        j.tracks))

    -- ---- all groups
    pub stepped : (job : Work) → WordsKeep n w s (us x) → TracksFit (phase_of n (us x)) n w (trace_after (us x) job)
        → Order (us x) (set s.facets.phases seat (traces_with (tracer_laden (fed_at x))))
        → Joint n w (after_with x job)
    stepped job keep tracks order_is =
        assembled n w s j seat (us x) job t.server ended t.server (working t.cycle) (tracer_laden (fed_at x))
        (serving_of (fed_at x)) keep tracks polls_go order_is
        (λ c. is_no_clearing t.server t.cycle ended c.server c.cycle c.tablet c.ended c.at
        (tracer_laden (at_stage t x)) c.laden (sym at.phase ∙ c.is))
