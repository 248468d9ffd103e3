-- What stays of each group: where the collector's facet is as it was, and where a word is stored that the group does
-- not
-- read.
use Rattle.std.proofs.Common.{◌≡◌, ◌≢◌, ℕ, List, set, get_or, length, Some, sym, ap, subst, refl, ◌∙◌}
use Rattle.std.proofs.lemmas.List.{set-get_or}
use Rattle.mako_words.specs.declared.name.Name.{Name}
use Rattle.mako_words.specs.declared.phase_word.PhaseWord.{PhaseWord}
use Rattle.mako_words.specs.declared.phase_word.PhaseWord.TheVariants.{Idle as IdlePhase, Trace, Evac, Stop}
use Rattle.mako_shape.specs.declared.numbers.Numbers.{Numbers}
use Rattle.mako_shape.specs.Places.{Place, phase, index, total, Within, word_at}
use Rattle.mako_shape.proofs.PlaceLaws.{word_same, word_other}
use Rattle.mako_gate.specs.Changes.{Sets}
use Rattle.mako_gate.specs.Standings.{GateFacet, shutter_at}
use Rattle.mako_model.specs.Legal.{Facts}
use Rattle.mako_names.specs.Steps.{NamesHoldIn, Stores}
use Rattle.mako_names.specs.Tables.{phase_of}
use Rattle.mako_names.specs.Uses.{IsNamePlace}
use Rattle.mako_names.proofs.StepsKept.{step_kept, leaves_others}
use Rattle.mako_names.proofs.Words.{phase_same}
use Rattle.mako_ring.specs.Facets.{IsPolled}
use Rattle.mako_ring.specs.Polling.{PollingStands}
use Rattle.mako_poll.specs.Steps.{CollectorStep, Collected}
use Rattle.mako_poll.proofs.AllSteps.{steps_hold}
use Rattle.mako_ring.specs.TraceFacets as trace
use Rattle.mako_ring.specs.TraceFacets.{TraceFacet}
use Rattle.mako_shades.specs.Holding.{AgreeOnTrace, IsTracePlace}
use Rattle.mako_shades.specs.Steps as shades
use Rattle.mako_shades.specs.Steps.{TraceScene}
use Rattle.mako_shades.proofs.AllSteps as tracing
use Rattle.mako_shades.proofs.Words.{write_agrees}
use Rattle.mako_layout.specs.Facets.{Choice}
use Rattle.mako_layout.specs.Evacuations.{Evacuation}
use Rattle.mako_layout.specs.Frames.{IsElsewhere, IsNoGate}
use Rattle.mako_layout.specs.StepParts.{collector_seat}
use Rattle.mako_layout.specs.Steps.{outside}
use Rattle.mako_layout.proofs.EachStep.{each_step_keeps}
use Rattle.mako_layout.proofs.Frames.{leaves_layout, leaves_gates}
use Rattle.mako_phases.specs.Facets as phases_facets
use Rattle.mako_phases.specs.Facets.{PhaseFacet}
use Rattle.mako_phases.specs.Steps as phases
use Rattle.mako_phases.specs.Steps.{PhaseScene, PhaseOrderIn, IsPhaseWord}
use Rattle.mako_phases.proofs.AllPhases.{phase_kept}
use Rattle.mako_joint.specs.Joints.{JointScene, names_in, trace_in, layout_in, polls_in, phases_in, TracksFit, Joint}
use Rattle.mako_joint.proofs.EachKind.{polls_stay}
use Rattle.mako_joint.proofs.Heaps.{heaps_stand}
use Rattle.mako_joint.proofs.Pauses.{gates_drain}
use Rattle.mako_pause.specs.Collecting.{Collecting}
use Rattle.mako_collecting.specs.Facets.{names_of, part_of, phase_facet, watch_of, gate_facet, ring_facet, IsCollector}
use Rattle.mako_collecting.specs.Steps.{with_collector}
use Rattle.mako_collecting.proofs.Joined.{set_same}

-- ---- words

-- a load leaves the words
pub load_leaves : (words : List ℕ) (i : ℕ) → set words i (get_or words i 0) ≡ words
load_leaves words i = set-get_or words i 0

-- a store, by place
pub sets : (n : Numbers) (words : List ℕ) (p : Place) (v : ℕ) → length words ≡ total n → Within n p
    → Sets n (λ q. word_at n words q) (λ q. word_at n (set words (index n p) v) q) p v
sets n words p v size within = record {
  here = word_same n words p v size within;
  others = λ q inside other. word_other n words p q v within inside other;
}

-- ---- facets that are as they were

module _ (n : Numbers) (w : Facts) (s : JointScene) (old c : Collecting) (at : IsCollector n s old) where
  abbrev seat : ℕ
  seat = collector_seat n

  pub tracks_as : (us : List ℕ) (choice : Choice) → names_of c ≡ names_of old
      → TracksFit (phase_of n us) n w (trace_in (record s { words = us }))
      → TracksFit (phase_of n us) n w (trace_in (with_collector n s us choice c))
  tracks_as us choice same =
      subst (λ (fs : List TraceFacet).
      TracksFit (phase_of n us) n w (record { words = us; facets = fs; history = s.front.history }))
      (sym (set_same s.facets.trace seat (trace.collecting (names_of c))
      (at.trace ∙ ap (λ (xs : List Name). Some (trace.collecting xs)) (sym same))))

  pub layout_as : (us : List ℕ) (choice : Choice) → watch_of n c ≡ watch_of n old
      → Evacuation n (layout_in n w (record s { words = us; facets = record s.facets { choice = choice } }))
      → Evacuation n (layout_in n w (with_collector n s us choice c))
  layout_as us choice same =
      subst (λ (gs : List GateFacet).
      Evacuation n (layout_in n w (record s { words = us; facets = record s.facets { choice = choice; gates = gs } })))
      (sym (set_same s.facets.gates seat (gate_facet n c)
      (at.gate ∙ ap (λ x. Some (shutter_at (collector_seat n) x)) (sym same))))

  pub order_as : (us : List ℕ) (choice : Choice) → part_of n c ≡ part_of n old → names_of c ≡ names_of old
      → PhaseOrderIn n (record { words = us; facets = s.facets.phases })
      → PhaseOrderIn n (phases_in (with_collector n s us choice c))
  order_as us choice same names =
      subst (λ (fs : List PhaseFacet). PhaseOrderIn n (record { words = us; facets = fs }))
      (sym (set_same s.facets.phases seat (phase_facet n c)
      (at.phase ∙ (λ i. Some (phases_facets.collecting (sym same i) (sym names i))))))

  pub polls_as : (us : List ℕ) (choice : Choice) → ring_facet n c ≡ ring_facet n old
      → PollingStands n (polls_in n (record s { words = us }))
      → PollingStands n (polls_in n (with_collector n s us choice c))
  polls_as us choice same =
      subst (λ x. PollingStands n
      (record { word = λ p. word_at n us p; server = s.facets.servers; collector = x }))
      (at.rings ∙ sym same)

  -- rings and polls stand by a step of the collector's
  pub polls_by : (us : List ℕ) (choice : Choice) → PollingStands n (polls_in n s)
      → CollectorStep n (λ p. word_at n s.words p) (λ p. word_at n us p) (ring_facet n old) (ring_facet n c)
      → PollingStands n (polls_in n (with_collector n s us choice c))
  polls_by us choice polls step =
      steps_hold n (record (polls_in n s) { collector = ring_facet n old })
      (polls_in n (with_collector n s us choice c))
      (subst (λ x. PollingStands n (record (polls_in n s) { collector = x })) at.rings polls)
      (Collected (ring_facet n c) (record { here = refl; servers = λ i l. refl }) step)

-- ---- a word that a group does not read

module _ (n : Numbers) (w : Facts) (s : JointScene) (j : Joint n w s) (p : Place) (v : ℕ) (within : Within n p) where
  abbrev us : List ℕ
  us = set s.words (index n p) v

  pub names_else : (IsNamePlace p → ⊥) → NamesHoldIn n w (record (names_in s) { words = us })
  names_else other =
      step_kept n w (names_in s) (record (names_in s) { words = us }) j.script.facts
      (Stores us (leaves_others n s.words p v j.names.hold.size within other)) j.names

  tracks_at : (k : PhaseWord) → AgreeOnTrace n s.words us → TracksFit k n w (trace_in s)
      → TracksFit k n w (trace_in (record s { words = us }))
  tracks_at (IdlePhase cycle) agree t = tt
  tracks_at (Evac cycle) agree t = tt
  tracks_at (Stop cycle) agree t = tt
  tracks_at (Trace cycle) agree t =
      tracing.step_kept n w cycle (trace_in s) (trace_in (record s { words = us })) (heaps_stand n w s j) t
      (shades.Unseen us agree refl)

  pub tracks_else : (IsTracePlace p → ⊥) → phase ≢ p
      → TracksFit (phase_of n us) n w (trace_in (record s { words = us }))
  tracks_else other apart =
      subst (λ k. TracksFit k n w (trace_in (record s { words = us })))
      (sym (phase_same n s.words us (word_other n s.words p phase v within tt apart)))
      (tracks_at (phase_of n s.words) (write_agrees n s.words p v within other) j.tracks)

  pub layout_else : IsElsewhere p → IsNoGate p → Evacuation n (layout_in n w (record s { words = us }))
  layout_else free gateless =
      let at : Sets n (λ q. word_at n s.words q) (λ q. word_at n us q) p v =
      sets n s.words p v j.names.hold.size within in
      each_step_keeps n j.script.shape (layout_in n w s) 0 (layout_in n w (record s { words = us })) j.layout
      (outside 0 (λ q. word_at n us q) (layout_in n w s).heap (layout_in n w s).made
      (leaves_layout n (λ q. word_at n s.words q) (λ q. word_at n us q) p v at free)
      (leaves_gates n (λ q. word_at n s.words q) (λ q. word_at n us q) p v at gateless)
      (λ name. refl) (λ t. refl))

  pub order_else : (IsPhaseWord p → ⊥) → PhaseOrderIn n (record { words = us; facets = s.facets.phases })
  order_else other =
      phase_kept n (phases_in s) (record { words = us; facets = s.facets.phases }) j.order (gates_drain n w s j)
      (phases.Unseen p v within other refl)

  pub polls_else : (IsPolled p → ⊥) → PollingStands n (polls_in n (record s { words = us }))
  polls_else other = polls_stay n s p v within other j.polls
