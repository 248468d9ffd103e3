-- A server's machine keeps the live counts, in its tracing and at its turn.
use Rattle.std.proofs.Common.{◌≡◌, ◌≢◌, ℕ, ◌==◌, ◌⊎◌, if◌then◌else◌, inl, inr, Bool, true, false, List, replicate, set}
use Rattle.std.proofs.Common.{slice_get, Some, None, sym, ap, subst, refl, ◌∙◌, arith}
use Rattle.std.proofs.lemmas.Bool.Decides.{nat_tests}
use Rattle.std.proofs.lemmas.List.{set-get_or}
use Rattle.mako_words.specs.declared.phase_word.PhaseWord.TheVariants.{Trace}
use Rattle.mako_words.specs.Phases.{phase_at, cycle_of}
use Rattle.mako_shape.specs.declared.numbers.Numbers.{Numbers}
use Rattle.mako_shape.specs.Places.{phase, index, word_at}
use Rattle.mako_step.specs.Acts.{words_stepped, finds}
use Rattle.mako_step.specs.declared.step.Step.{Step}
use Rattle.mako_step.specs.declared.step.Step.TheVariants.{Do, Ended as NoStep}
use Rattle.mako_model.specs.declared.point.Point.{Point}
use Rattle.mako_model.specs.Heaps.{Heap}
use Rattle.mako_model.specs.Legal.{Facts, state_of}
use Rattle.mako_model.proofs.Lists.{get_set_same}
use Rattle.mako_names.specs.Tables.{phase_of}
use Rattle.mako_ring.specs.Tracing as tracer
use Rattle.mako_ring.specs.Tracing.{TracerView, owner, window_of, head_slot, slot_of, own_tablet, live_of, at_stage}
use Rattle.mako_ring.specs.Tracing.{next_work, begun}
use Rattle.mako_phases.specs.Lives.{LiveFacet, counting, AreCounted}
use Rattle.mako_phases.specs.LiveSteps as lives
use Rattle.mako_phases.specs.LiveSteps.{LiveScene, LeavesLives, OldMarksAdd}
use Rattle.mako_phases.proofs.Lives.{counts_kept}
use Rattle.mako_phases.specs.Facets.{serving, working}
use Rattle.mako_phases.proofs.Parts.{work_cycle}
use Rattle.mako_phases.proofs.Says.{part_phase}
use Rattle.mako_joint.specs.Joints.{JointScene, Joint}
use Rattle.mako_trace.proofs.SameServer.{begun_same}
use Rattle.mako_server.specs.declared.stage.ServerStage.TheVariants.{Turning, Tracing}
use Rattle.mako_server.specs.Serving.{Serving, Fits, StageIsKnown, stage_next, stage_fed, turned, traced}
use Rattle.mako_tracing.specs.Laws.{words_next, found_by, server_next, ServerStands}
use Rattle.mako_tracing.specs.ServerFacets.{tracer_owed, server_live}
use Rattle.mako_tracing.specs.ServerLives.{IsMeasured, LivesStand, LivesGo, TurnsCount}
use Rattle.mako_tracing.proofs.Leading.{next_work_leads}
use Rattle.mako_tracing.proofs.Lists.{set_back}
use Rattle.mako_tracing.proofs.Traced.{tracer_at}
use Rattle.mako_tracing.proofs.Phases.{at_end}
use Rattle.mako_tracing.proofs.Counting.{phase_stays, same_counting, stage_counts}

-- while the cycle is traced, a server that traces is in that cycle
pub in_cycle : (n : Numbers) (w : Facts) (s : JointScene) → Joint n w s → (seat server d ended cycle : ℕ) (laden : Bool)
    → slice_get s.facets.phases seat ≡ Some (serving server (working d) ended laden) → phase_of n s.words ≡ Trace cycle
    → d ≡ cycle
in_cycle n w s j seat server d ended c laden at traced =
    let o = j.order in
    work_cycle o.part server d ended (o.each seat (serving server (working d) ended laden) at).fits
    ∙ ap cycle_of (sym (part_phase n s.words s.facets.phases o o.seat o.part o.pending o.here) ∙ traced)

module _ (w : Facts) (s : JointScene) (seat : ℕ) (t : TracerView) (notice_at ended : ℕ) (facets : List LiveFacet)
    (before : List Point) where
  abbrev v : Serving
  v = record { tracer = t; notice_at = notice_at; ended = ended; stage = Tracing }

  module _ (stands : ServerStands t.shape w s seat v) (fits : Fits v (found_by v s.words)) where
    abbrev u : TracerView
    u = tracer.fed t (finds (tracer.next_of t) s.words)

    facet_is : (step : Step) → server_live (traced v u step) ≡ counting u.server u.cycle u.lives (tracer_owed u.stage)
    facet_is (Do act) = refl
    facet_is NoStep = refl

    measured_is : (step : Step) → (h : Heap) → IsMeasured h u.stage → IsMeasured h (traced v u step).tracer.stage
    measured_is (Do act) h is = is
    measured_is NoStep h is = is

    pub tracing_goes : LivesStand t.shape w s facets before t.cycle seat v
        → LivesGo t.shape w s facets before t.cycle seat v
    tracing_goes c =
        let goes = stage_counts w s seat t ended facets before t.stage
        (tracer_at w s seat t notice_at ended stands fits) (record {
          counts = c.counts;
          here = c.here;
          traced = c.traced;
          later = c.after;
          split = c.split;
          measured = c.measured;
        }) in
        record {
          counts =
              subst (λ f. AreCounted t.shape w (words_stepped (tracer.next_of t) s.words) (set facets seat f) before
              t.cycle) (sym (facet_is (tracer.next_of u))) goes.counts;
          here = get_set_same facets seat _ _ c.here;
          traced =
              phase_stays t.shape s.words (words_stepped (tracer.next_of t) s.words) t.cycle goes.phase_same c.traced;
          after = c.after;
          split = c.split;
          measured = measured_is (tracer.next_of u) (state_of w s.front.history) goes.measured;
        }

-- ---- a turn

begun_facet : (n : Numbers) (t : TracerView) (cycle : ℕ) → n ≡ t.shape → (b : Bool) → (cycle == t.cycle) ≡ b
    → ((t.cycle ≡ cycle) × ((if b then t.lives else replicate t.shape.tablets 0) ≡ t.lives))
    ⊎ ((t.cycle ≢ cycle) × ((if b then t.lives else replicate t.shape.tablets 0) ≡ replicate n.tablets 0))
begun_facet n t cycle shape true e = inl (grind (arith, nat_tests), refl)
begun_facet n t cycle shape false e =
    inr ((λ z. absurd (grind (arith, nat_tests))), ap (λ (m : Numbers). replicate m.tablets 0) (sym shape))

module _ (n : Numbers) (w : Facts) (s : JointScene) (facets : List LiveFacet) (before : List Point) (cycle seat : ℕ)
    (v : Serving) (stands : ServerStands n w s seat v) (turning : v.stage ≡ Turning)
    (c : LivesStand n w s facets before cycle seat v) where
  abbrev t : TracerView
  t = v.tracer

  abbrev turned_from : TracerView
  turned_from = record t { cycle = cycle; lives = if cycle == t.cycle then t.lives else replicate t.shape.tablets 0 }

  rests : tracer.next_of t ≡ NoStep
  rests = subst (StageIsKnown t) turning stands.keeps.known.stage

  here : slice_get facets seat ≡ Some (counting t.server t.cycle t.lives None)
  here = c.here ∙ ap (λ x. Some (counting t.server t.cycle t.lives (tracer_owed x))) (at_end t t.stage rests)

  found_is : phase_at (word_at n s.words phase) ≡ Trace cycle
  unfolding phase_of
  found_is = c.traced

  facet : counting t.server cycle turned_from.lives None ≡ server_live (turned v (Trace cycle))
  facet =
      let l = next_work_leads turned_from in
      same_counting t.server (begun t cycle).server cycle (begun t cycle).cycle turned_from.lives (begun t cycle).lives
      None (tracer_owed (begun t cycle).stage) (sym (begun_same t cycle).server) (sym l.cycle) (sym l.lives)
      (sym l.owed)

  by_counts : ((t.cycle ≡ cycle) × (turned_from.lives ≡ t.lives))
      ⊎ ((t.cycle ≢ cycle) × (turned_from.lives ≡ replicate n.tablets 0))
      → AreCounted n w s.words (set facets seat (counting t.server cycle turned_from.lives None)) before cycle
  by_counts (inl same) =
      subst (λ fs. AreCounted n w s.words fs before cycle)
      (sym (set_back facets seat (counting t.server cycle turned_from.lives None)
      (here ∙ ap (λ f. Some f) (same_counting t.server t.server t.cycle cycle t.lives turned_from.lives None None refl
      same.0 (sym same.1) refl)))) c.counts
  by_counts (inr other) =
      subst (λ counts. AreCounted n w s.words (set facets seat (counting t.server cycle counts None)) before cycle)
      (sym other.1)
      (counts_kept n w before cycle (record { words = s.words; facets = facets }) _ c.counts
      (lives.Begins seat t.server t.cycle t.lives here other.0 refl))

  counts_after : AreCounted n w s.words (set facets seat (server_live (turned v (Trace cycle)))) before cycle
  counts_after =
      subst (λ f. AreCounted n w s.words (set facets seat f) before cycle) facet
      (by_counts (begun_facet n t cycle (sym stands.keeps.tracer.shape_is) (cycle == t.cycle) refl))

  words_same : words_next v s.words ≡ s.words
  words_same =
      ap (λ x. words_stepped (stage_next t x) s.words) turning
      ∙ set-get_or s.words (index t.shape phase) 0

  next_is : server_next v s.words ≡ turned v (Trace cycle)
  next_is =
      let shape = stands.keeps.tracer.shape_is in
      ap (λ x. stage_fed v x (finds (stage_next t x) s.words)) turning
      ∙ ap (λ p. turned v p) (ap (λ (m : Numbers). phase_at (word_at m s.words phase)) shape ∙ found_is)

  turn_counts : LivesGo n w s facets before cycle seat v
  turn_counts = record {
    counts = subst (λ ws. AreCounted n w ws (set facets seat (server_live (server_next v s.words))) before cycle)
        (sym words_same)
        (subst (λ (x : Serving). AreCounted n w s.words (set facets seat (server_live x)) before cycle) (sym next_is)
        counts_after);
    here = get_set_same facets seat _ _ c.here;
    traced = subst (λ ws. phase_of n ws ≡ Trace cycle) (sym words_same) c.traced;
    after = c.after;
    split = c.split;
    measured = subst (λ (x : Serving). IsMeasured (state_of w s.front.history) x.tracer.stage) (sym next_is)
        ((next_work_leads turned_from).measured (state_of w s.front.history));
  }

pub turns_count : TurnsCount
turns_count n w s facets before cycle seat v stands e c = turn_counts n w s facets before cycle seat v stands e c
