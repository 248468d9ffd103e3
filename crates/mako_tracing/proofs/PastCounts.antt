-- Where no cycle is traced, the steps of servers leave live counts.
use Rattle.std.proofs.Common.{◌≡◌, ◌≢◌, ℕ, [], sym, ap, subst, refl, ◌∙◌}
use Rattle.std.proofs.lemmas.List.{set-get_or}
use Rattle.mako_words.specs.declared.phase_word.PhaseWord.{PhaseWord}
use Rattle.mako_words.specs.declared.phase_word.PhaseWord.TheVariants.{Idle, Trace, Evac, Stop}
use Rattle.mako_words.specs.Phases.{phase_at}
use Rattle.mako_shape.specs.declared.numbers.Numbers.{Numbers}
use Rattle.mako_shape.specs.Places.{phase, live, index, word_at}
use Rattle.mako_step.specs.Acts.{words_stepped, finds}
use Rattle.mako_step.specs.declared.step.Step.{Step}
use Rattle.mako_step.specs.declared.step.Step.TheVariants.{Do, Ended as NoStep}
use Rattle.mako_model.specs.Legal.{Facts}
use Rattle.mako_names.specs.Tables.{phase_of}
use Rattle.mako_ring.specs.Tracing as tracer
use Rattle.mako_ring.specs.Tracing.{TracerView, owner, window_of, head_slot, slot_of, own_tablet, live_of, at_stage}
use Rattle.mako_ring.specs.Tracing.{next_work, begun}
use Rattle.mako_phases.specs.Lives.{counting}
use Rattle.mako_joint.specs.Joints.{JointScene}
use Rattle.mako_server.specs.declared.stage.ServerStage.{ServerStage}
use Rattle.mako_server.specs.declared.stage.ServerStage.TheVariants.{Tracing}
use Rattle.mako_server.specs.Serving.{Serving, Fits, stage_next, stage_fed, turned, traced}
use Rattle.mako_tracing.specs.Laws.{words_next, found_by, server_next, ServerStands}
use Rattle.mako_tracing.specs.ServerFacets.{tracer_owed, server_live}
use Rattle.mako_tracing.specs.ServerLives.{LivesRest, IsUntraced, TracingLeavesCounts, TurnsLeaveCounts}
use Rattle.mako_tracing.proofs.Traced.{tracer_at}
use Rattle.mako_tracing.proofs.Fitting.{found_fits}
use Rattle.mako_tracing.proofs.Counting.{lives_rest}

module _ (w : Facts) (s : JointScene) (seat : ℕ) (t : TracerView) (notice_at ended : ℕ) where
  abbrev v : Serving
  v = record { tracer = t; notice_at = notice_at; ended = ended; stage = Tracing }

  abbrev u : TracerView
  u = tracer.fed t (finds (tracer.next_of t) s.words)

  facet_is : (step : Step) → server_live (traced v u step) ≡ counting u.server u.cycle u.lives (tracer_owed u.stage)
  facet_is (Do act) = refl
  facet_is NoStep = refl

  tracing_rests : ServerStands t.shape w s seat v → Fits v (found_by v s.words) → IsUntraced t.shape s
      → LivesRest t.shape s v
  tracing_rests stands fits untraced =
      let rests =
      lives_rest w s seat t ended [] [] t.stage (tracer_at w s seat t notice_at ended stands fits) untraced in
      record { facet = facet_is (tracer.next_of u) ∙ rests.0; words = rests.1 }

pub tracing_leaves : TracingLeavesCounts
tracing_leaves n w s seat v stands e few untraced =
    by v.stage e n stands.keeps.tracer.shape_is stands
    (found_fits n w s seat v stands e few (λ c traced. absurd (untraced c traced))) untraced
  where
    at : ServerStage → Serving
    at stage = record { tracer = v.tracer; notice_at = v.notice_at; ended = v.ended; stage = stage }

    by : (stage : ServerStage) → stage ≡ Tracing → (m : Numbers) → v.tracer.shape ≡ m
        → ServerStands m w s seat (at stage) → Fits (at stage) (found_by (at stage) s.words) → IsUntraced m s
        → LivesRest m s (at stage)
    by stage is m shape =
        subst (λ k. ServerStands k w s seat (at stage) → Fits (at stage) (found_by (at stage) s.words) → IsUntraced k s
        → LivesRest k s (at stage)) shape
        (subst (λ x. ServerStands v.tracer.shape w s seat (at x) → Fits (at x) (found_by (at x) s.words)
        → IsUntraced v.tracer.shape s → LivesRest v.tracer.shape s (at x)) (sym is)
        (tracing_rests w s seat v.tracer v.notice_at v.ended))

-- ---- a turn

turned_facet : (v : Serving) (p : PhaseWord) → ((c : ℕ) → p ≢ Trace c) → server_live (turned v p) ≡ server_live v
turned_facet v (Idle c) untraced = refl
turned_facet v (Trace c) untraced = absurd (untraced c refl)
turned_facet v (Evac c) untraced = refl
turned_facet v (Stop c) untraced = refl

pub found_untraced : (n : Numbers) (s : JointScene) → IsUntraced n s → (c : ℕ)
    → phase_at (word_at n s.words phase) ≢ Trace c
unfolding phase_of
found_untraced n s untraced c is = untraced c is

pub turns_leave : TurnsLeaveCounts
turns_leave n w s seat v stands e untraced =
    let shape = stands.keeps.tracer.shape_is in
    let next_is : server_next v s.words ≡ turned v (phase_at (word_at n s.words phase)) =
    ap (λ x. stage_fed v x (finds (stage_next v.tracer x) s.words)) e
    ∙ ap (λ (m : Numbers). turned v (phase_at (word_at m s.words phase))) shape in
    let words_are : words_next v s.words ≡ s.words =
    ap (λ x. words_stepped (stage_next v.tracer x) s.words) e ∙ set-get_or s.words (index v.tracer.shape phase) 0 in
    record {
      facet = ap server_live next_is
          ∙ turned_facet v (phase_at (word_at n s.words phase)) (found_untraced n s untraced);
      words = λ t within. ap (λ ws. word_at n ws (live t)) words_are;
    }
