-- Live counts past a step of a server, and what the collector has found.
use Rattle.std.proofs.Common.{◌≡◌, ◌≢◌, ℕ, Bool, true, false, List, ◌∷◌, ◌++◌, set, slice_get, Some, sym, ap, subst}
use Rattle.std.proofs.Common.{refl, ◌∙◌}
use Rattle.mako_words.specs.declared.phase_word.PhaseWord.{PhaseWord}
use Rattle.mako_words.specs.declared.phase_word.PhaseWord.TheVariants.{Idle, Trace, Evac, Stop}
use Rattle.mako_words.specs.Phases.{phase_at}
use Rattle.mako_shape.specs.declared.numbers.Numbers.{Numbers}
use Rattle.mako_shape.specs.Places.{phase, word_at}
use Rattle.mako_step.specs.Acts.{finds}
use Rattle.mako_step.specs.declared.step.Step.{Step}
use Rattle.mako_step.specs.declared.step.Step.TheVariants.{Do, Ended as NoStep}
use Rattle.mako_model.specs.declared.point.Point.{Point}
use Rattle.mako_model.specs.declared.point.Point.TheVariants.{Snap}
use Rattle.mako_model.specs.Legal.{Facts, IsLegal, state_of}
use Rattle.mako_model.specs.Sizes.{ObjectsAreSmall}
use Rattle.mako_names.specs.Tables.{phase_of}
use Rattle.mako_ring.specs.Tracing as tracer
use Rattle.mako_ring.specs.Tracing.{TracerView}
use Rattle.mako_ring.specs.TraceFacets.{empty}
use Rattle.mako_ring.specs.TracerFacets.{hand_of}
use Rattle.mako_ring.specs.declared.tracing.MarkStage.TheVariants.{Considering, Measuring, Marking as EntryMark}
use Rattle.mako_ring.specs.declared.tracing.MarkStage.TheVariants.{Counting}
use Rattle.mako_ring.specs.declared.tracing.TraceStage.{TraceStage}
use Rattle.mako_ring.specs.declared.tracing.TraceStage.TheVariants.{Sending, Scanning, Receiving, Marking, Resting}
use Rattle.mako_ring.specs.declared.tracing.TraceStage.TheVariants.{Ended as AtEnd}
use Rattle.mako_phases.specs.Facets as order
use Rattle.mako_phases.specs.Lives.{LiveFacet, AreCounted, ArePast}
use Rattle.mako_phases.specs.Snapshots.{before_snap}
use Rattle.mako_phases.proofs.LiveLaws.{past_stays}
use Rattle.mako_phases.proofs.Snapshots.{snapshots_one}
use Rattle.mako_joint.specs.Joints.{JointScene, trace_in, TracksFit}
use Rattle.mako_server.specs.declared.stage.ServerStage.TheVariants.{Turning, Tracing}
use Rattle.mako_server.specs.Serving.{Serving, stage_next, stage_fed, turned, traced}
use Rattle.mako_tracing.specs.Laws.{words_next, server_next, ServerStands, LowWhileTraced}
use Rattle.mako_tracing.specs.ServerFacets.{server_live, tracer_laden, stage_order}
use Rattle.mako_tracing.specs.ServerLives.{IsMeasured, LivesStand, LivesGo, LivesRest, IsUntraced}
use Rattle.mako_tracing.proofs.Leading.{IsPlain, plain_leads}
use Rattle.mako_tracing.proofs.LowCounts.{counts_low}
use Rattle.mako_tracing.proofs.Resting.{unladen_rest}
use Rattle.mako_tracing.proofs.Tracers.{laden_traces}
use Rattle.mako_tracing.proofs.Lists.{set_back}
use Rattle.mako_tracing.proofs.PastCounts.{found_untraced}
use Rattle.mako_names.proofs.Words.{phase_same}
use Rattle.mako_sitting.specs.Seats.{LivesFit}

-- ---- where no cycle is traced

empty_plain : (x : TraceStage) → hand_of x ≡ empty → IsPlain x
empty_plain (Sending s) e = tt
empty_plain (Scanning s) e = tt
empty_plain (Receiving s) e = tt
empty_plain (Marking (Considering x)) e = tt
empty_plain (Marking (Measuring x y)) e = absurd (let b : ⊥ = cc in b)
empty_plain (Marking (EntryMark x y z)) e = absurd (let b : ⊥ = cc in b)
empty_plain (Marking (Counting x y)) e = absurd (let b : ⊥ = cc in b)
empty_plain (Resting s) e = tt
empty_plain AtEnd e = tt

turned_stage : (v : Serving) (p : PhaseWord) → ((c : ℕ) → p ≢ Trace c) → (turned v p).tracer ≡ v.tracer
turned_stage v (Idle c) untraced = refl
turned_stage v (Trace c) untraced = absurd (untraced c refl)
turned_stage v (Evac c) untraced = refl
turned_stage v (Stop c) untraced = refl

traced_tracer : (v : Serving) (t : TracerView) (step : Step) → (traced v t step).tracer ≡ t
traced_tracer v t (Do act) = refl
traced_tracer v t NoStep = refl

-- who traces has nothing in hand then
pub untraced_unladen : (n : Numbers) (w : Facts) (s : JointScene) (seat : ℕ) (v : Serving) → ServerStands n w s seat v
    → v.stage ≡ Tracing → IsUntraced n s → tracer_laden v.tracer ≡ false
untraced_unladen n w s seat v stands e untraced = by (tracer_laden v.tracer) refl
  where
    here : slice_get s.facets.phases seat
        ≡ Some (order.serving v.tracer.server (order.working v.tracer.cycle) v.ended (tracer_laden v.tracer))
    here =
        stands.here.phase
        ∙ ap (λ k. Some (order.serving v.tracer.server (stage_order v.tracer k) v.ended (tracer_laden v.tracer))) e

    by : (b : Bool) → tracer_laden v.tracer ≡ b → b ≡ false
    by true is =
        absurd (untraced v.tracer.cycle (laden_traces n w s stands.joint seat v.tracer.server v.tracer.cycle v.ended
        (here ∙ ap (λ k. Some (order.serving v.tracer.server (order.working v.tracer.cycle) v.ended k)) is)))
    by false is = refl

module _ (n : Numbers) (w : Facts) (s : JointScene) (seat : ℕ) (v : Serving) (stands : ServerStands n w s seat v) where
  abbrev pub u : Serving
  u = server_next v s.words

  pub turned_measured : v.stage ≡ Turning → IsUntraced n s → IsMeasured (state_of w s.front.history) v.tracer.stage
      → IsMeasured (state_of w s.front.history) u.tracer.stage
  turned_measured e untraced measured =
      let next_is : u ≡ turned v (phase_at (word_at n s.words phase)) =
      ap (λ x. stage_fed v x (finds (stage_next v.tracer x) s.words)) e
      ∙ ap (λ (m : Numbers). turned v (phase_at (word_at m s.words phase))) stands.keeps.tracer.shape_is in
      subst (λ (t : TracerView). IsMeasured (state_of w s.front.history) t.stage)
      (sym (ap (λ (x : Serving). x.tracer) next_is
      ∙ turned_stage v (phase_at (word_at n s.words phase)) (found_untraced n s untraced))) measured

  pub traced_measured : v.stage ≡ Tracing → IsUntraced n s → IsMeasured (state_of w s.front.history) u.tracer.stage
  traced_measured e untraced =
      let t = tracer.fed v.tracer (finds (tracer.next_of v.tracer) s.words) in
      let next_is : u.tracer ≡ t =
      ap (λ x. (stage_fed v x (finds (stage_next v.tracer x) s.words)).tracer) e
      ∙ traced_tracer v t (tracer.next_of t) in
      let plain = empty_plain v.tracer.stage
      (unladen_rest v.tracer (untraced_unladen n w s seat v stands e untraced)).0.0 in
      subst (λ (q : TracerView). IsMeasured (state_of w s.front.history) q.stage) (sym next_is)
      ((plain_leads v.tracer v.tracer.stage (finds (tracer.next_of v.tracer) s.words) stands.keeps.scan plain).measured
      (state_of w s.front.history))

  -- ---- while a cycle is traced

  module _ (lives : List LiveFacet) (here : slice_get lives seat ≡ Some (server_live v))
      (measured : IsMeasured (state_of w s.front.history) v.tracer.stage) where
    lives_stand : (c : ℕ) → phase_of n s.words ≡ Trace c
        → AreCounted n w s.words lives (before_snap c s.front.history) c
        → LivesStand n w s lives (before_snap c s.front.history) c seat v
    lives_stand c is counts =
        let known = (subst (λ p. TracksFit p n w (trace_in s)) is stands.joint.tracks).tracing in
        let legal = stands.joint.names.hold.answers.lawful.legal in
        let one : before_snap c s.front.history ≡ known.before =
        ap (before_snap c) known.split
        ∙ snapshots_one w known.before known.after c (subst (IsLegal w) known.split legal) in record {
          counts = counts;
          here = here;
          traced = is;
          after = known.after;
          split = known.split ∙ ap (λ (points : List Point). points ++ Snap c ∷ known.after) (sym one);
          measured = measured;
        }

    -- live counts are right after the step, and a record that is marked next was measured
    pub record CountsGo : Type 0 where
      pub right : LivesFit (phase_of n (words_next v s.words)) n w (words_next v s.words) s.front.history
          (set lives seat (server_live u))
      pub sized : IsMeasured (state_of w s.front.history) u.tracer.stage

    goes_traced : (c : ℕ) → phase_of n s.words ≡ Trace c
        → LivesGo n w s lives (before_snap c s.front.history) c seat v → CountsGo
    goes_traced c is go = record {
      right = subst (λ p. LivesFit p n w (words_next v s.words) s.front.history (set lives seat (server_live u)))
          (sym go.traced) go.counts;
      sized = go.measured;
    }

    same_facets : LivesRest n s v → set lives seat (server_live u) ≡ lives
    same_facets rest = set_back lives seat (server_live u) (here ∙ ap (λ f. Some f) (sym rest.facet))

    goes_past : (p : PhaseWord) (c : ℕ) → phase_of n s.words ≡ p
        → word_at n (words_next v s.words) phase ≡ word_at n s.words phase
        → LivesRest n s v → ArePast n s.words lives c
        → (ArePast n (words_next v s.words) lives c
        → LivesFit p n w (words_next v s.words) s.front.history lives)
        → IsMeasured (state_of w s.front.history) u.tracer.stage → CountsGo
    goes_past p c is same rest past fits m = record {
      right = subst (λ q. LivesFit q n w (words_next v s.words) s.front.history (set lives seat (server_live u)))
          (sym (phase_same n s.words (words_next v s.words) same ∙ is))
          (subst (LivesFit p n w (words_next v s.words) s.front.history) (sym (same_facets rest))
          (fits (past_stays n s.words (words_next v s.words) lives c past rest.words)));
      sized = m;
    }

    pub low_counts : ObjectsAreSmall (state_of w s.front.history) → v.stage ≡ Tracing
        → LivesFit (phase_of n s.words) n w s.words s.front.history lives → LowWhileTraced n s v
    low_counts few e fit c is =
        counts_low n w s lives (before_snap c s.front.history) c seat v stands e
        (lives_stand c is (subst (λ p. LivesFit p n w s.words s.front.history lives) is fit)) few

    module _ (same : word_at n (words_next v s.words) phase ≡ word_at n s.words phase)
        (count : (before : List Point) (c : ℕ) → LivesStand n w s lives before c seat v
        → LivesGo n w s lives before c seat v) (leave : IsUntraced n s → LivesRest n s v)
        (measure : IsUntraced n s → IsMeasured (state_of w s.front.history) u.tracer.stage) where
      untraced_as : (p : PhaseWord) → phase_of n s.words ≡ p → ((c : ℕ) → p ≢ Trace c) → IsUntraced n s
      untraced_as p is none c traced = none c (sym is ∙ traced)

      pub counts_go : (p : PhaseWord) → phase_of n s.words ≡ p → LivesFit p n w s.words s.front.history lives → CountsGo
      counts_go (Trace c) is fit =
          goes_traced c is (count (before_snap c s.front.history) c (lives_stand c is fit))
      counts_go (Idle c) is fit =
          let no = untraced_as (Idle c) is (λ k e. cc) in
          goes_past (Idle c) c is same (leave no) fit (λ f. f) (measure no)
      counts_go (Evac c) is fit =
          let no = untraced_as (Evac c) is (λ k e. cc) in
          goes_past (Evac c) c is same (leave no) fit (λ f. f) (measure no)
      counts_go (Stop c) is fit =
          let no = untraced_as (Stop c) is (λ k e. cc) in
          goes_past (Stop c) c is same (leave no) fit (λ f. f) (measure no)
