-- A step of a server keeps its numbers in their ranges, and lowers the rank of its job.
use Rattle.std.proofs.Common.{◌≡◌, ℕ, Bool, true, false, not, ◌<◌, ◌≤◌, ◌^◌, ◌==◌, ◌||◌, if◌then◌else◌, refl, sym}
use Rattle.std.proofs.Common.{subst, arith}
use Rattle.mako_words.specs.Phases.{phase_at}
use Rattle.mako_words.specs.declared.phase_word.PhaseWord.{PhaseWord}
use Rattle.mako_words.specs.declared.phase_word.PhaseWord.TheVariants.{Idle, Trace, Evac, Stop}
use Rattle.mako_shape.specs.declared.numbers.Numbers.{Numbers}
use Rattle.mako_shape.specs.Limits.{IsShape}
use Rattle.mako_step.specs.Machines.{IsAct, Lowers}
use Rattle.mako_step.specs.declared.step.Step.{Step}
use Rattle.mako_step.specs.declared.step.Step.TheVariants.{Do, Ended as NoStep}
use Rattle.mako_step.proofs.Cases.{by_bool}
use Rattle.mako_ring.specs.Tracing as tracing
use Rattle.mako_ring.specs.Tracing.{TracerView, begun}
use Rattle.mako_trace.specs.Held.{IsKnown as TracerIsKnown}
use Rattle.mako_trace.specs.Ranks as tracing_ranks
use Rattle.mako_trace.proofs.Known as tracer_known
use Rattle.mako_trace.proofs.Lowering as tracer_lowering
use Rattle.mako_trace.proofs.SameServer.{SameServer, begun_same, fed_same}
use Rattle.mako_evac.specs.Evacuating as evacuating
use Rattle.mako_evac.specs.Evacuating.{Evacuation}
use Rattle.mako_evac.specs.Tablets.{ends}
use Rattle.mako_evac.specs.Owners.{IsOwner}
use Rattle.mako_evac.proofs.Going as evacuation_going
use Rattle.mako_server.specs.declared.stage.ServerStage.{ServerStage}
use Rattle.mako_server.specs.declared.stage.ServerStage.TheVariants.{Turning, Tracing, Evacuating, Ended}
use Rattle.mako_server.specs.Serving.{Serving, opening, stage_next, next_of, owner_in, turned, traced, evacuated}
use Rattle.mako_server.specs.Serving.{stage_fed, fed, PhaseFits, StageFits, Fits, phase_waits, stage_waits, is_waiting}
use Rattle.mako_server.specs.Serving.{phase_renews, stage_renewed, is_renewed, stage_rank, rank, StageIsKnown, IsKnown}
use Rattle.mako_server.proofs.Beginnings.{new_tracer_known, begun_acts, opening_acts, opening_known}

-- the last cycle that it has ended fits its bits
pub ended_fits : (v : Serving) → IsKnown v → v.ended < 2 ^ 20
ended_fits v known =
    let each = known.tracer.held.shape.in_range.each in
    let most = known.ended in
    omega (arith, each, most)

-- ---- the numbers are in their ranges, and stay in them
pub opening_is_known : (n : Numbers) (s : ℕ) → IsShape n → s < n.servers → IsKnown (opening n s)
opening_is_known n s shape server =
    let each = shape.in_range.each in
    record {
      tracer = new_tracer_known n s shape server;
      notice_at = omega (arith, each);
      ended = omega arith;
      stage = refl;
    }

-- what is kept beside the tracing is in range, whatever becomes of the tracing and the stage
with_tracer : (v : Serving) (t : TracerView) (stage : ServerStage) → IsKnown v → SameServer v.tracer t → TracerIsKnown t
    → StageIsKnown t stage →
    IsKnown (record v { tracer = t; stage = stage })
with_tracer v t stage known same of stands = record {
  tracer = of;
  notice_at = subst (λ (n : Numbers). v.notice_at < n.ring) (sym same.shape) known.notice_at;
  ended = subst (λ (n : Numbers). v.ended ≤ n.cycles) (sym same.shape) known.ended;
  stage = stands;
}

at_stage_known : (v : Serving) (stage : ServerStage) → IsKnown v → StageIsKnown v.tracer stage
    → IsKnown (record v { stage = stage })
at_stage_known v stage known stands = record {
  tracer = known.tracer;
  notice_at = known.notice_at;
  ended = known.ended;
  stage = stands;
}

turned_known : (v : Serving) (p : PhaseWord) → IsKnown v → tracing.next_of v.tracer ≡ NoStep
    → PhaseFits v.tracer.shape p → IsKnown (turned v p)
turned_known v (Idle c) known rests fits = at_stage_known v Turning known rests
turned_known v (Trace c) known rests fits =
    with_tracer v (begun v.tracer c) Tracing known (begun_same v.tracer c)
    (tracer_known.begun_known v.tracer c known.tracer fits.to) (begun_acts v.tracer c)
turned_known v (Evac c) known rests fits =
    let o = owner_in v.tracer c in
    let owner : IsOwner o = record {
      shape = known.tracer.held.shape;
      server = known.tracer.held.server;
      begun = fits.from;
      cycle = fits.to;
    } in
    by_bool (λ b. IsKnown (record v { stage = if b then Turning else Evacuating (evacuating.opening o v.notice_at) }))
    (c == v.ended)
    (λ _. at_stage_known v Turning known rests)
    (λ _. at_stage_known v (Evacuating (evacuating.opening o v.notice_at)) known (
      rests,
      record {
        known = opening_known o v.notice_at owner known.notice_at;
        shape = refl;
        server = refl;
        acts = opening_acts o v.notice_at;
      },
    ))
turned_known v (Stop c) known rests fits = at_stage_known v Ended known rests

traced_known : (v : Serving) (t : TracerView) (next : Step) → tracing.next_of t ≡ next → IsKnown v
    → SameServer v.tracer t → TracerIsKnown t → IsKnown (traced v t next)
traced_known v t (Do act) at known same of = with_tracer v t Tracing known same of (subst IsAct (sym at) tt)
traced_known v t NoStep at known same of = with_tracer v t Turning known same of at

evacuated_known : (v : Serving) (e : Evacuation) (next : Step) → evacuating.next_of e ≡ next → IsKnown v
    → tracing.next_of v.tracer ≡ NoStep →
    evacuating.IsKnown e → e.owner.shape ≡ v.tracer.shape → e.owner.server ≡ v.tracer.server
    → IsKnown (evacuated v e next)
evacuated_known v e (Do act) at known rests of shape server =
    at_stage_known v (Evacuating e) known (
      rests,
      record {
        known = of;
        shape = shape;
        server = server;
        acts = subst IsAct (sym at) tt;
      },
    )
evacuated_known v e NoStep at known rests of shape server = record {
  tracer = known.tracer;
  notice_at = subst (λ (n : Numbers). e.at < n.ring) shape of.at;
  ended = subst (λ (n : Numbers). e.owner.cycle ≤ n.cycles) shape of.owner.cycle;
  stage = rests;
}

stage_known : (v : Serving) (stage : ServerStage) (w : ℕ) → IsKnown v → StageIsKnown v.tracer stage
    → StageFits v.tracer stage w → IsAct (stage_next v.tracer stage) →
    IsKnown (stage_fed v stage w)
stage_known v Turning w known stands fits acts = turned_known v (phase_at w) known stands fits.1
stage_known v Tracing w known stands fits acts =
    let t = tracing.fed v.tracer w in
    traced_known v t (tracing.next_of t) refl known (fed_same v.tracer w)
    (tracer_known.known_fed v.tracer w known.tracer fits)
stage_known v (Evacuating e) w known stands fits acts =
    let after = evacuating.fed e w in
    let of = stands.1 in
    evacuated_known v after (evacuating.next_of after) refl known stands.0
    (evacuation_going.step_known e w of.known fits acts) of.shape of.server
stage_known v Ended w known stands fits acts = absurd acts

-- the server after a step is known
pub known_fed : (v : Serving) (w : ℕ) → IsKnown v → Fits v w → IsAct (next_of v) → IsKnown (fed v w)
known_fed v w known fits acts = stage_known v v.stage w known known.stage fits acts

-- ---- the rank of the job is lowered
turned_lowers : (v : Serving) (p : PhaseWord) → phase_waits v.ended p ≡ false
    → Lowers (phase_renews v.ended p) 1 (rank (turned v p))
turned_lowers v (Idle c) moves = absurd (cc)
turned_lowers v (Trace c) moves = omega arith
turned_lowers v (Evac c) moves =
    by_bool (λ b. b ≡ false
    → Lowers (not b) 1 (stage_rank v.tracer
    (if b then Turning else Evacuating (evacuating.opening (owner_in v.tracer c) v.notice_at)))) (c == v.ended)
    (λ _. λ e. absurd (cc)) (λ _. λ _. omega arith) moves
turned_lowers v (Stop c) moves = omega arith

-- the last step of a job finds its rank above 0
some_rank : (renewed : Bool) (before after : ℕ) → Lowers renewed before after → 0 < before
some_rank true before after lower = lower
some_rank false before after lower = omega (arith, lower)

traced_lowers : (v : Serving) (t : TracerView) (next : Step) (renewed : Bool) (before : ℕ)
    → Lowers renewed before (tracing_ranks.rank t) →
    Lowers (ends next || renewed) before (rank (traced v t next))
traced_lowers v t (Do act) renewed before lower = lower
traced_lowers v t NoStep renewed before lower = some_rank renewed before (tracing_ranks.rank t) lower

evacuated_lowers : (v : Serving) (e : Evacuation) (next : Step) (renewed : Bool) (before : ℕ)
    → Lowers renewed before (evacuating.rank e) →
    Lowers (ends next || renewed) before (rank (evacuated v e next))
evacuated_lowers v e (Do act) renewed before lower = lower
evacuated_lowers v e NoStep renewed before lower = some_rank renewed before (evacuating.rank e) lower

stage_lowers : (v : Serving) (stage : ServerStage) (w : ℕ) → IsKnown v → StageIsKnown v.tracer stage
    → StageFits v.tracer stage w → IsAct (stage_next v.tracer stage) →
    stage_waits v.ended stage w ≡ false
    → Lowers (stage_renewed v stage w) (stage_rank v.tracer stage) (rank (stage_fed v stage w))
stage_lowers v Turning w known stands fits acts moves = turned_lowers v (phase_at w) moves
stage_lowers v Tracing w known stands fits acts moves =
    let t = tracing.fed v.tracer w in
    traced_lowers v t (tracing.next_of t) (tracing_ranks.is_renewed v.tracer w) (tracing_ranks.rank v.tracer)
    (tracer_lowering.step_lowers v.tracer w acts known.tracer fits)
stage_lowers v (Evacuating e) w known stands fits acts moves =
    let after = evacuating.fed e w in
    evacuated_lowers v after (evacuating.next_of after) (evacuating.is_renewed e w) (evacuating.rank e)
    ((evacuation_going.step_goes e w stands.1.known fits acts).lower moves)
stage_lowers v Ended w known stands fits acts moves = absurd acts

-- each step but a look that waits lowers the rank of the job
pub step_lowers : (v : Serving) (w : ℕ) → IsKnown v → Fits v w → IsAct (next_of v) → is_waiting v w ≡ false
    → Lowers (is_renewed v w) (rank v) (rank (fed v w))
step_lowers v w known fits acts moves = stage_lowers v v.stage w known known.stage fits acts moves
