-- A server as a machine: its turns on the phase word, with its tracing and its evacuations in it.
use Rattle.std.specs.Prelude.{◌≡◌, ℕ, Bool, true, false, ◌<◌, ◌≤◌, ◌==◌, ◌||◌, not, if◌then◌else◌}
use Rattle.mako_words.specs.Phases.{IsPackedPhase, phase_at}
use Rattle.mako_words.specs.declared.phase_word.PhaseWord.{PhaseWord}
use Rattle.mako_words.specs.declared.phase_word.PhaseWord.TheVariants.{Idle, Trace, Evac, Stop}
use Rattle.mako_shape.specs.declared.numbers.Numbers.{Numbers}
use Rattle.mako_shape.specs.Places.{index, phase}
use Rattle.mako_step.specs.Acts.{does}
use Rattle.mako_step.specs.Machines.{IsAct}
use Rattle.mako_step.specs.declared.act.Op.TheVariants.{Load}
use Rattle.mako_step.specs.declared.step.Step.{Step}
use Rattle.mako_step.specs.declared.step.Step.TheVariants.{Do, Ended as NoStep}
use Rattle.mako_ring.specs.Tracing as tracing
use Rattle.mako_ring.specs.Tracing.{TracerView, new_tracer, begun}
use Rattle.mako_trace.specs.Held.{IsKnown as TracerIsKnown}
use Rattle.mako_trace.specs.Ranks as tracing_ranks
use Rattle.mako_evac.specs.Evacuating as evacuating
use Rattle.mako_evac.specs.Evacuating.{Evacuation}
use Rattle.mako_evac.specs.Tablets.{ends}
use Rattle.mako_evac.specs.declared.owner.Owner.{Owner}
use Rattle.mako_server.specs.declared.stage.ServerStage.{ServerStage}
use Rattle.mako_server.specs.declared.stage.ServerStage.TheVariants.{Turning, Tracing, Evacuating, Ended}

-- its tracing, the slot of its notice ring for the next notice, the last cycle that it has ended, and the stage
pub record Serving : Type 0 where
  pub tracer : TracerView
  pub notice_at : ℕ
  pub ended : ℕ
  pub stage : ServerStage

-- before its first turn: with nothing of anything, and no cycle ended
abbrev pub opening : Numbers → ℕ → Serving
opening n s = record { tracer = new_tracer n s; notice_at = 0; ended = 0; stage = Turning }

-- ---- what it does next: load the phase; the act of its tracing, or of its evacuation
abbrev pub stage_next : TracerView → ServerStage → Step
stage_next t Turning = does (index t.shape phase) Load
stage_next t Tracing = tracing.next_of t
stage_next t (Evacuating e) = evacuating.next_of e
stage_next t Ended = NoStep

abbrev pub next_of : Serving → Step
next_of v = stage_next v.tracer v.stage

-- ---- what it becomes by the word found
-- the owner of its tablets, in a cycle
abbrev pub owner_in : TracerView → ℕ → Owner
owner_in t c = record { shape = t.shape; server = t.server; cycle = c }

-- Evac of the cycle that it has ended: it turns again. Evac of another: the evacuation begins
abbrev pub stage_in_evac : Serving → ℕ → ServerStage
stage_in_evac v c = if c == v.ended then Turning else Evacuating (evacuating.opening (owner_in v.tracer c) v.notice_at)

-- Idle: it turns again. Trace: a turn of the tracing begins. Stop: the end
abbrev pub turned : Serving → PhaseWord → Serving
turned v (Idle c) = record v { stage = Turning }
turned v (Trace c) = record v { tracer = begun v.tracer c; stage = Tracing }
turned v (Evac c) = record v { stage = stage_in_evac v c }
turned v (Stop c) = record v { stage = Ended }

-- the tracing after its step, by what it does next: with nothing in hand it turns again
abbrev pub traced : Serving → TracerView → Step → Serving
traced v t (Do act) = record v { tracer = t; stage = Tracing }
traced v t NoStep = record v { tracer = t; stage = Turning }

-- the evacuation after its step, by what it does next: past its end the cycle is ended, and it turns again
abbrev pub evacuated : Serving → Evacuation → Step → Serving
evacuated v e (Do act) = record v { stage = Evacuating e }
evacuated v e NoStep = record v { notice_at = e.at; ended = e.owner.cycle; stage = Turning }

abbrev pub stage_fed : Serving → ServerStage → ℕ → Serving
stage_fed v Turning w = turned v (phase_at w)
stage_fed v Tracing w = let t = tracing.fed v.tracer w in traced v t (tracing.next_of t)
stage_fed v (Evacuating e) w = let after = evacuating.fed e w in evacuated v after (evacuating.next_of after)
stage_fed v Ended w = v

abbrev pub fed : Serving → ℕ → Serving
fed v w = stage_fed v v.stage w

-- ---- the words that it can go on with
-- a cycle of the geometry
pub record IsCycle (n : Numbers) (c : ℕ) : Type 0 where
  pub from : 1 ≤ c
  pub to : c ≤ n.cycles

-- the cycle that is traced or evacuated is one of the geometry
abbrev pub PhaseFits : Numbers → PhaseWord → Type 0
PhaseFits n (Idle c) = Unit {0}
PhaseFits n (Trace c) = IsCycle n c
PhaseFits n (Evac c) = IsCycle n c
PhaseFits n (Stop c) = Unit {0}

abbrev pub StageFits : TracerView → ServerStage → ℕ → Type 0
StageFits t Turning w = IsPackedPhase w × PhaseFits t.shape (phase_at w)
StageFits t Tracing w = tracing.Fits t w
StageFits t (Evacuating e) w = evacuating.Fits e w
StageFits t Ended w = Unit {0}

abbrev pub Fits : Serving → ℕ → Type 0
Fits v w = StageFits v.tracer v.stage w

-- ---- looks, jobs and ranks
-- a look at the phase waits while no cycle runs, and while the cycle that it has ended is evacuated
abbrev pub phase_waits : ℕ → PhaseWord → Bool
phase_waits ended (Idle c) = true
phase_waits ended (Trace c) = false
phase_waits ended (Evac c) = c == ended
phase_waits ended (Stop c) = false

abbrev pub stage_waits : ℕ → ServerStage → ℕ → Bool
stage_waits ended Turning w = phase_waits ended (phase_at w)
stage_waits ended Tracing w = false
stage_waits ended (Evacuating e) w = evacuating.is_waiting e w
stage_waits ended Ended w = false

abbrev pub is_waiting : Serving → ℕ → Bool
is_waiting v w = stage_waits v.ended v.stage w

-- a look at the phase is a job; others are the jobs of the tracing and of the evacuation, whose end ends the last
abbrev pub phase_renews : ℕ → PhaseWord → Bool
phase_renews ended (Idle c) = false
phase_renews ended (Trace c) = true
phase_renews ended (Evac c) = not (c == ended)
phase_renews ended (Stop c) = false

abbrev pub stage_renewed : Serving → ServerStage → ℕ → Bool
stage_renewed v Turning w = phase_renews v.ended (phase_at w)
stage_renewed v Tracing w = ends (tracing.next_of (tracing.fed v.tracer w)) || tracing_ranks.is_renewed v.tracer w
stage_renewed v (Evacuating e) w = ends (evacuating.next_of (evacuating.fed e w)) || evacuating.is_renewed e w
stage_renewed v Ended w = false

abbrev pub is_renewed : Serving → ℕ → Bool
is_renewed v w = stage_renewed v v.stage w

abbrev pub stage_rank : TracerView → ServerStage → ℕ
stage_rank t Turning = 1
stage_rank t Tracing = tracing_ranks.rank t
stage_rank t (Evacuating e) = evacuating.rank e
stage_rank t Ended = 0

abbrev pub rank : Serving → ℕ
rank v = stage_rank v.tracer v.stage

-- ---- the ranges of its numbers
-- the evacuation is one of the server, and has not ended
pub record EvacuationIsKnown (t : TracerView) (e : Evacuation) : Type 0 where
  pub known : evacuating.IsKnown e
  pub shape : e.owner.shape ≡ t.shape
  pub server : e.owner.server ≡ t.server
  pub acts : IsAct (evacuating.next_of e)

-- it has something in hand only while it traces
abbrev pub StageIsKnown : TracerView → ServerStage → Type 0
StageIsKnown t Turning = tracing.next_of t ≡ NoStep
StageIsKnown t Tracing = IsAct (tracing.next_of t)
StageIsKnown t (Evacuating e) = (tracing.next_of t ≡ NoStep) × EvacuationIsKnown t e
StageIsKnown t Ended = tracing.next_of t ≡ NoStep

pub record IsKnown (v : Serving) : Type 0 where
  pub tracer : TracerIsKnown v.tracer
  pub notice_at : v.notice_at < v.tracer.shape.ring
  pub ended : v.ended ≤ v.tracer.shape.cycles
  pub stage : StageIsKnown v.tracer v.stage
