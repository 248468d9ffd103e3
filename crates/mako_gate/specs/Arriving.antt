-- The machine that arrives at a gate.
use Rattle.std.specs.Prelude.{ℕ, if◌then◌else◌}
use Rattle.mako_words.specs.Gates.{IsPackedGate, is_shut}
use Rattle.mako_step.specs.Acts.{does}
use Rattle.mako_step.specs.declared.act.Op.TheVariants.{Add, Sub}
use Rattle.mako_step.specs.declared.step.Step.{Step}
use Rattle.mako_step.specs.declared.step.Step.TheVariants.{Ended as NoStep}
use Rattle.mako_gate.specs.declared.arrive.Arrived.TheVariants.{Inside, Refused}
use Rattle.mako_gate.specs.declared.arrive.ArriveStage.{ArriveStage}
use Rattle.mako_gate.specs.declared.arrive.ArriveStage.TheVariants.{Arriving, TakingBack, Ended}

-- the gate's word, and the stage
pub record Arrival : Type 0 where
  pub word : ℕ
  pub stage : ArriveStage

abbrev pub arrival_next : ℕ → ArriveStage → Step
arrival_next word Arriving = does word (Add 1)
arrival_next word (TakingBack found) = does word (Sub 1)
arrival_next word (Ended arrived) = NoStep

abbrev pub next_of : Arrival → Step
next_of a = arrival_next a.word a.stage

abbrev pub stage_fed : ArriveStage → ℕ → ArriveStage
stage_fed Arriving w = if is_shut w then TakingBack w else Ended Inside
stage_fed (TakingBack found) w = Ended (Refused found)
stage_fed (Ended arrived) w = Ended arrived

abbrev pub fed : Arrival → ℕ → Arrival
fed a w = record { word = a.word; stage = stage_fed a.stage w }

abbrev pub StageFits : ArriveStage → ℕ → Type 0
StageFits Arriving w = IsPackedGate w
StageFits (TakingBack found) w = Unit {0}
StageFits (Ended arrived) w = Unit {0}

abbrev pub Fits : Arrival → ℕ → Type 0
Fits a w = StageFits a.stage w

abbrev pub stage_rank : ArriveStage → ℕ
stage_rank Arriving = 2
stage_rank (TakingBack found) = 1
stage_rank (Ended arrived) = 0

abbrev pub rank : Arrival → ℕ
rank a = stage_rank a.stage
