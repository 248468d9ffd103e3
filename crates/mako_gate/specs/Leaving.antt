-- The machine that leaves a gate.
use Rattle.std.specs.Prelude.{ℕ}
use Rattle.mako_step.specs.Acts.{does}
use Rattle.mako_step.specs.declared.act.Op.TheVariants.{Sub}
use Rattle.mako_step.specs.declared.step.Step.{Step}
use Rattle.mako_step.specs.declared.step.Step.TheVariants.{Ended as NoStep}
use Rattle.mako_gate.specs.declared.leave.LeaveStage.{LeaveStage}
use Rattle.mako_gate.specs.declared.leave.LeaveStage.TheVariants.{Leaving, Ended}

-- the gate's word, and the stage
pub record Departure : Type 0 where
  pub word : ℕ
  pub stage : LeaveStage

abbrev pub departure_next : ℕ → LeaveStage → Step
departure_next word Leaving = does word (Sub 1)
departure_next word Ended = NoStep

abbrev pub next_of : Departure → Step
next_of d = departure_next d.word d.stage

abbrev pub fed : Departure → ℕ → Departure
fed d w = record { word = d.word; stage = Ended }

-- it does not read what it finds
abbrev pub Fits : Departure → ℕ → Type 0
Fits d w = Unit {0}

abbrev pub stage_rank : LeaveStage → ℕ
stage_rank Leaving = 1
stage_rank Ended = 0

abbrev pub rank : Departure → ℕ
rank d = stage_rank d.stage
