-- The machine that shuts a gate, and waits until nobody is counted there.
use Rattle.std.specs.Prelude.{ℕ, Bool, false, nat_lt, if◌then◌else◌}
use Rattle.mako_words.specs.Gates.{IsPackedGate, count_of}
use Rattle.mako_step.specs.Acts.{does}
use Rattle.mako_step.specs.declared.act.Op.TheVariants.{Load, Or}
use Rattle.mako_step.specs.declared.step.Step.{Step}
use Rattle.mako_step.specs.declared.step.Step.TheVariants.{Ended as NoStep}
use Rattle.mako_gate.specs.Bits.{shut_bit}
use Rattle.mako_gate.specs.declared.shutter.ShutStage.{ShutStage}
use Rattle.mako_gate.specs.declared.shutter.ShutStage.TheVariants.{Shutting, Looking, Ended}

-- the gate's word, and the stage
pub record Shutdown : Type 0 where
  pub word : ℕ
  pub stage : ShutStage

abbrev pub shutdown_next : ℕ → ShutStage → Step
shutdown_next word Shutting = does word (Or shut_bit)
shutdown_next word Looking = does word Load
shutdown_next word Ended = NoStep

abbrev pub next_of : Shutdown → Step
next_of s = shutdown_next s.word s.stage

-- somebody is counted in this word
abbrev pub is_counting : ℕ → Bool
is_counting w = nat_lt 0 (count_of w)

abbrev pub stage_fed : ShutStage → ℕ → ShutStage
stage_fed Shutting w = Looking
stage_fed Looking w = if is_counting w then Looking else Ended
stage_fed Ended w = Ended

abbrev pub fed : Shutdown → ℕ → Shutdown
fed s w = record { word = s.word; stage = stage_fed s.stage w }

abbrev pub stage_waits : ShutStage → ℕ → Bool
stage_waits Shutting w = false
stage_waits Looking w = is_counting w
stage_waits Ended w = false

-- a look waits while somebody is counted
abbrev pub is_waiting : Shutdown → ℕ → Bool
is_waiting s w = stage_waits s.stage w

abbrev pub StageFits : ShutStage → ℕ → Type 0
StageFits Shutting w = Unit {0}
StageFits Looking w = IsPackedGate w
StageFits Ended w = Unit {0}

abbrev pub Fits : Shutdown → ℕ → Type 0
Fits s w = StageFits s.stage w

abbrev pub stage_rank : ShutStage → ℕ
stage_rank Shutting = 2
stage_rank Looking = 1
stage_rank Ended = 0

abbrev pub rank : Shutdown → ℕ
rank s = stage_rank s.stage
