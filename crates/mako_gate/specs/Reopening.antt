-- The machine that reopens a gate.
use Rattle.std.specs.Prelude.{ℕ}
use Rattle.mako_words.specs.Words.{all_but}
use Rattle.mako_step.specs.Acts.{does}
use Rattle.mako_step.specs.declared.act.Op.TheVariants.{And}
use Rattle.mako_step.specs.declared.step.Step.{Step}
use Rattle.mako_step.specs.declared.step.Step.TheVariants.{Ended as NoStep}
use Rattle.mako_gate.specs.Bits.{shut_bit}
use Rattle.mako_gate.specs.declared.reopen.ReopenStage.{ReopenStage}
use Rattle.mako_gate.specs.declared.reopen.ReopenStage.TheVariants.{Clearing, Ended}

-- the gate's word, and the stage
pub record Reopening : Type 0 where
  pub word : ℕ
  pub stage : ReopenStage

abbrev pub reopening_next : ℕ → ReopenStage → Step
reopening_next word Clearing = does word (And (all_but shut_bit))
reopening_next word Ended = NoStep

abbrev pub next_of : Reopening → Step
next_of r = reopening_next r.word r.stage

abbrev pub fed : Reopening → ℕ → Reopening
fed r w = record { word = r.word; stage = Ended }

-- it does not read what it finds
abbrev pub Fits : Reopening → ℕ → Type 0
Fits r w = Unit {0}

abbrev pub stage_rank : ReopenStage → ℕ
stage_rank Clearing = 1
stage_rank Ended = 0

abbrev pub rank : Reopening → ℕ
rank r = stage_rank r.stage
