-- The stages of a collect.
use Rattle.std.specs.Prelude.{ℕ, Bool, false, ◌+◌, ◌-◌, ◌≤◌, ◌==◌, nat_le, nat_lt, if◌then◌else◌}
use Rattle.mako_words.specs.Phases.{IsPackedPhase, phase_at, cycle_of}
use Rattle.mako_words.specs.declared.phase_word.PhaseWord.{PhaseWord}
use Rattle.mako_words.specs.declared.phase_word.PhaseWord.TheVariants.{Idle, Trace, Evac, Stop}
use Rattle.mako_shape.specs.declared.numbers.Numbers.{Numbers}
use Rattle.mako_shape.specs.Places.{index, phase, demand}
use Rattle.mako_step.specs.Acts.{does}
use Rattle.mako_step.specs.declared.act.Op.TheVariants.{Load, Max}
use Rattle.mako_step.specs.declared.step.Step.{Step}
use Rattle.mako_model.specs.declared.reply.Reply.TheVariants.{Cycle, Spent}
use Rattle.mako_model.specs.declared.attempt.Attempt.TheVariants.{Answer, Pause as Paused}
use Rattle.mako_model.specs.declared.attempt.Pause.TheVariants.{Cycle as NotYet}
use Rattle.mako_call.specs.declared.call_stage.CallStage.{CallStage}
use Rattle.mako_call.specs.declared.call_stage.CallStage.TheVariants.{Asking, Ended}
use Rattle.mako_call.specs.declared.asking.AskStage.{AskStage}
use Rattle.mako_call.specs.declared.asking.AskStage.TheVariants.{LoadingPhase, RaisingDemand, Awaiting}

-- with nothing asked: load phase, max the next cycle into demand; with a cycle asked: load phase
abbrev pub ask_next : Numbers → AskStage → Step
ask_next n LoadingPhase = does (index n phase) Load
ask_next n (RaisingDemand cycle) = does (index n demand) (Max cycle)
ask_next n (Awaiting cycle) = does (index n phase) Load

-- the number of finished cycles in a phase
abbrev pub finished_cycles : PhaseWord → ℕ
finished_cycles (Idle cycle) = cycle
finished_cycles (Trace cycle) = cycle - 1
finished_cycles (Evac cycle) = cycle - 1
finished_cycles (Stop cycle) = cycle

abbrev pub ask_fed : Numbers → AskStage → ℕ → CallStage
ask_fed n LoadingPhase w = let cycle = cycle_of (phase_at w) in
    if cycle == n.cycles then Ended (Answer Spent) else Asking (RaisingDemand (cycle + 1))
ask_fed n (RaisingDemand cycle) w = Asking (Awaiting cycle)
ask_fed n (Awaiting cycle) w =
    if nat_le cycle (finished_cycles (phase_at w)) then Ended (Answer (Cycle cycle)) else Ended
    (Paused (NotYet cycle w))

-- it looks for the end of a cycle, and finds that it has not finished
abbrev pub ask_waits : AskStage → ℕ → Bool
ask_waits LoadingPhase w = false
ask_waits (RaisingDemand cycle) w = false
ask_waits (Awaiting cycle) w = nat_lt (finished_cycles (phase_at w)) cycle

-- a phase of a cycle that runs has a number from 1 on
abbrev pub CountsFrom : PhaseWord → Type 0
CountsFrom (Idle cycle) = Unit {0}
CountsFrom (Trace cycle) = 1 ≤ cycle
CountsFrom (Evac cycle) = 1 ≤ cycle
CountsFrom (Stop cycle) = Unit {0}

-- the word is that of a phase, whose cycle is one of the geometry
abbrev pub AskFits : Numbers → AskStage → ℕ → Type 0
AskFits n LoadingPhase w = IsPackedPhase w × (cycle_of (phase_at w) ≤ n.cycles)
AskFits n (RaisingDemand cycle) w = Unit {0}
AskFits n (Awaiting cycle) w = IsPackedPhase w × CountsFrom (phase_at w)

abbrev pub ask_rank : AskStage → ℕ
ask_rank LoadingPhase = 3
ask_rank (RaisingDemand cycle) = 2
ask_rank (Awaiting cycle) = 1

-- a cycle that is asked for is one of the geometry
abbrev pub AskIsKnown : Numbers → AskStage → Type 0
AskIsKnown n LoadingPhase = Unit {0}
AskIsKnown n (RaisingDemand cycle) = (1 ≤ cycle) × (cycle ≤ n.cycles)
AskIsKnown n (Awaiting cycle) = (1 ≤ cycle) × (cycle ≤ n.cycles)
