-- Which phase stands at each stage of the collector, and what the acts of its trail leave in the phase word.
use Rattle.std.specs.Prelude.{ℕ, ◌==◌, if◌then◌else◌, List, [], ◌∷◌}
use Rattle.mako_words.specs.Phases.{phase_word}
use Rattle.mako_words.specs.declared.phase_word.PhaseWord.{PhaseWord}
use Rattle.mako_words.specs.declared.phase_word.PhaseWord.TheVariants.{Idle as IdlePhase, Trace, Evac, Stop}
use Rattle.mako_shape.specs.declared.numbers.Numbers.{Numbers}
use Rattle.mako_shape.specs.Places.{index, phase}
use Rattle.mako_step.specs.Acts.{after_op}
use Rattle.mako_step.specs.Trails.{Observation}
use Rattle.mako_pause.specs.Collecting.{Holdings, running}
use Rattle.mako_pause.specs.declared.stage.Pause.{Pause}
use Rattle.mako_pause.specs.declared.stage.Pause.TheVariants.{Snapshot, Choice}
use Rattle.mako_pause.specs.declared.stage.PauseStage.{PauseStage}
use Rattle.mako_pause.specs.declared.stage.PauseStage.TheVariants.{Shutting, Draining, LoadingRoot, StoringTrace}
use Rattle.mako_pause.specs.declared.stage.PauseStage.TheVariants.{Opening}
use Rattle.mako_pause.specs.declared.stage.ChoiceStage.{ChoiceStage}
use Rattle.mako_pause.specs.declared.stage.ChoiceStage.TheVariants.{LoadingLive, LoadingTop, LoadingHome}
use Rattle.mako_pause.specs.declared.stage.ChoiceStage.TheVariants.{StoringLeaving, StoringHome, StoringTop}
use Rattle.mako_pause.specs.declared.stage.ChoiceStage.TheVariants.{StoringEvac, Opening as Reopening}
use Rattle.mako_pause.specs.declared.stage.CollectStage.{CollectStage}
use Rattle.mako_pause.specs.declared.stage.CollectStage.TheVariants.{Idle, Pausing, Forwarding, Barriers, Emptying}
use Rattle.mako_pause.specs.declared.stage.CollectStage.TheVariants.{Polling, Choosing, Noticing, Ended}

-- what a word is after the acts of a trail alone, from what it was before them
unfoldable pub left_in : ℕ → List Observation → ℕ → ℕ
left_in word [] x = x
left_in word (o ∷ trail) x = left_in word trail (if o.act.word == word then after_op o.act.op x else x)

-- the phase word that the trail leaves, which at the opening is that of Idle(0)
abbrev pub phase_left : Numbers → List Observation → ℕ
phase_left n trail = left_in (index n phase) trail (phase_word (IdlePhase 0))

-- the phase in which a pause begins
abbrev pub phase_paused : Holdings → Pause → PhaseWord
phase_paused k Snapshot = IdlePhase k.cycle
phase_paused k Choice = Trace (running k)

abbrev pub pause_phase : Holdings → PauseStage → PhaseWord
pause_phase k (Shutting pause m) = phase_paused k pause
pause_phase k (Draining pause m) = phase_paused k pause
pause_phase k (LoadingRoot m q) = IdlePhase k.cycle
pause_phase k StoringTrace = IdlePhase k.cycle
pause_phase k (Opening m) = Trace (running k)

abbrev pub choice_phase : Holdings → ChoiceStage → PhaseWord
choice_phase k (LoadingLive s place) = Trace (running k)
choice_phase k (LoadingTop s place words) = Trace (running k)
choice_phase k (LoadingHome i) = Trace (running k)
choice_phase k (StoringLeaving i gift) = Trace (running k)
choice_phase k (StoringHome i gift) = Trace (running k)
choice_phase k (StoringTop i) = Trace (running k)
choice_phase k StoringEvac = Trace (running k)
choice_phase k (Reopening m) = Evac (running k)

-- the phase that stands before the step at a stage
abbrev pub phase_of : Holdings → CollectStage → PhaseWord
phase_of k (Idle stage) = IdlePhase k.cycle
phase_of k (Pausing stage) = pause_phase k stage
phase_of k (Forwarding stage) = Trace (running k)
phase_of k (Barriers stage) = Trace (running k)
phase_of k (Emptying s) = Trace (running k)
phase_of k Polling = Trace (running k)
phase_of k (Choosing stage) = choice_phase k stage
phase_of k (Noticing stage) = Evac (running k)
phase_of k Ended = Stop k.cycle
