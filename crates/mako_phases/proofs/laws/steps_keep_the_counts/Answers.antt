use Rattle.mako_phases.proofs.Lives.{counts_kept}
use Rattle.mako_phases.proofs.MarkSteps.{entries_mark}
use Rattle.mako_phases.proofs.laws.steps_keep_the_counts.Goals as goal

pub returns : goal.returns
returns c = record { steps = counts_kept; marks = entries_mark }
