use Rattle.mako_phases.proofs.LiveLaws.{counts_end, past_stays, past_begins}
use Rattle.mako_phases.proofs.laws.counts_go_from_cycle_to_cycle.Goals as goal

pub returns : goal.returns
returns c = record { end = counts_end; stay = past_stays; begin = past_begins }
