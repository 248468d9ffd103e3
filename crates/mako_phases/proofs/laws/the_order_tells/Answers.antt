use Rattle.mako_phases.proofs.Says.{part_phase, names_rest, epochs_behind, tablets_stay, tablets_in_evac, ended_cleared}
use Rattle.mako_phases.proofs.Says.{cycles_end}
use Rattle.mako_phases.proofs.laws.the_order_tells.Goals as goal

pub returns : goal.returns
returns c = record {
  phase = part_phase;
  rest = names_rest;
  epochs = epochs_behind;
  stay = tablets_stay;
  cleared = tablets_in_evac;
  ended = ended_cleared;
  last = cycles_end;
}
