use Rattle.mako_shades.proofs.ForNames.{slots_good, held_good, trace_stands, complete_marks_all, epochs_stand}
use Rattle.mako_shades.proofs.laws.tracing_gives_names.Goals as goal

pub returns : goal.returns
returns c = record {
  slots = slots_good;
  held = held_good;
  epochs = trace_stands;
  all = complete_marks_all;
  traced = epochs_stand;
}
