use Rattle.mako_names.proofs.Counts.{names_in_order}
use Rattle.mako_names.proofs.Good.{root_is_good, field_is_good}
use Rattle.mako_names.proofs.Telling.{entries_tell, good_are_taken, slot_names_are_taken, held_names_are_taken}
use Rattle.mako_names.proofs.laws.names_tell.Goals as goal

pub returns : goal.returns
returns c = record {
  order = names_in_order;
  entries = entries_tell;
  taken = good_are_taken;
  slots = slot_names_are_taken;
  held = held_names_are_taken;
  roots = root_is_good;
  fields = field_is_good;
}
