use Rattle.mako_names.proofs.WorkedEntries.{freed_stands}
use Rattle.mako_names.proofs.examples.the_entry_of_a_dead_name_is_free.Goals as goal

pub returns : goal.returns
returns c = freed_stands
