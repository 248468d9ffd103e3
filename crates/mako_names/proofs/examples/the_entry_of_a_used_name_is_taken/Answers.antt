use Rattle.mako_names.proofs.WorkedEntries.{used_stands, freed_refused}
use Rattle.mako_names.proofs.examples.the_entry_of_a_used_name_is_taken.Goals as goal

pub returns : goal.returns
returns c = record { taken = used_stands; freed = freed_refused }
