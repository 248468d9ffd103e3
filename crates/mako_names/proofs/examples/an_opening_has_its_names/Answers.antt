use Rattle.mako_names.proofs.WorkedEntries.{small_opening}
use Rattle.mako_names.proofs.examples.an_opening_has_its_names.Goals as goal

pub returns : goal.returns
returns c = small_opening
