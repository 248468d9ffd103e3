use Rattle.mako_names.proofs.WorkedEntries.{taken_refused, traced_refused}
use Rattle.mako_names.proofs.examples.words_alone_make_no_names.Goals as goal

pub returns : goal.returns
returns c = record { taken = taken_refused; traced = traced_refused }
