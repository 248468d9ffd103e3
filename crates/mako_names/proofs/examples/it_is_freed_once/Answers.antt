use Rattle.mako_names.proofs.WorkedEntries.{kept_refused, again_refused, early_refused}
use Rattle.mako_names.proofs.examples.it_is_freed_once.Goals as goal

pub returns : goal.returns
returns c = record { kept = kept_refused; again = again_refused; early = early_refused }
