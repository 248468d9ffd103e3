use Rattle.mako_model.proofs.Reused.{too_soon_does_not}
use Rattle.mako_model.proofs.examples.an_entry_is_used_again_after_a_snapshot.Goals as goal

pub returns : goal.returns
returns c = too_soon_does_not
