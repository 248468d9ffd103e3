use Rattle.mako_model.proofs.Reused.{reused_answers}
use Rattle.mako_model.proofs.examples.a_dead_entry_is_used_again.Goals as goal

pub returns : goal.returns
returns c = reused_answers
