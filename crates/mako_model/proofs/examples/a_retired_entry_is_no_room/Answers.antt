use Rattle.mako_model.proofs.Retired.{retired_answers}
use Rattle.mako_model.proofs.examples.a_retired_entry_is_no_room.Goals as goal

pub returns : goal.returns
returns c = retired_answers
