use Rattle.mako_model.proofs.Retired.{hasty_does_not}
use Rattle.mako_model.proofs.examples.no_room_is_known_after_a_cycle.Goals as goal

pub returns : goal.returns
returns c = hasty_does_not
