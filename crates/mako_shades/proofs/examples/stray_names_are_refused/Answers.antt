use Rattle.mako_shades.proofs.Refused.{not_forgotten, not_unmade, not_unmarked}
use Rattle.mako_shades.proofs.examples.stray_names_are_refused.Goals as goal

pub returns : goal.returns
returns c = record { forgotten = not_forgotten; unmade = not_unmade; unmarked = not_unmarked }
