use Rattle.mako_shades.proofs.Refused.{not_passed_over}
use Rattle.mako_shades.proofs.examples.an_object_passed_over_is_refused.Goals as goal

pub returns : goal.returns
returns c = not_passed_over
