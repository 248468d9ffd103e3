use Rattle.mako_shades.proofs.Refused.{not_too_soon}
use Rattle.mako_shades.proofs.examples.words_alone_make_no_objects.Goals as goal

pub returns : goal.returns
returns c = not_too_soon
