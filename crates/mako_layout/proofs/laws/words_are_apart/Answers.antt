use Rattle.mako_layout.proofs.Frames.{places_are_apart}
use Rattle.mako_layout.proofs.laws.words_are_apart.Goals as goal

pub returns : goal.returns
returns c = places_are_apart
