use Rattle.mako_ring.proofs.Words.{rings_on_words}
use Rattle.mako_ring.proofs.laws.words.Goals as goal

pub returns : goal.returns
returns c = rings_on_words
