use Rattle.mako_shape.proofs.PlaceLaws.{word_same, word_other}
use Rattle.mako_shape.proofs.laws.writes.Goals as goal

pub returns-clause-read : goal.returns-clause-read
returns-clause-read c = word_same

pub returns-clause-others : goal.returns-clause-others
returns-clause-others c = word_other
