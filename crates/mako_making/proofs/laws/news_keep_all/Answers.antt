use Rattle.mako_making.proofs.Wholes.{objects_keep}
use Rattle.mako_making.proofs.laws.news_keep_all.Goals as goal

pub returns : goal.returns
returns c = objects_keep
