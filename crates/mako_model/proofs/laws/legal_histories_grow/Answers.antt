use Rattle.mako_model.proofs.Histories.{legal_push}
use Rattle.mako_model.proofs.laws.legal_histories_grow.Goals as goal

pub returns : goal.returns
returns c = legal_push
