use Rattle.mako_model.proofs.Histories.{legal_prefix}
use Rattle.mako_model.proofs.laws.legal_histories_have_legal_prefixes.Goals as goal

pub returns : goal.returns
returns c = legal_prefix
