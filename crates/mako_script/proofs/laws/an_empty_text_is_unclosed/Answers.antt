use Rattle.mako_script.proofs.Firsts.{empty}
use Rattle.mako_script.proofs.laws.an_empty_text_is_unclosed.Goals as goal

pub returns : goal.returns
returns c = empty
