use Rattle.mako_script.proofs.Examples.{is_storing}
use Rattle.mako_script.proofs.laws.a_text_has_its_script.Goals as goal

pub returns : goal.returns
returns c = record { text = is_storing }
