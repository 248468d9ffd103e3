use Rattle.mako_reader.proofs.Scripts.{same_script}
use Rattle.mako_script.proofs.laws.a_text_is_of_one_script.Goals as goal

pub returns : goal.returns
returns c = same_script
