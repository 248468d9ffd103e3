use Rattle.mako_script.proofs.Worked.{wrong_word}
use Rattle.mako_script.proofs.laws.a_second_space_is_a_wrong_word.Goals as goal

pub returns : goal.returns
returns c = wrong_word
