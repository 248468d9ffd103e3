use Rattle.mako_script.proofs.Faultless.{no_fault}
use Rattle.mako_script.proofs.Worked.{wrong_word}
use Rattle.mako_script.specs.Examples.{spaced_text}
use Rattle.mako_script.specs.declared.fault.Kind.TheVariants.{Word}
use Rattle.mako_script.proofs.laws.words_stand_one_space_apart.Goals as goal

pub returns : goal.returns
returns c = λ s is. no_fault spaced_text s is wrong_word.at Word wrong_word.has
