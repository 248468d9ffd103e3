use Rattle.mako_choice.proofs.OneChoice.{choices_one}
use Rattle.mako_choice.proofs.laws.choices_are_one.Goals as goal

pub returns : goal.returns
returns c = choices_one
