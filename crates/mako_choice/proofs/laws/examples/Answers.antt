use Rattle.mako_choice.proofs.ChoiceExamples.{two, three, none}
use Rattle.mako_choice.proofs.laws.examples.Goals as goal

pub returns-clause-two : goal.returns-clause-two
returns-clause-two c = two

pub returns-clause-three : goal.returns-clause-three
returns-clause-three c = three

pub returns-clause-none : goal.returns-clause-none
returns-clause-none c = none
