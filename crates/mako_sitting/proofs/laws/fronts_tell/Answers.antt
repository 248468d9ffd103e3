use Rattle.mako_sitting.proofs.Telling.{fronts_answer, fronts_answer_to_end, freed_are_those, replies_are_told}
use Rattle.mako_sitting.proofs.laws.fronts_tell.Goals as goal

pub returns-clause-answers : goal.returns-clause-answers
returns-clause-answers c = fronts_answer

pub returns-clause-end : goal.returns-clause-end
returns-clause-end c = fronts_answer_to_end

pub returns-clause-replies : goal.returns-clause-replies
returns-clause-replies c = replies_are_told

pub returns-clause-freed : goal.returns-clause-freed
returns-clause-freed c = freed_are_those
