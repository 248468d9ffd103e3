use Rattle.mako_whole.proofs.AllStandingRuns.{all_runs_stand, runs_answer, runs_answer_to_end, runs_reply, runs_free}
use Rattle.mako_whole.proofs.laws.all_runs_stand.Goals as goal

pub returns-clause-stand : goal.returns-clause-stand
returns-clause-stand c = all_runs_stand

pub returns-clause-answers : goal.returns-clause-answers
returns-clause-answers c = runs_answer

pub returns-clause-end : goal.returns-clause-end
returns-clause-end c = runs_answer_to_end

pub returns-clause-replies : goal.returns-clause-replies
returns-clause-replies c = runs_reply

pub returns-clause-freed : goal.returns-clause-freed
returns-clause-freed c = runs_free
