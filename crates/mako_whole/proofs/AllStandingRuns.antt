-- What stands in all runs, and what it tells.
use Rattle.mako_whole.specs.AllStanding.{AllRunsStand, RunsAnswer, RunsAnswerToEnd, RunsReply, RunsFree}
use Rattle.mako_whole.proofs.AllStandingCollector.{collector_stands}
use Rattle.mako_whole.proofs.AllStandingSteps as steps

pub all_runs_stand : AllRunsStand
all_runs_stand = steps.all_runs_stand collector_stands

pub runs_answer : RunsAnswer
runs_answer = steps.runs_answer collector_stands

pub runs_answer_to_end : RunsAnswerToEnd
runs_answer_to_end = steps.runs_answer_to_end collector_stands

pub runs_reply : RunsReply
runs_reply = steps.runs_reply collector_stands

pub runs_free : RunsFree
runs_free = steps.runs_free collector_stands
