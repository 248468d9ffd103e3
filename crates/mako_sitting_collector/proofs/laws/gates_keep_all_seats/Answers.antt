use Rattle.mako_sitting_collector.proofs.CollectorGates.{gates_keep_all, stops_keep_all}
use Rattle.mako_sitting_collector.proofs.laws.gates_keep_all_seats.Goals as goal

pub returns-clause-gates : goal.returns-clause-gates
returns-clause-gates c = gates_keep_all

pub returns-clause-stop : goal.returns-clause-stop
returns-clause-stop c = stops_keep_all
