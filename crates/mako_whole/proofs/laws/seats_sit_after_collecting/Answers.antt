use Rattle.mako_whole.proofs.AllRunsCollector.{choices_run, evacs_run, gates_run, looks_run, polls_run}
use Rattle.mako_whole.proofs.AllRunsCollector.{round_stores_run, snapshots_run, stops_run}
use Rattle.mako_whole.proofs.laws.seats_sit_after_collecting.Goals as goal

pub returns-clause-looks : goal.returns-clause-looks
returns-clause-looks c = looks_run

pub returns-clause-stores : goal.returns-clause-stores
returns-clause-stores c = round_stores_run

pub returns-clause-polls : goal.returns-clause-polls
returns-clause-polls c = polls_run

pub returns-clause-choices : goal.returns-clause-choices
returns-clause-choices c = choices_run

pub returns-clause-gates : goal.returns-clause-gates
returns-clause-gates c = gates_run

pub returns-clause-stop : goal.returns-clause-stop
returns-clause-stop c = stops_run

pub returns-clause-snapshots : goal.returns-clause-snapshots
returns-clause-snapshots c = snapshots_run

pub returns-clause-evacuations : goal.returns-clause-evacuations
returns-clause-evacuations c = evacs_run
