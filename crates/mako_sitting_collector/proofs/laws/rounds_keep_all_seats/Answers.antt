use Rattle.mako_sitting_collector.proofs.CollectorRounds.{round_stores_keep_all, polls_keep_all}
use Rattle.mako_sitting_collector.proofs.laws.rounds_keep_all_seats.Goals as goal

pub returns-clause-stores : goal.returns-clause-stores
returns-clause-stores c = round_stores_keep_all

pub returns-clause-polls : goal.returns-clause-polls
returns-clause-polls c = polls_keep_all
