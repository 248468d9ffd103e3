use Rattle.mako_sitting_collector.proofs.CollectorLooks.{looks_keep_all}
use Rattle.mako_sitting_collector.proofs.laws.looks_keep_all_seats.Goals as goal

pub returns : goal.returns
returns c = looks_keep_all
