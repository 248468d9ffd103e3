use Rattle.mako_sitting_collector.proofs.CollectorHears.{hearing_keeps_all}
use Rattle.mako_sitting_collector.proofs.laws.notices_keep_all_seats.Goals as goal

pub returns : goal.returns
returns c = hearing_keeps_all
