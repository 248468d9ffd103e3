use Rattle.mako_sitting_collector.proofs.CollectorFinishes.{finish_keeps_all}
use Rattle.mako_sitting_collector.proofs.laws.finished_cycles_keep_all_seats.Goals as goal

pub returns : goal.returns
returns c = finish_keeps_all
