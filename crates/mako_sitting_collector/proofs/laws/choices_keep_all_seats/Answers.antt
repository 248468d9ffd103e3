use Rattle.mako_sitting_collector.proofs.CollectorChoices.{choices_keep_all}
use Rattle.mako_sitting_collector.proofs.CollectorEvac.{evac_keeps_all}
use Rattle.mako_sitting_collector.proofs.CollectorHoused.{housed_have_spares}
use Rattle.mako_sitting_collector.proofs.CollectorHousedSteps.{choices_stay_housed}
use Rattle.mako_sitting_collector.proofs.CollectorEvacTies.{traces_stay}
use Rattle.mako_sitting_collector.proofs.laws.choices_keep_all_seats.Goals as goal

pub returns-clause-steps : goal.returns-clause-steps
returns-clause-steps c = choices_keep_all

pub returns-clause-spares : goal.returns-clause-spares
returns-clause-spares c = housed_have_spares

pub returns-clause-housed : goal.returns-clause-housed
returns-clause-housed c = choices_stay_housed

pub returns-clause-evac : goal.returns-clause-evac
returns-clause-evac c = evac_keeps_all

pub returns-clause-traces : goal.returns-clause-traces
returns-clause-traces c = traces_stay
