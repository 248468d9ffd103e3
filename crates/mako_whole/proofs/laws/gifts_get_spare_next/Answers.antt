use Rattle.mako_whole.proofs.AllGiftsSeats.{notices_find_gifts, openings_give_none, mutators_keep_gifts}
use Rattle.mako_whole.proofs.AllGiftsSeats.{servers_keep_gifts, steps_keep_gifts, snapshots_keep_gifts}
use Rattle.mako_whole.proofs.AllGiftsSeats.{polls_keep_gifts, choices_keep_gifts, hearing_keeps_gifts}
use Rattle.mako_whole.proofs.AllGiftsSeats.{finish_keeps_gifts}
use Rattle.mako_whole.proofs.laws.gifts_get_spare_next.Goals as goal

pub returns-clause-notices : goal.returns-clause-notices
returns-clause-notices c = notices_find_gifts

pub returns-clause-openings : goal.returns-clause-openings
returns-clause-openings c = openings_give_none

pub returns-clause-mutators : goal.returns-clause-mutators
returns-clause-mutators c = mutators_keep_gifts

pub returns-clause-servers : goal.returns-clause-servers
returns-clause-servers c = servers_keep_gifts

pub returns-clause-steps : goal.returns-clause-steps
returns-clause-steps c = steps_keep_gifts

pub returns-clause-snapshots : goal.returns-clause-snapshots
returns-clause-snapshots c = snapshots_keep_gifts

pub returns-clause-polls : goal.returns-clause-polls
returns-clause-polls c = polls_keep_gifts

pub returns-clause-choices : goal.returns-clause-choices
returns-clause-choices c = choices_keep_gifts

pub returns-clause-hearing : goal.returns-clause-hearing
returns-clause-hearing c = hearing_keeps_gifts

pub returns-clause-finish : goal.returns-clause-finish
returns-clause-finish c = finish_keeps_gifts
