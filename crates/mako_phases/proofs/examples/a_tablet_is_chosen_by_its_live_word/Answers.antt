use Rattle.mako_phases.proofs.Worked.{opened_chosen, live_not_chosen, past_chosen}
use Rattle.mako_phases.proofs.examples.a_tablet_is_chosen_by_its_live_word.Goals as goal

pub returns : goal.returns
returns c = record { none = opened_chosen; all = live_not_chosen; past = past_chosen }
