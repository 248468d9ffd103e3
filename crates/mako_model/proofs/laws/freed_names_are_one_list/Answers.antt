use Rattle.mako_model.proofs.FreedLists.{freed_once}
use Rattle.mako_model.proofs.laws.freed_names_are_one_list.Goals as goal

pub returns : goal.returns
returns c = freed_once
