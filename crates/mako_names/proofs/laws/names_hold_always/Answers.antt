use Rattle.mako_names.proofs.StepsKept.{reached_names, reached_answers, reached_to_end}
use Rattle.mako_names.proofs.laws.names_hold_always.Goals as goal

pub returns : goal.returns
returns c = record { holds = reached_names; answers = reached_answers; end = reached_to_end }
