use Rattle.mako_cycles.proofs.Rising.{lists_rise}
use Rattle.mako_cycles.proofs.laws.freed_names.Goals as goal

pub returns : goal.returns
returns c = lists_rise
