use Rattle.mako_alloc.proofs.Frees.{entries_tell}
use Rattle.mako_alloc.proofs.laws.entries.Goals as goal

pub returns : goal.returns
returns c = entries_tell
