use Rattle.mako_names.proofs.TraceKinds.{all_marked}
use Rattle.mako_names.proofs.Telling.{passed_have_epoch, lists_are_freed}
use Rattle.mako_names.proofs.laws.cycles_tell.Goals as goal

pub returns : goal.returns
returns c = record { marks = all_marked; passed = passed_have_epoch; freed = lists_are_freed }
