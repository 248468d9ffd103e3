use Rattle.mako_model.proofs.Fitting.{heap_fits}
use Rattle.mako_model.proofs.laws.values_fit.Goals as goal

pub returns : goal.returns
returns c = heap_fits
