use Rattle.mako_layout.proofs.Worked.{wrong_layouts}
use Rattle.mako_layout.proofs.examples.wrong_layouts_are_refused.Goals as goal

pub returns : goal.returns
returns c = wrong_layouts
