use Rattle.mako_layout.proofs.Runs.{new_is_published, put_is_stored, others_enter}
use Rattle.mako_layout.proofs.laws.points_enter.Goals as goal

pub returns-clause-new : goal.returns-clause-new
returns-clause-new c = new_is_published

pub returns-clause-put : goal.returns-clause-put
returns-clause-put c = put_is_stored

pub returns-clause-others : goal.returns-clause-others
returns-clause-others c = others_enter
