use Rattle.mako_alloc.proofs.Worked.{is_made, stands_with_its_turn}
use Rattle.mako_alloc.proofs.examples.an_object_is_made.Goals as goal

pub returns-clause-made : goal.returns-clause-made
returns-clause-made c = is_made

pub returns-clause-standing : goal.returns-clause-standing
returns-clause-standing c = stands_with_its_turn
