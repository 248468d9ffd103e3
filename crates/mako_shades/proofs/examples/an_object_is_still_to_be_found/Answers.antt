use Rattle.mako_shades.proofs.Linked.{linked_holds}
use Rattle.mako_shades.proofs.examples.an_object_is_still_to_be_found.Goals as goal

pub returns : goal.returns
returns c = linked_holds
