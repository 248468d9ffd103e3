use Rattle.std.proofs.Common.{arith}
use Rattle.std.proofs.lemmas.Grind.{common_steps}
use Rattle.mako_io.proofs.Parts.{moved_first}
use Rattle.mako_io.proofs.rest.Rest.give.Goals as goal

pub returns-clause-given : goal.returns-clause-given
returns-clause-given c =
    grind (arith, common_steps, moved_first, c.self.view_is, c.copy_from_slice.ensures.after, c.deref.ensures.value)
