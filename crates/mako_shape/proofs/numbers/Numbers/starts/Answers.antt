use Rattle.std.proofs.Common.{refl}
use Rattle.mako_shape.specs.Starting.{starts_of}
use Rattle.mako_shape.proofs.numbers.Numbers.starts.Goals as goal

pub returns : goal.returns
unfolding starts_of
returns c =
    rw c.tablet_gates_start.ensures
    rw c.entries_start.ensures
    rw c.regions_start.ensures
    rw c.all_words.ensures
    refl
