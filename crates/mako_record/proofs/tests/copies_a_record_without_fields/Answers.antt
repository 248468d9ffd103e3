use Rattle.std.proofs.Common.{◌≡◌, lit<, lit≤}
use Rattle.mako_shape.specs.Places.{index, total}
use Rattle.mako_record.proofs.tests.copies_a_record_without_fields.Goals as goal

pub copied-requires : goal.copied-requires
unfolding index total
copied-requires g c = search (lit<, lit≤)
