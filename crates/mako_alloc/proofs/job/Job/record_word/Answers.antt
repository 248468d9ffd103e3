use Rattle.std.proofs.Common.{◌≡◌, ◌+◌, ◌<◌, arith}
use Rattle.mako_shape.specs.Places.{total}
use Rattle.mako_alloc.specs.Allocating.{record_word}
use Rattle.mako_alloc.proofs.Bounds.{record_word_index, record_word-below}
use Rattle.mako_alloc.proofs.job.Job.record_word.Goals as goal

pub returns-clause-below : goal.returns-clause-below
returns-clause-below c =
    let same : c.region.result + c.args.made.top + c.args.place ≡ record_word c.args.self.now.shape c.args.made
    c.args.place =
    omega (arith, c.region.ensures.index, record_word_index c.args.self.now.shape c.args.made c.args.place) in
    let below : record_word c.args.self.now.shape c.args.made c.args.place < total c.args.self.now.shape =
    record_word-below c.args.self.now c.args.made c.args.place c.requires.made c.requires.place in
    omega (arith, c.from.ensures)
