use Rattle.mako_alloc.proofs.Bounds.{entry_below}
use Rattle.mako_alloc.proofs.job.Job.entry.Goals as goal

pub returns-clause-below : goal.returns-clause-below
returns-clause-below c =
    rw c.numbers.ensures.numbers
    (entry_below c.args.self.now.shape c.args.tablet c.args.place c.requires.tablet c.requires.place)
