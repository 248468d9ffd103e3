use Rattle.std.proofs.Common.{◌∙◌, arith, ◌<◌}
use Rattle.mako_count.specs.Views.{poll_of}
use Rattle.mako_count.proofs.Passing.{next_pass}
use Rattle.mako_count.proofs.count.Count.pass.Goals as goal

pub loop-number-preserved : goal.loop-number-preserved
loop-number-preserved c =
    let l = c.loop-number.invariant in let next = c.read_next-next in let e = next.ensures in
    let before : c.loop-number.number < (poll_of c.args.seat.now.me.0).count = omega (arith, c.requires.count) in
    record {
      seated = e.poller.0;
      workers = e.poller.1 ∙ l.workers;
      table = e.table ∙ l.table;
      pass = next_pass _ _ _ _ _ _ _ _ before l.pass e.read;
    }
