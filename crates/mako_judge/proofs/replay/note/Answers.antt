use Rattle.std.proofs.lemmas.Result.{on_ok_weaker}
use Rattle.mako_judge.specs.Deaths.{lists_in}
use Rattle.mako_judge.proofs.Replaying.{noted_did, noted_snap}
use Rattle.mako_judge.proofs.replay.note.Goals as goal

pub returns-in_ok-unreached-in-Snap : goal.returns-in_ok-unreached-in-Snap
returns-in_ok-unreached-in-Snap c =
    on_ok_weaker c.push.result (λ more w e.
    noted_snap w c.args.before.now c.args.heap.now c.args.point c.in-Snap.cycle (lists_in c.args.deaths.now)
    (lists_in c.push.new.self) c.in_ok-unreached-in-Snap.field-0.items c.in-Snap.is e more
    c.in_ok-unreached-in-Snap.ensures)
    c.push.ensures

pub returns-in-Did : goal.returns-in-Did
returns-in-Did c = λ w e.
    noted_did w c.args.before.now c.args.heap.now c.args.point c.in-Did.mutator c.in-Did.call c.in-Did.reply
    (lists_in c.args.deaths.now) c.in-Did.is e
