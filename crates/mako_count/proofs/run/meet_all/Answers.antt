use Rattle.std.proofs.Common.{rules}
use Rattle.mako_count.proofs.Meeting.{meet_one, met_them_all}
use Rattle.mako_count.proofs.run.meet_all.Goals as goal

pub loop-worker-preserved : goal.loop-worker-preserved
loop-worker-preserved c = let e = c.meet.ensures in
    meet_one _ _ _ _ c.loop-worker.poller c.meet.new.self c.loop-worker.workers.items c.pop.new.self.items
    c.in-Some.worker c.loop-worker.invariant c.in-Some.ensures.items e.same.0 e.same.1 e.met e.tells

pub returns : goal.returns
returns c = met_them_all _ _ _ _ _ _ c.loop-worker.invariant (let h = c.in_default.ensures.cases.0 in search (rules, h))
