use Rattle.std.proofs.Common.{arith}
use Rattle.mako_judge.specs.Trials.{script, front}
use Rattle.mako_judge.proofs.Clauses.{answers_iff, rank_below, met_more, first_not_met}
use Rattle.mako_judge.proofs.trial.Trial.first_fault.Goals as goal

pub returns : goal.returns
returns c = (answers_iff (script c.args.self.now) (front c.args.self.now)).1
    (λ clause. c.loop-clause.invariant clause (let l = rank_below clause in omega arith))

pub loop-clause-preserved : goal.loop-clause-preserved
loop-clause-preserved c =
    met_more (script c.args.self.now) (front c.args.self.now) c.loop-clause.clause-index
    (rw c.in_default.is at c.in_ok-fault.ensures) c.loop-clause.invariant

pub returns-in-Some : goal.returns-in-Some
returns-in-Some c =
    first_not_met (script c.args.self.now)
    (front c.args.self.now) c.loop-clause.clause-index c.in-Some.fault c.loop-clause-test.true
    (rw c.in-Some.is at c.in_ok-fault.ensures) c.loop-clause.invariant
