use Rattle.std.proofs.Common.{IsTrue}
use Rattle.mako_model.specs.Dead.{made_by}
use Rattle.mako_judge.specs.Clauses.{IsReuse}
use Rattle.mako_judge.specs.Trials.{script, front}
use Rattle.mako_judge.proofs.Pointwise.{made_iff, none_iff}
use Rattle.mako_judge.proofs.trial.Trial.makes_again.Goals as goal

pub returns-in-Some : goal.returns-in-Some
returns-in-Some c =
    made_iff (IsReuse (script c.args.self.now) (front c.args.self.now) c.args.before.now)
    (made_by c.args.point) c.in-Some.name (IsTrue c.is_reuse.result) c.in-Some.ensures c.is_reuse.ensures

pub returns-in-None : goal.returns-in-None
returns-in-None c = none_iff (IsReuse (script c.args.self.now) (front c.args.self.now) c.args.before.now)
    (made_by c.args.point) c.in-None.ensures
