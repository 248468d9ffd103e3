use Rattle.std.proofs.Common.{IsTrue}
use Rattle.mako_model.specs.Dead.{made_by}
use Rattle.mako_model.specs.LawfulFronts.{IsInRange}
use Rattle.mako_judge.specs.Trials.{script}
use Rattle.mako_judge.proofs.Pointwise.{made_iff, none_iff}
use Rattle.mako_judge.proofs.trial.Trial.makes_in_range.Goals as goal

pub returns-in-Some : goal.returns-in-Some
returns-in-Some c = made_iff (IsInRange (script c.args.self.now)) (made_by c.args.point) c.in-Some.name
    (IsTrue c.is_in_range.result) c.in-Some.ensures c.is_in_range.ensures

pub returns-in-None : goal.returns-in-None
returns-in-None c = none_iff (IsInRange (script c.args.self.now)) (made_by c.args.point) c.in-None.ensures
