use Rattle.mako_judge.specs.Setups.{script_of, front_of}
use Rattle.mako_judge.proofs.Clauses.{not_legal}
use Rattle.mako_judge.proofs.judging.verdict_of.Goals as goal

pub returns-in-Unlawful : goal.returns-in-Unlawful
returns-in-Unlawful c =
    let breach = rw c.in-Unlawful.is at c.in_ok-deaths.ensures in
    not_legal (script_of c.args.setup.now) (front_of c.args.points.now c.args.cycles.now.lists) c.in-Unlawful.place
    (record { point = breach.point; there = breach.there; broken = breach.broken; before = breach.before })
