use Rattle.std.proofs.Common.{IsTrue, ◌↔◌, get_or, subst}
use Rattle.std.proofs.lemmas.List.{take_more}
use Rattle.mako_judge.specs.declared.verdict.Clause.TheVariants.{Names, Reuses, Starved, Programs}
use Rattle.mako_judge.specs.Clauses.{FollowsProgram}
use Rattle.mako_judge.specs.Trials.{script, front}
use Rattle.mako_judge.proofs.Calling.{blank}
use Rattle.mako_judge.proofs.Clauses.{holds_iff, rest_hold}
use Rattle.mako_judge.proofs.trial.Trial.holds_at.Goals as goal

pub returns-in-Names : goal.returns-in-Names
returns-in-Names c =
    holds_iff (script c.args.self.now) (front c.args.self.now) c.args.clause Names c.args.place
    (IsTrue c.makes_in_range.result) c.in-Names.is c.makes_in_range.ensures

pub returns-in_ok-names_made-in-Reuses : goal.returns-in_ok-names_made-in-Reuses
returns-in_ok-names_made-in-Reuses c =
    holds_iff (script c.args.self.now) (front c.args.self.now) c.args.clause Reuses c.args.place
    (IsTrue c.makes_again.result) c.in-Reuses.is c.makes_again.ensures

pub returns-in_ok-names_made-in-Starved : goal.returns-in_ok-names_made-in-Starved
returns-in_ok-names_made-in-Starved c =
    holds_iff (script c.args.self.now) (front c.args.self.now) c.args.clause Starved c.args.place
    (IsTrue c.refuses_starved.result) c.in-Starved.is c.refuses_starved.ensures

pub returns-in-Programs : goal.returns-in-Programs
returns-in-Programs c =
    let points = c.args.self.now.points.now in
    let p = get_or points c.args.place blank in
    holds_iff (script c.args.self.now) (front c.args.self.now) c.args.clause Programs c.args.place
    (IsTrue c.follows_program.result) c.in-Programs.is
    (subst (λ ps. IsTrue c.follows_program.result ↔ FollowsProgram (script c.args.self.now) ps p)
    (take_more points c.args.place blank c.requires.within) c.follows_program.ensures)

pub returns-in-Legal : goal.returns-in-Legal
returns-in-Legal c =
    rest_hold (script c.args.self.now)
    (front c.args.self.now) c.args.clause c.args.place c.in-Legal.is c.requires.fair.legal
