use Rattle.std.proofs.Common.{◌≡◌, ◌∙◌, subst}
use Rattle.std.proofs.lemmas.Result.{IfOk-weaker}
use Rattle.mako_judge.specs.Setups.{script_of, front_of}
use Rattle.mako_judge.specs.Verdicts.{IsTrueOf}
use Rattle.mako_judge.proofs.Clauses.{end_iff, so_far_iff, no_iff, first_of_verdict}
use Rattle.mako_judge.proofs.judging.judge.Goals as goal

pub returns-clause-to_the_end : goal.returns-clause-to_the_end
returns-clause-to_the_end c =
    let w = script_of c.args.setup.now in
    let lists = c.args.cycles.now.lists in
    let e : c.deref.result.now ≡ c.args.journal.now.points = c.deref.ensures.value ∙ c.in_ok-points.ensures in
    IfOk-weaker c.verdict_of.result (IsTrueOf w (front_of c.deref.result.now lists)) _
    (λ v is. end_iff w (front_of c.args.journal.now.points lists) v
    (subst (λ ps. IsTrueOf w (front_of ps lists) v) e is)) c.verdict_of.ensures

pub returns-clause-so_far : goal.returns-clause-so_far
returns-clause-so_far c =
    let w = script_of c.args.setup.now in
    let lists = c.args.cycles.now.lists in
    let e : c.deref.result.now ≡ c.args.journal.now.points = c.deref.ensures.value ∙ c.in_ok-points.ensures in
    IfOk-weaker c.verdict_of.result (IsTrueOf w (front_of c.deref.result.now lists)) _
    (λ v is. so_far_iff w (front_of c.args.journal.now.points lists) v
    (subst (λ ps. IsTrueOf w (front_of ps lists) v) e is)) c.verdict_of.ensures

pub returns-clause-no : goal.returns-clause-no
returns-clause-no c =
    let w = script_of c.args.setup.now in
    let lists = c.args.cycles.now.lists in
    let e : c.deref.result.now ≡ c.args.journal.now.points = c.deref.ensures.value ∙ c.in_ok-points.ensures in
    IfOk-weaker c.verdict_of.result (IsTrueOf w (front_of c.deref.result.now lists)) _
    (λ v is. no_iff w (front_of c.args.journal.now.points lists) v
    (subst (λ ps. IsTrueOf w (front_of ps lists) v) e is)) c.verdict_of.ensures

pub returns-clause-first : goal.returns-clause-first
returns-clause-first c =
    let w = script_of c.args.setup.now in
    let lists = c.args.cycles.now.lists in
    let e : c.deref.result.now ≡ c.args.journal.now.points = c.deref.ensures.value ∙ c.in_ok-points.ensures in
    IfOk-weaker c.verdict_of.result (IsTrueOf w (front_of c.deref.result.now lists)) _
    (λ v is. first_of_verdict w (front_of c.args.journal.now.points lists) v
    (subst (λ ps. IsTrueOf w (front_of ps lists) v) e is)) c.verdict_of.ensures
