use Rattle.std.proofs.Common.{get_or, sym, ◌∙◌}
use Rattle.std.proofs.lemmas.Option.{slice_get-get_or}
use Rattle.mako_judge.specs.Trials.{script, front}
use Rattle.mako_judge.proofs.Calling.{blank}
use Rattle.mako_judge.proofs.Kept.{false_true}
use Rattle.mako_judge.proofs.Replaying.{holds_more}
use Rattle.mako_judge.proofs.trial.Trial.first_breach.Goals as goal

pub loop-place-preserved : goal.loop-place-preserved
loop-place-preserved c =
    holds_more (script c.args.self.now) (front c.args.self.now) c.args.clause c.loop-place.place
    (λ q at. (c.in_ok-holds_at.ensures q at).0 c.if-not-branch.false) c.loop-place.invariant

pub returns-then-not-branch : goal.returns-then-not-branch
returns-then-not-branch c =
    let points = c.args.self.now.points.now in
    let there = slice_get-get_or points c.loop-place.place blank c.loop-place-test.true in record {
      point = get_or points c.loop-place.place blank;
      there = there;
      broken = λ holds. false_true (sym c.if-not-branch.true ∙ (c.in_ok-holds_at.ensures _ there).1 holds);
      before = c.loop-place.invariant;
    }
