use Rattle.std.proofs.Common.{take, ap, sym, ◌∙◌, arith}
use Rattle.std.proofs.lemmas.Option.{slice_get_within}
use Rattle.mako_judge.proofs.Calling.{next_made, none_made, other_made}
use Rattle.mako_judge.proofs.Kept.{false_true}
use Rattle.mako_judge.proofs.programs.calls_made.Goals.{in-Some+else-not-is_at, in_default}
use Rattle.mako_judge.proofs.programs.calls_made.Goals as goal

pub returns-then-not-is_at : goal.returns-then-not-is_at
returns-then-not-is_at c =
    other_made c.args.mutator c.args.points.now c.args.program.now c.loop-point.point-index c.loop-point.made
    c.in-Some.call c.loop-point-test.true c.loop-point.invariant.made c.in-Some.ensures
    c.loop-point.invariant.within (λ e. false_true (sym c.if-not-is_at.true ∙ c.is_at.ensures.1 e))

pub loop-point-preserved : goal.loop-point-preserved
loop-point-preserved c =
    let points = c.args.points.now in
    let program = c.args.program.now in
    let made = c.loop-point.made in
    elim c.match-call_by.branch [
      | in-Some+else-not-is_at w ↦
          let there = w.is_at.ensures.0 w.if-not-is_at.false in
          let within = slice_get_within program made w.in-Some.call there in
          let is = w.made-is in record {
            made = next_made c.args.mutator points program c.loop-point.point-index made w.in-Some.call
                c.loop-point-test.true c.loop-point.invariant.made w.in-Some.ensures there
                ∙ ap (λ n. take n program) (sym is);
            within = omega arith;
          }
      | in_default w ↦
          let is = w.made-is in record {
            made = none_made c.args.mutator points program c.loop-point.point-index made c.loop-point-test.true
                c.loop-point.invariant.made w.in_default.ensures ∙ ap (λ n. take n program) (sym is);
            within = omega arith;
          }
    ]
