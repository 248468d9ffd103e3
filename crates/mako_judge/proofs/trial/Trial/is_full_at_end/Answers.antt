use Rattle.std.proofs.Common.{IsTrue, sym, ◌∙◌}
use Rattle.mako_judge.specs.Trials.{script, front}
use Rattle.mako_judge.proofs.Starving.{spent_iff, not_spent_iff}
use Rattle.mako_judge.proofs.trial.Trial.is_full_at_end.Goals as goal

pub returns-then-snaps-cycles : goal.returns-then-snaps-cycles
returns-then-snaps-cycles c =
    let w = script c.args.self.now in
    spent_iff w (front c.args.self.now) c.args.before.now c.args.fields c.saturating_sub.result
    (IsTrue c.are_tablets_full.result) (sym (c.snaps.ensures w)
    ∙ c.if-snaps-cycles.true) c.saturating_sub.ensures c.are_tablets_full.ensures

pub returns-else-snaps-cycles : goal.returns-else-snaps-cycles
returns-else-snaps-cycles c =
    let w = script c.args.self.now in
    not_spent_iff w (front c.args.self.now) c.args.before.now c.args.fields c.snaps.result
    (c.snaps.ensures w) c.if-snaps-cycles.false
