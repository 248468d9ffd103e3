use Rattle.mako_judge.specs.Trials.{script, front}
use Rattle.mako_judge.proofs.Starving.{starved_iff}
use Rattle.mako_judge.proofs.trial.Trial.is_starved.Goals as goal

pub returns-else-is_full_after_wait : goal.returns-else-is_full_after_wait
returns-else-is_full_after_wait c =
    starved_iff (script c.args.self.now)
    (front c.args.self.now) c.args.before.now c.args.mutator c.args.fields c.is_full_after_wait.result
    c.is_full_at_end.result c.is_full_after_wait.ensures
    c.is_full_at_end.ensures c.if-is_full_after_wait.false
