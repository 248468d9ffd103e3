use Rattle.std.proofs.Common.{IsTrue, ap, sym, ◌∙◌, arith}
use Rattle.mako_model.specs.Starved.{first_snap}
use Rattle.mako_judge.specs.Trials.{script, front}
use Rattle.mako_judge.proofs.Starving.{wait_iff}
use Rattle.mako_judge.proofs.trial.Trial.is_full_after_wait.Goals as goal

pub returns-then-cycle-len : goal.returns-then-cycle-len
returns-then-cycle-len c =
    wait_iff (script c.args.self.now)
    (front c.args.self.now) c.args.before.now c.args.mutator c.args.fields c.in-Some.cycle
    (IsTrue c.are_tablets_full.result)
    (ap first_snap (sym c.since.ensures) ∙ sym c.in-Some.ensures) (omega arith) c.are_tablets_full.ensures
