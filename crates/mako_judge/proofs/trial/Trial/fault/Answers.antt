use Rattle.std.proofs.Common.{refl, sym, ◌∙◌}
use Rattle.mako_judge.specs.Trials.{script, front}
use Rattle.mako_judge.proofs.Kept.{false_true}
use Rattle.mako_judge.proofs.Clauses.{fault_there, fault_apart}
use Rattle.mako_judge.proofs.Places.{parts_of}
use Rattle.mako_judge.proofs.trial.Trial.fault.Goals as goal

pub returns-in-Some : goal.returns-in-Some
returns-in-Some c = (
  refl,
  fault_there (script c.args.self.now) (front c.args.self.now) c.args.clause c.in-Some.place
      (rw c.in-Some.is at c.in_ok-place.ensures),
)

pub returns-in-None : goal.returns-in-None
returns-in-None c = (parts_of (script c.args.self.now) (front c.args.self.now) c.args.clause).1
    (c.holds_apart.ensures.0 c.if-holds_apart.true, rw c.in-None.is at c.in_ok-place.ensures)

pub returns-in-None-2 : goal.returns-in-None-2
returns-in-None-2 c = (
  refl,
  fault_apart (script c.args.self.now) (front c.args.self.now) c.args.clause
      (λ apart. false_true (sym c.if-holds_apart.false ∙ c.holds_apart.ensures.1 apart))
      (rw c.in-None.is at c.in_ok-place.ensures),
)
