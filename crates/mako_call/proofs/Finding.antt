-- What an act finds fits, where the step can be made.
use Rattle.std.proofs.Common.{ℕ, List}
use Rattle.mako_step.specs.Acts.{finds}
use Rattle.mako_step.specs.Machines.{CanStep, IsAct}
use Rattle.mako_step.specs.declared.step.Step.{Step}
use Rattle.mako_step.specs.declared.step.Step.TheVariants.{Do, Ended}

pub finds_fitting : (t : Step) (words : List ℕ) (Fits : ℕ → Type 0) → IsAct t → CanStep t words Fits
    → Fits (finds t words)
finds_fitting (Do act) words Fits acts can = can.2
finds_fitting Ended words Fits acts can = absurd acts
