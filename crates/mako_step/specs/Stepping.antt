-- What a step comes to.
use Rattle.std.specs.Prelude.{ℕ, Bool, true, false}
use Rattle.mako_step.specs.declared.step.Step.{Step}
use Rattle.mako_step.specs.declared.step.Step.TheVariants.{Do, Ended}
use Rattle.mako_step.specs.declared.stepping.Stepped.{Stepped}
use Rattle.mako_step.specs.declared.stepping.Stepped.TheVariants.{Ended as StepEnded, Waiting, Moved}

-- the end, a look that waits with the word found, or what the step tells
abbrev pub stepped : {E : Type 0} → Step → Bool → ℕ → E → Stepped E
stepped Ended waits found event = StepEnded
stepped (Do a) true found event = Waiting found
stepped (Do a) false found event = Moved event
