-- What each step of a machine keeps holds along its trails.
use Rattle.std.proofs.Common.{◌≡◌, ℕ, List, [], ◌∷◌, ◌++◌, subst, sym, refl}
use Rattle.mako_step.specs.Machines.{IsAct}
use Rattle.mako_step.specs.Trails.{Observation, Goes}
use Rattle.mako_step.specs.Trails.Goes.{stays, steps}
use Rattle.mako_step.specs.declared.act.Act.{Act}
use Rattle.mako_step.specs.declared.act.Op.TheVariants.{Load}
use Rattle.mako_step.specs.declared.step.Step.{Step}
use Rattle.mako_step.specs.declared.step.Step.TheVariants.{Do, Ended}

-- the act that a step makes
abbrev pub did : Step → Act
did (Do act) = act
did Ended = record { word = 0; op = Load }

pub do_did : (step : Step) → IsAct step → step ≡ Do (did step)
do_did (Do act) acts = refl
do_did Ended acts = absurd acts

pub is_act : (step : Step) (act : Act) → step ≡ Do act → IsAct step
is_act step act next = subst IsAct (sym next) tt

module _ {M : Type 0} (next_of : M → Step) (Fits : M → ℕ → Type 0) (fed : M → ℕ → M) where
  -- the fact is kept by the step that makes this act and finds this word
  abbrev pub Keeps : (M → List Observation → Type 0) → Type 0
  Keeps P = (l : M) (trail : List Observation) (act : Act) (w : ℕ) → next_of l ≡ Do act → Fits l w → P l trail
      → P (fed l w) (trail ++ record { act = act; found = w } ∷ [])

  pub along : (P : M → List Observation → Type 0) → Keeps P → (m l : M) (trail : List Observation) → P m []
      → Goes next_of Fits fed m trail l → P l trail
  along P keeps m l trail start (stays _) = start
  along P keeps m l trail start (steps _ j before act w goes next fits) =
      keeps j before act w next fits (along P keeps m j before start goes)
