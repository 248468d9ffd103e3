-- The trails of a machine: the acts that it made, with the words that they found.
use Rattle.std.specs.Prelude.{◌≡◌, ℕ, List, [], ◌∷◌, ◌++◌}
use Rattle.mako_step.specs.declared.act.Act.{Act}
use Rattle.mako_step.specs.declared.step.Step.{Step}
use Rattle.mako_step.specs.declared.step.Step.TheVariants.{Do}

-- an act, with the word that it found
pub record Observation : Type 0 where
  pub act : Act
  pub found : ℕ

-- the machine, given by what it does next, what fits it and what it becomes, goes by these observations from one view
-- to another
pub data Goes {M : Type 0} (next_of : M → Step) (Fits : M → ℕ → Type 0) (fed : M → ℕ → M) : M → List Observation → M
    → Type 0 where
  stays : (m : M) → Goes next_of Fits fed m [] m
  steps : (m l : M) (trail : List Observation) (act : Act) (word : ℕ) → Goes next_of Fits fed m trail l
      → next_of l ≡ Do act → Fits l word →
      Goes next_of Fits fed m (trail ++ record { act = act; found = word } ∷ []) (fed l word)
