-- What the collector's trail shows of the mutators' gates.
use Rattle.std.specs.Prelude.{◌≡◌, ◌≢◌, ℕ, ◌<◌, List, ◌∷◌, ◌++◌}
use Rattle.std.specs.List.{All}
use Rattle.mako_words.specs.Gates.{count_of}
use Rattle.mako_words.specs.Words.{all_but}
use Rattle.mako_words.specs.declared.gate_word.TheConstants.GateWord.{SHUT}
use Rattle.mako_shape.specs.declared.numbers.Numbers.{Numbers}
use Rattle.mako_shape.specs.Places.{index, mutator_gate}
use Rattle.mako_step.specs.declared.act.Act.{Act}
use Rattle.mako_step.specs.declared.act.Op.{Op}
use Rattle.mako_step.specs.declared.act.Op.TheVariants.{Load, Or, And}
use Rattle.mako_step.specs.Trails.{Observation}

-- the act was made and found such a word, after what had to be before it, and this other act was not made since
pub record Stands (Before : List Observation → Type 0) (act : Act) (Found : ℕ → Type 0) (other : Act)
    (trail : List Observation) : Type 0 where
  pub front : List Observation
  pub found : ℕ
  pub since : List Observation
  pub before : Before front
  pub tells : Found found
  pub made : trail ≡ front ++ record { act = act; found = found } ∷ since
  pub kept : All (λ o. o.act ≢ other) since

abbrev pub at_gate : Numbers → ℕ → Op → Act
at_gate n m op = record { word = index n (mutator_gate m); op = op }

-- the acts that set the shut bit of a mutator's gate, and that take it away
abbrev pub shuts : Numbers → ℕ → Act
shuts n m = at_gate n m (Or SHUT)

abbrev pub opens : Numbers → ℕ → Act
opens n m = at_gate n m (And (all_but SHUT))

-- the gate was shut, and not opened since
abbrev pub IsShut : Numbers → ℕ → List Observation → Type 0
IsShut n m trail = Stands (λ _. Unit {0}) (shuts n m) (λ _. Unit {0}) (opens n m) trail

-- while it was shut a look found it counting nobody, and it was not opened since
abbrev pub IsDrained : Numbers → ℕ → List Observation → Type 0
IsDrained n m trail = Stands (IsShut n m) (at_gate n m Load) (λ w. count_of w ≡ 0) (opens n m) trail

-- the gate was opened, and not shut since
abbrev pub IsOpen : Numbers → ℕ → List Observation → Type 0
IsOpen n m trail = Stands (λ _. Unit {0}) (opens n m) (λ _. Unit {0}) (shuts n m) trail

-- so it is with the gates of the mutators below this one
abbrev pub EachBelow : (Numbers → ℕ → List Observation → Type 0) → Numbers → ℕ → List Observation → Type 0
EachBelow Gate n count trail = (m : ℕ) → m < count → Gate n m trail
