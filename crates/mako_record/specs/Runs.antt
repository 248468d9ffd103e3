-- A machine that alone makes steps on words.
use Rattle.std.specs.Prelude.{ℕ, zero, suc, List, [], ◌∷◌, length, slice_index, slice_set}
use Rattle.mako_step.specs.declared.step.Step.{Step}
use Rattle.mako_step.specs.Acts.{finds, words_stepped}
use Rattle.mako_step.specs.Machines.{CanStep, machine_stepped}

-- words after each of these, given with its index, was written
abbrev pub written : List ℕ → List (ℕ × ℕ) → List ℕ
written words [] = words
written words (pair ∷ pairs) = written (slice_set words pair.0 pair.1) pairs

-- the machine, given by what it does next, what fits it and what it becomes, can make so many steps on these words
abbrev pub CanGo : {M : Type 0} → (M → Step) → (M → ℕ → Type 0) → (M → ℕ → M) → ℕ → M → List ℕ → Type 0
CanGo next Fits fed zero m words = Unit {0}
CanGo next Fits fed (suc k) m words = CanStep (next m) words (Fits m)
    × CanGo next Fits fed k (machine_stepped (next m) m (fed m (finds (next m) words))) (words_stepped (next m) words)
