-- What machines have in common.
use Rattle.std.specs.Prelude.{ℕ, Bool, true, false, ◌<◌, List, length, slice_index}
use Rattle.mako_step.specs.declared.step.Step.{Step}
use Rattle.mako_step.specs.declared.step.Step.TheVariants.{Do, Ended}
use Rattle.mako_step.specs.Acts.{FitsOp, found}

-- the machine has an act to make
abbrev pub IsAct : Step → Type 0
IsAct (Do a) = Unit {0}
IsAct Ended = ⊥

-- a step of a job lowers its rank; the step that ends it finds the rank above 0
abbrev pub Lowers : Bool → ℕ → ℕ → Type 0
Lowers true before after = 0 < before
Lowers false before after = after < before

-- the act is of a word that there is, stays within it, and finds what fits
abbrev pub CanStep : Step → List ℕ → (ℕ → Type 0) → Type 0
CanStep (Do a) words Fits = (a.word < length words) × FitsOp a.op (slice_index words a.word)
    × Fits (found a.op (slice_index words a.word))
CanStep Ended words Fits = Unit {0}

-- the machine after its step, which at its end is itself
abbrev pub machine_stepped : {M : Type 0} → Step → M → M → M
machine_stepped (Do a) machine fed = fed
machine_stepped Ended machine fed = machine
