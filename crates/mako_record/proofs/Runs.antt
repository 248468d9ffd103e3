-- A machine that can go on can go on behind a step.
use Rattle.std.proofs.Common.{◌≡◌, ℕ, zero, suc, ◌+◌, ◌-◌, ◌<◌, List, length, length-set, refl, sym, subst, arith}
use Rattle.mako_step.specs.declared.step.Step.{Step}
use Rattle.mako_step.specs.declared.step.Step.TheVariants.{Do, Ended}
use Rattle.mako_step.specs.Acts.{finds, words_stepped}
use Rattle.mako_step.specs.Machines.{CanStep, machine_stepped}
use Rattle.mako_record.specs.Runs.{CanGo}

parts : {M : Type 0} (next : M → Step) (Fits : M → ℕ → Type 0) (fed : M → ℕ → M) (k : ℕ) (m : M) (words : List ℕ)
    → 0 < k → CanGo next Fits fed k m words →
    CanStep (next m) words (Fits m)
    × CanGo next Fits fed (k - 1) (machine_stepped (next m) m (fed m (finds (next m) words)))
    (words_stepped (next m) words)
parts next Fits fed zero m words above goes = absurd (omega (arith, above))
parts next Fits fed (suc k) m words above goes =
    let e : k ≡ suc k - 1 = omega arith in
    subst (λ (j : ℕ). CanStep (next m) words (Fits m)
    × CanGo next Fits fed j (machine_stepped (next m) m (fed m (finds (next m) words)))
    (words_stepped (next m) words)) e goes

-- it can go on behind the step with this number
pub goes_on : {M : Type 0} (next : M → Step) (Fits : M → ℕ → Type 0) (fed : M → ℕ
    → M) (steps i : ℕ) (m after : M) (words later : List ℕ) → i < steps → CanGo next Fits fed (steps - i) m words →
    after ≡ machine_stepped (next m) m (fed m (finds (next m) words)) → later ≡ words_stepped (next m) words
    → CanGo next Fits fed (steps - (i + 1)) after later
goes_on {M = M} next Fits fed steps i m after words later below goes e w =
    let less : steps - i - 1 ≡ steps - (i + 1) = omega arith in
    let rest = (parts next Fits fed (steps - i) m words (omega (arith, below)) goes).1 in
    let here = subst (λ (j : ℕ). CanGo next Fits fed j (machine_stepped (next m) m (fed m (finds (next m) words)))
    (words_stepped (next m) words)) less rest in
    subst (λ (l : List ℕ). CanGo next Fits fed (steps - (i + 1)) after l) (sym w)
    (subst (λ (l : M). CanGo next Fits fed (steps - (i + 1)) l (words_stepped (next m) words)) (sym e) here)

-- no word is added or taken away
pub words_stay : (s : Step) (words : List ℕ) → length (words_stepped s words) ≡ length words
words_stay (Do a) words = length-set words a.word _
words_stay Ended words = refl
