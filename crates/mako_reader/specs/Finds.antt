-- What a reader returns.
use Rattle.std.specs.Prelude.{◌≡◌, List, [], ◌∷◌, Result, Ok, Err}
use Rattle.mako_reader.specs.declared.refusal.Refusal.{Refusal}
use Rattle.mako_reader.specs.declared.refusal.Refusal.TheVariants.{Bad, Memory}

-- nothing is such, unless memory ran out
abbrev pub Refused : {Y : Type 0} → (Y → Type 0) → Refusal → Type 0
Refused {Y} Is Bad = (y : Y) → ¬ Is y
Refused Is Memory = Unit {0}

-- what a reader returned, seen by view, is such; and where it is Bad, nothing is
abbrev pub Finds : {X Y : Type 0} → (Y → Type 0) → (X → Y) → Result X Refusal → Type 0
Finds Is view (Ok x) = Is (view x)
Finds Is view (Err e) = Refused Is e

-- a value for each of a list is read, one behind the other, up to what is left
abbrev pub ReadsEach : {K V S : Type 0} → (K → S → V × S → Type 0) → List K → S → List V × S → Type 0
ReadsEach Reads [] s read = (read.0 ≡ []) × (s ≡ read.1)
ReadsEach {K} {V} {S} Reads (k ∷ ks) s read =
    (v : V) × (t : S) × (vs : List V) × (read.0 ≡ v ∷ vs) × Reads k s (v, t) × ReadsEach Reads ks t (vs, read.1)
