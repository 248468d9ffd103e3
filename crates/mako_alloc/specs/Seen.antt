-- What a `new` sees, and what it tells.
use Rattle.std.specs.Prelude.{◌≡◌, ℕ, ◌+◌, ◌*◌, ◌≤◌, ◌<◌, ◌⊎◌, List, true, false}
use Rattle.std.specs.List.{Contains}
use Rattle.mako_words.specs.Entries.{entry_at}
use Rattle.mako_words.specs.Gates.{is_shut}
use Rattle.mako_shape.specs.declared.numbers.Numbers.{Numbers}
use Rattle.mako_shape.specs.Places.{Place, index, tablet_gate, turn, leaving, top, entry}
use Rattle.mako_step.specs.declared.act.Op.{Op}
use Rattle.mako_step.specs.declared.act.Op.TheVariants.{Load, Add, Exchange}
use Rattle.mako_step.specs.Trails.{Observation}
use Rattle.mako_alloc.specs.declared.job.Job.{Job}

-- the operation on the word at this place, with the word that it found
abbrev pub sees : Numbers → Place → Op → ℕ → Observation
sees n place op w = record { act = record { word = index n place; op = op }; found = w }

-- the entry with this word is taken, or has had its last generation
abbrev pub IsUsed : Numbers → ℕ → Type 0
IsUsed n w = ((entry_at w).taken ≡ true) ⊎ (n.generations ≤ (entry_at w).generation)

-- the entry with this word is free, and its next object is of this generation
pub record IsFree (n : Numbers) (w generation : ℕ) : Type 0 where
  pub free : (entry_at w).taken ≡ false
  pub generation_is : (entry_at w).generation ≡ generation
  pub left : generation < n.generations

-- an arrival at the tablet's gate was admitted
abbrev pub IsAdmitted : Job → List Observation → ℕ → Type 0
IsAdmitted job trail t = (w : ℕ) × (is_shut w ≡ false) × Contains trail (sees job.shape (tablet_gate t) (Add 1) w)

-- the tablet's turn was free, and taken
abbrev pub IsTurnTaken : Job → List Observation → ℕ → Type 0
IsTurnTaken job trail t = Contains trail (sees job.shape (turn t) (Exchange 0 (job.mutator + 1)) 0)

-- the tablet could be tried: its gate admitted, its turn was taken, and it was leaving no region
pub record IsEntered (job : Job) (trail : List Observation) (t : ℕ) : Type 0 where
  pub admitted : IsAdmitted job trail t
  pub turn_taken : IsTurnTaken job trail t
  pub stays : Contains trail (sees job.shape (leaving t) Load 0)

-- no record of so many fields fitted over the tablet's top
abbrev pub HasNoRoom : Job → List Observation → ℕ → Type 0
HasNoRoom job trail t = (w : ℕ) × (job.shape.words < w + job.fields + 1)
    × Contains trail (sees job.shape (top t) Load w)

-- the entry at this place of the tablet was used
abbrev pub IsSeenUsed : Job → List Observation → ℕ → ℕ → Type 0
IsSeenUsed job trail t place =
    (w : ℕ) × IsUsed job.shape w × Contains trail (sees job.shape (entry (t * job.shape.entries + place)) Load w)

-- each entry of the tablet was used
abbrev pub HasNoEntry : Job → List Observation → ℕ → Type 0
HasNoEntry job trail t = (place : ℕ) → place < job.shape.entries → IsSeenUsed job trail t place

-- the tablet was tried, and had no room or no free entry
pub record IsFullTablet (job : Job) (trail : List Observation) (t : ℕ) : Type 0 where
  pub entered : IsEntered job trail t
  pub full : HasNoRoom job trail t ⊎ HasNoEntry job trail t
