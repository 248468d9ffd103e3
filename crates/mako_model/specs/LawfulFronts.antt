-- Lawful fronts.
use Rattle.std.specs.Prelude.{ℕ, ◌≡◌, ◌+◌, ◌*◌, ◌<◌, ◌≤◌, ◌==◌, List, [], ◌∷◌, ◌++◌, length, slice_get, Some}
use Rattle.std.specs.Prelude.{if◌then◌else◌}
use Rattle.std.specs.List.{fold, Contains}
use Rattle.mako_words.specs.declared.name.Name.{Name}
use Rattle.mako_model.specs.declared.call.Call.{Call}
use Rattle.mako_model.specs.declared.reply.Reply.TheVariants.{Made, Cycle}
use Rattle.mako_model.specs.declared.point.Point.{Point}
use Rattle.mako_model.specs.declared.point.Point.TheVariants.{Did, Snap}
use Rattle.mako_model.specs.Fronts.{Seen}
use Rattle.mako_model.specs.Legal.{Facts, state_of, IsLegal}
use Rattle.mako_model.specs.Dead.{names_made, IsDead, AreFreed}

-- the points since the last one of the mutator, with one more
abbrev pub since_next : ℕ → List Point → Point → List Point
since_next mutator points (Did m call reply) = if m == mutator then [] else points ++ Did m call reply ∷ []
since_next mutator points (Snap cycle) = points ++ Snap cycle ∷ []

-- the points since the last one of the mutator
abbrev pub since : ℕ → List Point → List Point
since mutator history = fold (since_next mutator) [] history

-- where a wait was answered, its cycle is finished, and its snapshot came after the mutator's point before
abbrev pub AnsweredWaitsAreOver : Seen → Type 0
AnsweredWaitsAreOver front = (before after : List Point) (mutator : ℕ) (call : Call) (cycle : ℕ) →
    front.history ≡ before ++ Did mutator call (Cycle cycle) ∷ after →
    (cycle ≤ length front.finished) × Contains (since mutator before) (Snap cycle)

-- the entry and the generation of a name are in their ranges
pub record IsInRange (w : Facts) (name : Name) : Type 0 where
  pub entry : name.entry < w.tablets * w.entries
  pub generation : name.generation < w.generations

-- An entry is used again only with the next generation, after its name before was dead at a snapshot:
-- where a name is made after some snapshots, that one is dead at the last of them.
abbrev pub ReusesAreOfDead : Facts → List Point → Type 0
ReusesAreOfDead w history = (before after : List Point) (mutator : ℕ) (call : Call) (entry generation : ℕ) →
    history ≡ before ++ Did mutator call (Made (record { entry = entry; generation = generation + 1 })) ∷ after →
    Contains (names_made before) (record { entry = entry; generation = generation })
    × IsDead w history (state_of w before).snaps (record { entry = entry; generation = generation })

-- The history is legal; all cycles that have begun are finished, but for the last one maybe; each freed the names
-- that died in it; and waits, names and used entries are as they may be.
pub record IsLawfulFront (w : Facts) (front : Seen) : Type 0 where
  pub legal : IsLegal w front.history
  pub finished : length front.finished ≤ (state_of w front.history).snaps
  pub unfinished : (state_of w front.history).snaps ≤ length front.finished + 1
  pub freed : (i : ℕ) (names : List Name) → slice_get front.finished i ≡ Some names
      → AreFreed w front.history (i + 1) names
  pub waits : AnsweredWaitsAreOver front
  pub names : (name : Name) → Contains (names_made front.history) name → IsInRange w name
  pub reuses : ReusesAreOfDead w front.history
