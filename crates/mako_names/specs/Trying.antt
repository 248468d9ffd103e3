-- What a mutator knows of a cycle that it asked for, and of its last attempt to make an object.
use Rattle.std.specs.Prelude.{ℕ, ◌≡◌, ◌+◌, ◌*◌, ◌%◌, ◌<◌, ◌⊎◌, List, slice_get, Some}
use Rattle.mako_model.specs.Fronts.{Seen}
use Rattle.mako_model.specs.Legal.{Facts, state_of}
use Rattle.mako_model.specs.LawfulFronts.{since}
use Rattle.mako_model.specs.Starved.{snaps_in, IsAwaited, AreSpent, IsEntryUnavailable, IsTabletFull}

-- Of a mutator is read: nothing; or the cycle that it waits for; or that it makes its last attempt at an object of so
-- many fields, in which it has gone over so many tablets, and so many entries of the next, with no reason to pause.
pub data Trying : Type 0 where
  Nothing : Trying
  Asked : ℕ → Trying
  Last : ℕ → ℕ → ℕ → Trying

-- the tablet that the mutator comes to after so many others, from its own number on and around
abbrev pub tablet_at : Facts → ℕ → ℕ → ℕ
tablet_at w m passed = (m + passed) % w.tablets

-- For some cycle that the mutator waited for, or that is the last but one where all are spent, each tablet that it has
-- gone over is full, and each entry of the next that it has seen can take no object. The cycle is chosen when the last
-- attempt begins and kept.
pub record IsLastSoFar (w : Facts) (front : Seen) (m fields tablets entries : ℕ) : Type 0 where
  pub cycle : ℕ
  pub awaited : IsAwaited front front.history m cycle ⊎ AreSpent w front.history cycle
  pub gone : (passed : ℕ) → passed < tablets → IsTabletFull w front front.history cycle fields (tablet_at w m passed)
  pub seen : (passed : ℕ) → passed < entries
      → IsEntryUnavailable w front front.history cycle (tablet_at w m tablets * w.entries + passed)

-- A cycle that was asked for comes after all snapshots that were taken before the mutator's last point: the snapshots
-- since then have come up to it, or will.
abbrev pub TryingStands : Facts → Seen → ℕ → Trying → Type 0
TryingStands w front m Nothing = Unit {0}
TryingStands w front m (Asked cycle) = (state_of w front.history).snaps < cycle + snaps_in (since m front.history)
TryingStands w front m (Last fields tablets entries) = IsLastSoFar w front m fields tablets entries

-- so it is for each mutator
abbrev pub AllTrying : Facts → Seen → List Trying → Type 0
AllTrying w front facets = (m : ℕ) (facet : Trying) → slice_get facets m ≡ Some facet → TryingStands w front m facet
