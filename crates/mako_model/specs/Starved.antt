-- When there may be no room for a new object.
use Rattle.std.specs.Prelude.{ℕ, ◌≡◌, ◌+◌, ◌-◌, ◌/◌, ◌<◌, ◌≤◌, ◌==◌, ◌⊎◌, List, [], ◌∷◌, length, Some, None}
use Rattle.std.specs.Prelude.{if◌then◌else◌}
use Rattle.std.specs.declared.option.Option.{Option}
use Rattle.std.specs.List.{sum_by, Contains}
use Rattle.mako_model.specs.declared.call.Call.TheVariants.{New}
use Rattle.mako_model.specs.declared.reply.Reply.TheVariants.{Made}
use Rattle.mako_model.specs.declared.point.Point.{Point}
use Rattle.mako_model.specs.declared.point.Point.TheVariants.{Did, Snap}
use Rattle.mako_model.specs.Fronts.{Seen}
use Rattle.mako_model.specs.Legal.{Facts, state_of}
use Rattle.mako_model.specs.Dead.{names_made, IsDead}
use Rattle.mako_model.specs.LawfulFronts.{since}

-- the first snapshot among the points
abbrev pub first_snap : List Point → Option ℕ
first_snap [] = None
first_snap (Snap cycle ∷ points) = Some cycle
first_snap (Did mutator call reply ∷ points) = first_snap points

-- how many of the points are snapshots
abbrev pub snaps_in : List Point → ℕ
snaps_in [] = 0
snaps_in (Snap cycle ∷ points) = snaps_in points + 1
snaps_in (Did mutator call reply ∷ points) = snaps_in points

-- a finished cycle, the first whose snapshot came since the mutator's last point
pub record IsAwaited (front : Seen) (before : List Point) (mutator cycle : ℕ) : Type 0 where
  pub first : first_snap (since mutator before) ≡ Some cycle
  pub finished : cycle ≤ length front.finished

-- no cycle is left, and this is the one before the last, or 0 where there are none
pub record AreSpent (w : Facts) (before : List Point) (cycle : ℕ) : Type 0 where
  pub all : (state_of w before).snaps ≡ w.cycles
  pub last : cycle ≡ w.cycles - 1

-- the entry can take no new object: a name of it was made and is not dead in the cycle, or that of its last
-- generation was made
abbrev pub IsEntryUnavailable : Facts → Seen → List Point → ℕ → ℕ → Type 0
IsEntryUnavailable w front before cycle entry =
    ((generation : ℕ) × Contains (names_made before) (record { entry = entry; generation = generation })
    × ¬ IsDead w front.history cycle (record { entry = entry; generation = generation }))
    ⊎ Contains (names_made before) (record { entry = entry; generation = w.generations - 1 })

-- how many words the object takes that a point makes in the tablet
abbrev pub words_by : Facts → ℕ → Point → ℕ
words_by w tablet (Did mutator (New root fields) (Made name)) =
    if name.entry / w.entries == tablet then fields + 1 else 0
words_by w tablet point = 0

-- how many words all objects that were ever made in the tablet take, with the board, which is in tablet 0
abbrev pub words_made : Facts → ℕ → List Point → ℕ
words_made w tablet history = (if tablet == 0 then w.board + 1 else 0) + sum_by (words_by w tablet) history

-- no entry of the tablet can take a new object, or all objects made in it, with one of so many fields more, take more
-- words than a region has
abbrev pub IsTabletFull : Facts → Seen → List Point → ℕ → ℕ → ℕ → Type 0
IsTabletFull w front before cycle fields tablet =
    ((entry : ℕ) → entry / w.entries ≡ tablet → IsEntryUnavailable w front before cycle entry)
    ⊎ (w.words < words_made w tablet before + fields + 1)

-- after the cycle that the mutator waited for, or with no cycle left, no tablet has room for so many fields
pub record IsStarved (w : Facts) (front : Seen) (before : List Point) (mutator fields : ℕ) : Type 0 where
  pub cycle : ℕ
  pub awaited : IsAwaited front before mutator cycle ⊎ AreSpent w before cycle
  pub full : (tablet : ℕ) → tablet < w.tablets → IsTabletFull w front before cycle fields tablet
