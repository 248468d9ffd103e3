-- The history before the snapshot of a cycle, as a function.
use Rattle.std.specs.Prelude.{ℕ, ◌≡◌, ◌==◌, List, [], ◌∷◌, ◌++◌, Bool, false, if◌then◌else◌}
use Rattle.mako_model.specs.declared.point.Point.{Point}
use Rattle.mako_model.specs.declared.point.Point.TheVariants.{Snap}
use Rattle.mako_model.specs.Legal.{Facts, IsLegal}

abbrev pub is_snap : ℕ → Point → Bool
is_snap cycle (Snap k) = k == cycle
is_snap cycle p = false

-- the points before the first snapshot of the cycle
unfoldable pub before_snap : ℕ → List Point → List Point
before_snap cycle [] = []
before_snap cycle (p ∷ points) = if is_snap cycle p then [] else p ∷ before_snap cycle points

-- in a legal history they are what stands before any snapshot of the cycle: there is one
abbrev pub SnapshotsAreOne : Type 0
SnapshotsAreOne = (w : Facts) (before after : List Point) (cycle : ℕ) → IsLegal w (before ++ Snap cycle ∷ after)
    → before_snap cycle (before ++ Snap cycle ∷ after) ≡ before
